use Rattle.std.proofs.Common.{refl, sym, inl, inr}
use Rattle.wmodule.specs.Syntax.{module_of}
use Rattle.wmach.specs.Call.{called_function}
use Rattle.wmach.specs.declared.export.Export.TheVariants as export
use Rattle.plugin.proofs.KitLemmas.{nothing_called, ends_of_call}
use Rattle.plugin.proofs.StayLemmas.{called_stays, sound_stays}
use Rattle.plugin.proofs.member.Member.score_shown.Goals as goal

pub returns-then-not-has-clause-says : goal.returns-then-not-has-clause-says
returns-then-not-has-clause-says c = λ told alike.
    rw (sym c.self.view_is) (inl (nothing_called (called_function (module_of c.self.inside.instance.content) export.Score) c.if-not-has.ensures, refl))

pub returns-in-Some-clause-says : goal.returns-in-Some-clause-says
returns-in-Some-clause-says c = λ told alike.
    rw (sym c.self.view_is) (inr (c.in-Some.outcome, ends_of_call c.self.inside.weight c.self.inside.fuel c.self.inside.instance c.call_shown.new.self export.Score told c.in-Some.outcome (c.in-Some.ensures.calls told alike), c.score_verdict.ensures.value))

pub invariant_of-self : goal.invariant_of-self
invariant_of-self c = sound_stays c.self.inside c.count.new.self c.call_shown.new.self c.call_shown.ensures.stays c.self.invariant

pub invariant_of-self-in-None : goal.invariant_of-self-in-None
invariant_of-self-in-None c = sound_stays c.self.inside c.self.inside.spent c.call_shown.new.self c.call_shown.ensures.stays c.self.invariant

pub returns-in-Some-clause-stays : goal.returns-in-Some-clause-stays
returns-in-Some-clause-stays c =
    called_stays c.args.self.now c.self.inside.weight c.self.inside.fuel c.self.inside.instance c.call_shown.new.self c.self.view_is c.call_shown.ensures.stays

pub returns-in-None-clause-stays : goal.returns-in-None-clause-stays
returns-in-None-clause-stays c =
    called_stays c.args.self.now c.self.inside.weight c.self.inside.fuel c.self.inside.instance c.call_shown.new.self c.self.view_is c.call_shown.ensures.stays
