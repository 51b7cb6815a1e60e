use Rattle.std.proofs.Common.{refl, sym, inl, inr}
use Rattle.wmodule.specs.Syntax.{module_of}
use Rattle.wmach.specs.Call.{called_function}
use Rattle.wmach.specs.declared.export.Export.TheVariants as export
use Rattle.plugin.proofs.KitLemmas.{nothing_called, ends_of_call}
use Rattle.plugin.proofs.StayLemmas.{called_stays, sound_stays}
use Rattle.plugin.proofs.member.Member.filter.Goals as goal

pub returns-then-not-has-clause-says : goal.returns-then-not-has-clause-says
returns-then-not-has-clause-says c =
    rw (sym c.self.view_is) (inl (nothing_called (called_function (module_of c.self.inside.instance.content) export.Filter) c.if-not-has.ensures, refl))

pub returns-clause-says : goal.returns-clause-says
returns-clause-says c =
    rw (sym c.self.view_is) (inr (c.call-outcome.result, ends_of_call c.self.inside.weight c.self.inside.fuel c.self.inside.instance c.call-outcome.new.self export.Filter c.args.records.now c.call-outcome.result c.call-outcome.ensures.calls, c.filter_verdict.ensures))

pub invariant_of-self : goal.invariant_of-self
invariant_of-self c = sound_stays c.self.inside c.count.new.self c.call-outcome.new.self c.call-outcome.ensures.stays c.self.invariant

pub returns-clause-stays : goal.returns-clause-stays
returns-clause-stays c =
    called_stays c.args.self.now c.self.inside.weight c.self.inside.fuel c.self.inside.instance c.call-outcome.new.self c.self.view_is c.call-outcome.ensures.stays
