-- The reader is taken out and put back, and else nothing changes.
use Rattle.std.proofs.Common.{sym, subst, ◌∙◌}
use Rattle.std.specs.Prelude.{IfOk}
use Rattle.std.proofs.lemmas.Result.{on_err_weaker}
use Rattle.desk.specs.Shared.{Pass, IsLooked}
use Rattle.desk.proofs.pass.Pass.look.Goals as goal

pub invariant_of-self : goal.invariant_of-self
invariant_of-self g c = c.self.invariant

pub invariant_of-self-in-Err : goal.invariant_of-self-in-Err
invariant_of-self-in-Err g c = c.self.invariant

pub invariant_of-self-in-Ok : goal.invariant_of-self-in-Ok
invariant_of-self-in-Ok g c = c.self.invariant

pub invariant_of-self-in-Ok-2 : goal.invariant_of-self-in-Ok-2
invariant_of-self-in-Ok-2 g c = c.self-in-Ok.invariant

pub returns-in_default-clause-err : goal.returns-in_default-clause-err
returns-in_default-clause-err g c = c.self.view_is

pub returns-in-Err-clause-err : goal.returns-in-Err-clause-err
returns-in-Err-clause-err g c = c.self.view_is

pub returns-in-Ok-clause-looked : goal.returns-in-Ok-clause-looked
returns-in-Ok-clause-looked g c =
    let r = c.look_at-shown.result in
    subst (λ (p : Pass). IfOk r (λ shown. IsLooked (record { limits = g.J.Naming.limits; handed = c.args.handed }) c.args.self.now shown p)) (sym c.self-in-Ok.view_is)
    (subst (λ (p : Pass). IfOk r (λ shown. IsLooked (record { limits = g.J.Naming.limits; handed = c.args.handed }) p shown c.look_at-shown.new.self)) c.self.view_is c.look_at-shown.ensures.looked)

pub returns-in-Ok-clause-err : goal.returns-in-Ok-clause-err
returns-in-Ok-clause-err g c = on_err_weaker c.look_at-shown.result (λ e. c.self-in-Ok.view_is ∙ e ∙ c.self.view_is) c.look_at-shown.ensures.err
