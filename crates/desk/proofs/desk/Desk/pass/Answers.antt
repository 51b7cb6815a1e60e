-- One pass more is handed out.
use Rattle.std.proofs.Common.{[], ap, ◌∙◌, ◌+◌, arith}
use Rattle.desk.specs.Shared.{Desk, Pass}
use Rattle.desk.proofs.desk.Desk.pass.Goals as goal

pub invariant_of-self : goal.invariant_of-self
invariant_of-self g c = c.self.invariant

pub invariant_of-self-in_default-reader : goal.invariant_of-self-in_default-reader
invariant_of-self-in_default-reader g c = c.self.invariant

pub returns-in_default-clause-err : goal.returns-in_default-clause-err
returns-in_default-clause-err g c = c.self.view_is

pub returns-in_default-reader-clause-err : goal.returns-in_default-reader-clause-err
returns-in_default-reader-clause-err g c = c.self.view_is

pub returns-clause-handed : goal.returns-clause-handed
returns-clause-handed g c = ap (λ (d : Desk). record d { handed = d.handed + 1 }) c.self.view_is

pub returns-clause-pass : goal.returns-clause-pass
returns-clause-pass g c = c.new-pass.ensures ∙ (λ t. record { caller = record { number = (c.self.view_is t).handed; calls = 0 }; seen = [] })

pub returns-clause-of : goal.returns-clause-of
returns-clause-of g c =
    let number = ap (λ (p : Pass). p.caller.number) c.new-pass.ensures in
    omega arith

pub returns-clause-all_handed : goal.returns-clause-all_handed
returns-clause-all_handed g c = λ e. absurd (c.if-self-eq-MAX_PASSES.false (ap (λ (d : Desk). d.handed) c.self.view_is ∙ e))

pub invariant_of-self-2 : goal.invariant_of-self-2
invariant_of-self-2 g c =
    let most = c.self.invariant.0 in
    let other = c.if-self-eq-MAX_PASSES.false in
    (omega arith, c.self.invariant.1)
