-- What lies under the lock takes the call, if it is there.
use Rattle.std.proofs.Common.{◌<◌, ℕ, refl, sym, ap, subst}
use Rattle.std.specs.Prelude.{IfOk}
use Rattle.desk.specs.Shared.{Desk, IsApplied}
use Rattle.desk.proofs.desk.Desk.apply.Goals as goal
use Rattle.desk.proofs.desk.Desk.apply.Goals.{in-None, in-Some}

pub apply-held-requires-clause-of : goal.apply-held-requires-clause-of
apply-held-requires-clause-of g c = subst (λ (n : ℕ). c.args.pass.now.caller.number < n) (sym (ap (λ (d : Desk). d.handed) c.self.view_is)) c.requires.of

pub apply-held-requires-clause-handed : goal.apply-held-requires-clause-handed
apply-held-requires-clause-handed g c = c.self.invariant.0

pub apply-held-requires-clause-timely : goal.apply-held-requires-clause-timely
apply-held-requires-clause-timely g c = c.requires.timely

pub returns-clause-applied : goal.returns-clause-applied
returns-clause-applied g c = elim c.match-take.branch [
  | in-None w ↦ rw w.answer-is tt
  | in-Some w ↦ rw (w.answer-is, w.pass-is)
      (subst (λ (d : Desk). IfOk w.apply-held.result.1 (λ answer. IsApplied d c.args.pass.now c.args.step answer w.apply-held.new.pass)) c.self.view_is w.apply-held.ensures.applied)
]

pub returns-clause-used_up : goal.returns-clause-used_up
returns-clause-used_up g c = λ many. elim c.match-take.branch [
  | in-None w ↦ rw w.answer-is refl
  | in-Some w ↦ rw w.answer-is (w.apply-held.ensures.used_up many)
]

pub returns-clause-err : goal.returns-clause-err
returns-clause-err g c = elim c.match-take.branch [
  | in-None w ↦ rw w.answer-is w.pass-is
  | in-Some w ↦ rw (w.answer-is, w.pass-is) w.apply-held.ensures.err
]
