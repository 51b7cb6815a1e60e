use Rattle.std.proofs.Common.{◌≡◌, inl, inr, rules}
use Rattle.std.specs.Bool.{IsTrue}
use Rattle.std.proofs.lemmas.Result.{IfErr-weaker, IfOk-weaker}
use Rattle.choose.specs.Kits.{rules_of}
use Rattle.cycle.specs.Cycle.{AreSeen}
use Rattle.cycle.proofs.Cycles.{left_alone}
use Rattle.cycle.proofs.one_cycle.place.Goals as goal

-- the choice is among what the look shows, and is done
pub returns-in-Ok-decide-clause-decided : goal.returns-in-Ok-decide-clause-decided
returns-in-Ok-decide-clause-decided g c =
    let ends = rw c.deref-in-Ok-decide.ensures at c.end_with.ensures.ends in
    IfOk-weaker c.end_with.result _ _
    (λ came ends. record { decision = _; looked = _; chosen = record { rows = _; looked = c.in-Ok.ensures.looked; choice = c.in-Ok-decide.ensures.chosen }; ends = ends }) ends

-- by the verdicts on what it shows
pub returns-in-Ok-decide-clause-verdicts : goal.returns-in-Ok-decide-clause-verdicts
returns-in-Ok-decide-clause-verdicts g c =
    let seen : IsTrue c.args.explains → AreSeen (rules_of g.D.Kit.Rules.answers (g.D.Decider.kits c.args.decider.now)) c.args.desk.now c.args.pass.now c.args.pod.now (g.D.Decider.last c.decide.new.self) =
    λ yes. record { rows = _; looked = _; looks = c.in-Ok.ensures.looked; are = c.in-Ok-decide.ensures.judged yes } in
    search rules

-- what was decided could not be done
pub returns-in-Ok-decide-clause-in_vain : goal.returns-in-Ok-decide-clause-in_vain
returns-in-Ok-decide-clause-in_vain g c =
    let left = rw c.deref-in-Ok-decide.ensures at c.end_with.ensures.left in
    IfErr-weaker c.end_with.result _ _ (λ short left. record { looked = _; looks = inr (_, c.in-Ok.ensures.looked); left = left }) left

-- nothing was decided
pub returns-in-Err-clause-in_vain : goal.returns-in-Err-clause-in_vain
returns-in-Err-clause-in_vain g c =
    let given_up = rw c.deref-in-Err.ensures at c.give_up-in-Err.ensures in
    record { looked = _; looks = inr (_, c.in-Ok.ensures.looked); left = left_alone _ _ _ _ _ given_up }

-- or nothing was shown
pub returns-in_default-clause-in_vain : goal.returns-in_default-clause-in_vain
returns-in_default-clause-in_vain g c =
    let given_up = rw c.deref-in_default.ensures at c.give_up.ensures in
    let same : c.look_for.new.pass ≡ c.args.pass.now = search rules in
    record { looked = _; looks = inl same; left = left_alone _ _ _ _ _ given_up }
