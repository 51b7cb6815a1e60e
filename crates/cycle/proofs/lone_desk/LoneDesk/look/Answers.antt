use Rattle.std.proofs.Common.{ap, ◌∙◌}
use Rattle.std.proofs.lemmas.Result.{IfOk-weaker}
use Rattle.desk.specs.Alone.{state_seen}
use Rattle.desk.specs.Machine.{State, snapshot}
use Rattle.cycle.proofs.Either.{either_way}
use Rattle.cycle.proofs.lone_desk.LoneDesk.look.Goals as goal

-- the rows are those of the state that the pass has seen
pub returns-clause-shown : goal.returns-clause-shown
returns-clause-shown g c =
    let d = c.self.inside in
    IfOk-weaker c.look.result _ _ (λ rows looked. (c.one_pass_is_alone.ensures.looks d.desk d.pass c.look.new.pass rows c.self.invariant.0 c.self.invariant.1 looked).0 ∙ ap (λ (s : State). snapshot s.cluster) c.self.view_is) c.look.ensures.looked

-- which it still has seen
pub returns-clause-same : goal.returns-clause-same
returns-clause-same g c =
    let d = c.self.inside in
    either_way c.look.result
    (λ rows looked. (c.one_pass_is_alone.ensures.looks d.desk d.pass c.look.new.pass rows c.self.invariant.0 c.self.invariant.1 looked).1 ∙ c.self.view_is)
    (λ same. ap (λ p. state_seen d.desk p) same ∙ c.self.view_is)
    c.look.ensures.looked c.look.ensures.err
