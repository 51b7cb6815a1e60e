use Rattle.std.proofs.Common.{◌∙◌, ap}
use Rattle.std.proofs.lemmas.Result.{IfOk-weaker}
use Rattle.desk.specs.Machine.{State, first_pod}
use Rattle.cycle.proofs.Cycles.{pops_alone}
use Rattle.cycle.proofs.lone_desk.LoneDesk.pop.Goals as goal

-- the pod is the one that goes first in the state that the pass has seen
pub returns-clause-popped : goal.returns-clause-popped
returns-clause-popped g c =
    let d = c.self.inside in
    let law = c.one_pass_is_alone.ensures in
    IfOk-weaker c.pop.result _ _
    (λ pod applied. pops_alone d.desk c.self.invariant.0 law.answers law.looks d.pass c.pop.new.pass pod c.self.invariant.1 applied ∙ ap (λ (s : State). first_pod s.queue) c.self.view_is)
    c.pop.ensures.popped
