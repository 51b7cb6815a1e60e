use Rattle.std.proofs.Common.{subst}
use Rattle.std.proofs.lemmas.Result.{IfOk-weaker, on_ok_weaker}
use Rattle.desk.specs.Alone.{state_seen}
use Rattle.desk.specs.Machine.{State, snapshot}
use Rattle.choose.specs.Choice.{AreVerdicts}
use Rattle.choose.specs.Kits.{rules_of}
use Rattle.cycle.specs.CycleAlone.{IsDecidedAlone}
use Rattle.cycle.proofs.Cycles.{decided_alone, verdicts_alone}
use Rattle.cycle.proofs.lone_desk.LoneDesk.place.Goals as goal

-- what is decided is told by the state that the pass has seen
pub returns-clause-decided : goal.returns-clause-decided
returns-clause-decided g c =
    let d = c.self.inside in
    let law = c.one_pass_is_alone.ensures in
    IfOk-weaker c.place.result _ _
    (λ came decided.
    subst (λ s. IsDecidedAlone (rules_of g.D.Kit.Rules.answers (g.D.Decider.kits c.args.decider.now)) s c.args.pod.now came (state_seen d.desk c.place.new.pass)) c.self.view_is
    (decided_alone d.desk c.self.invariant.0 law.answers law.looks _ d.pass c.place.new.pass c.args.pod.now came c.self.invariant.1 decided))
    c.place.ensures.decided

-- and so are the verdicts
pub returns-clause-verdicts : goal.returns-clause-verdicts
returns-clause-verdicts g c = λ yes.
    let d = c.self.inside in
    let law = c.one_pass_is_alone.ensures in
    let rules = rules_of g.D.Kit.Rules.answers (g.D.Decider.kits c.args.decider.now) in
    let verdicts = g.D.Decider.last c.place.new.decider in
    on_ok_weaker c.place.result
    (λ seen.
    subst (λ (s : State). AreVerdicts rules c.args.pod.now (snapshot s.cluster) verdicts) c.self.view_is
    (verdicts_alone d.desk c.self.invariant.0 law.answers law.looks rules d.pass c.args.pod.now verdicts c.self.invariant.1 seen))
    (c.place.ensures.verdicts yes)
