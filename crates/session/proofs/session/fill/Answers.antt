use Rattle.std.proofs.Common.{◌≡◌, ◌∙◌, Some, ap, sym, subst}
use Rattle.desk.specs.Caller.{IsTimely}
use Rattle.desk.specs.declared.step.Step.TheVariants as steps
use Rattle.manifest.specs.Line as line
use Rattle.manifest.specs.declared.command.Command.{Command}
use Rattle.manifest.specs.declared.command.Command.TheVariants as commands
use Rattle.choose.specs.Kits.{rules_of}
use Rattle.output_lines.specs.Telling.{telling}
use Rattle.session.specs.Answers.{look_lines, step_of}
use Rattle.session.proofs.Filled.{as_it, by_rules, by_step}
use Rattle.session.proofs.session.fill.Goals as goal
use Rattle.session.proofs.session.fill.Goals.{in-Event, in-Tick, in-BindDone, in-Forget}

-- ---- a step

pub do_step-requires-clause-timely : goal.do_step-requires-clause-timely
do_step-requires-clause-timely g c =
    elim c.match-command.branch [
      | in-Event w ↦ subst IsTimely (sym w.step-is) tt
      | in-Tick w ↦ subst IsTimely (sym w.step-is) (subst (λ (command : Command). line.IsTimely command) w.in-Tick.is c.requires)
      | in-BindDone w ↦ subst IsTimely (sym w.step-is) tt
      | in-Forget w ↦ subst IsTimely (sym w.step-is) tt
    ]

pub do_step-requires-clause-plain : goal.do_step-requires-clause-plain
do_step-requires-clause-plain g c =
    elim c.match-command.branch [
      | in-Event w ↦ ap (look_lines c.args.desk.now) w.step-is
      | in-Tick w ↦ ap (look_lines c.args.desk.now) w.step-is
      | in-BindDone w ↦ ap (look_lines c.args.desk.now) w.step-is
      | in-Forget w ↦ ap (look_lines c.args.desk.now) w.step-is
    ]

pub returns-clause-answered : goal.returns-clause-answered
returns-clause-answered g c =
    let is : step_of c.args.command ≡ Some c.match-command.step =
    elim c.match-command.branch [
      | in-Event w ↦ ap step_of w.in-Event.is ∙ ap Some (sym w.step-is)
      | in-Tick w ↦ ap step_of w.in-Tick.is ∙ ap Some (sym w.step-is)
      | in-BindDone w ↦ ap step_of w.in-BindDone.is ∙ ap Some (sym w.step-is)
      | in-Forget w ↦ ap step_of w.in-Forget.is ∙ ap Some (sym w.step-is)
    ] in
    by_step (rules_of g.D.Kit.Rules.answers (g.D.Decider.kits c.args.decider.now)) (telling c.args.named.now c.args.explains) c.args.desk.now c.do_step.new.desk c.args.command c.args.text.now c.do_step.new.text c.do_step.result c.match-command.step is c.do_step.ensures.state
    c.do_step.ensures.text c.do_step.ensures.lines

-- ---- a dump, a cycle and a question

pub returns-in-Dump-clause-answered : goal.returns-in-Dump-clause-answered
returns-in-Dump-clause-answered g c =
    by_step (rules_of g.D.Kit.Rules.answers (g.D.Decider.kits c.args.decider.now)) (telling c.args.named.now c.args.explains) c.args.desk.now c.dump.new.desk c.args.command c.args.text.now c.dump.new.text c.dump.result steps.Count (ap step_of c.in-Dump.is) c.dump.ensures.state
    c.dump.ensures.text c.dump.ensures.lines

pub returns-in-Cycle-clause-answered : goal.returns-in-Cycle-clause-answered
returns-in-Cycle-clause-answered g c =
    as_it (rules_of g.D.Kit.Rules.answers (g.D.Decider.kits c.args.decider.now)) (telling c.args.named.now c.args.explains) c.args.desk.now c.do_cycle.new.desk c.args.command c.args.text.now c.do_cycle.new.text c.do_cycle.result commands.Cycle c.in-Cycle.is c.do_cycle.ensures.cycled

pub returns-in-Judge-clause-answered : goal.returns-in-Judge-clause-answered
returns-in-Judge-clause-answered g c =
    by_rules (rules_of g.D.Kit.Rules.answers (g.D.Decider.kits c.args.decider.now)) (telling c.args.named.now c.args.explains) c.args.desk.now c.judge.new.desk c.args.command c.args.text.now c.judge.new.text c.judge.result c.in-Judge.question c.in-Judge.is c.judge.ensures.state
    c.judge.ensures.judged
