use Rattle.std.proofs.Common.{sym, ap, ◌∙◌}
use Rattle.book.specs.Step.{after}
use Rattle.book.specs.declared.step.ClusterStep.TheVariants.{Assume, BindDone, Forget}
use Rattle.book.proofs.StepLemmas.{taken_after}
use Rattle.book.proofs.book.Book.step.Goals as goal

pub returns-in-Event-clause-after : goal.returns-in-Event-clause-after
returns-in-Event-clause-after c = c.answer_event.ensures.after ∙ ap (after c.args.self.now) (sym c.in-Event.is)

-- what takes a step leaves what the step leaves
pub returns-in-Ok-clause-after : goal.returns-in-Ok-clause-after
returns-in-Ok-clause-after c =
    let a = c.in-Assume in
    taken_after c.args.self.now (Assume a.uid a.node a.entry) c.assume.result c.assume.new.self c.assume.ensures.taken ∙ ap (after c.args.self.now) (sym a.is)

pub returns-in-Err-clause-after : goal.returns-in-Err-clause-after
returns-in-Err-clause-after c =
    let a = c.in-Assume in
    taken_after c.args.self.now (Assume a.uid a.node a.entry) c.assume.result c.assume.new.self c.assume.ensures.taken ∙ ap (after c.args.self.now) (sym a.is)

pub returns-in-BindDone-clause-after : goal.returns-in-BindDone-clause-after
returns-in-BindDone-clause-after c =
    let d = c.in-BindDone in
    taken_after c.args.self.now (BindDone d.uid d.ticket d.at d.queued) c.finish.result c.finish.new.self c.finish.ensures ∙ ap (after c.args.self.now) (sym d.is)

pub returns-in-Forget-clause-after : goal.returns-in-Forget-clause-after
returns-in-Forget-clause-after c =
    let f = c.in-Forget in
    taken_after c.args.self.now (Forget f.uid f.ticket f.queued) c.forget.result c.forget.new.self c.forget.ensures ∙ ap (after c.args.self.now) (sym f.is)
