use Rattle.std.proofs.Common.{◌≡◌, ◌++◌, ◌∷◌, [], false, ap, ◌∙◌, rules}
use Rattle.desk.specs.Shared.{Desk}
use Rattle.crew.proofs.Enlisting.{one_more_enlisted, one_more_handed}
use Rattle.crew.proofs.worker.enlist.Goals as goal

-- one worker more
pub loop-tool-preserved : goal.loop-tool-preserved
loop-tool-preserved g c =
    let pushed : c.push.new.self.items ≡ c.loop-tool.workers.items ++ record { pass = c.in_ok-pass.pass; tool = c.in-Some.tool; failed = false } ∷ [] = search rules in (
      pushed ∙ one_more_enlisted c.args.desk.now.handed c.loop-tool.yielded c.in-Some.tool c.loop-tool.workers.items c.in_ok-pass.pass c.loop-tool.desk.handed c.loop-tool.invariant.0 c.in_ok-pass.ensures.pass (ap (λ (d : Desk). d.handed) c.loop-tool.invariant.1),
      one_more_handed c.args.desk.now c.loop-tool.desk c.pass.new.self c.loop-tool.yielded c.in-Some.tool c.loop-tool.invariant.1 c.in_ok-pass.ensures.handed,
    )
