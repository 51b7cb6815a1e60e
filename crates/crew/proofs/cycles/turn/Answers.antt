use Rattle.std.proofs.lemmas.Result.{IfOk-weaker}
use Rattle.crew.proofs.cycles.turn.Goals as goal

-- what a cycle came to, of which a job may have been sent
pub returns-clause-cycled : goal.returns-clause-cycled
returns-clause-cycled g c = IfOk-weaker c.send_job.result _ _ (λ idle is. (c.in-Ok.came, c.in-Ok.ensures.cycled, is)) c.send_job.ensures
