use Rattle.std.proofs.Common.{refl}
use Rattle.std.proofs.lemmas.Result.{err_from_is_err_and}
use Rattle.engine.proofs.Ends.{no_desk}
use Rattle.engine.proofs.Progress.{nothing-written}
use Rattle.engine.proofs.script.run_desk.Goals as goal

-- where no desk is opened, nothing is written
pub returns-in_err-session-clause-run : goal.returns-in_err-session-clause-run
returns-in_err-session-clause-run g c =
    let p = err_from_is_err_and c.from_residual.result c.from_residual.ensures.1 in
    no_desk _ _ _ _ _ _ p.1 (rw p.2 c.in_err-session.ensures.faults) refl refl (nothing-written _ _ _ _)
