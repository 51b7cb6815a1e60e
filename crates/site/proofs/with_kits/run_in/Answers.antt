use Rattle.std.proofs.Common.{refl}
use Rattle.std.proofs.lemmas.Result.{err_from_is_err_and}
use Rattle.engine.proofs.Ends.{no_memory}
use Rattle.engine.proofs.Progress.{nothing-written}
use Rattle.site.proofs.with_kits.run_in.Goals as goal

-- without a pool nothing is written
pub returns-in_default-clause-run : goal.returns-in_default-clause-run
returns-in_default-clause-run g c = no_memory _ _ _ _ _ _ refl refl refl refl (nothing-written _ _ _ _)

pub returns-in_err-pool-clause-run : goal.returns-in_err-pool-clause-run
returns-in_err-pool-clause-run g c =
    let p = err_from_is_err_and c.from_residual.result c.from_residual.ensures.1 in
    no_memory _ _ _ _ _ _ p.1 p.2 refl refl (nothing-written _ _ _ _)
