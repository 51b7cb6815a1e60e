use Rattle.pool.proofs.Kits.{first_speaks}
use Rattle.site.proofs.with_kits.run_with_kits.Goals as goal

pub run_in-requires-clause-first : goal.run_in-requires-clause-first
run_in-requires-clause-first g c κs within = first_speaks _
