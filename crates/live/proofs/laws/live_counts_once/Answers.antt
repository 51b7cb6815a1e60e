use Rattle.live.proofs.Kept.{lines_are_kept}
use Rattle.live.proofs.laws.live_counts_once.Goals as goal

pub returns : goal.returns
returns g c = lines_are_kept _
