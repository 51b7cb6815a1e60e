use Rattle.std.proofs.Common.{length, take, ◌-◌, ◌≡◌, ◌≤◌}
use Rattle.std.specs.Io.KnownBytes.{Consumes}
use Rattle.site_modules.proofs.folder.fill.Given as goal

-- what was read so far is what the source lost, and no read has failed
abbrev pub invariant-loop-at : goal.invariant-loop-at
invariant-loop-at g l = (l.at ≤ length l.buffer)
    × Consumes (g.R.Source.remaining l.initial.source) (g.R.Source.remaining l.source) (take l.at l.buffer)
    × (g.R.Source.failure_count l.source ≡ g.R.Source.failure_count l.initial.source)

abbrev pub decreases-loop-at : goal.decreases-loop-at
decreases-loop-at g l = length l.initial.buffer - l.at
