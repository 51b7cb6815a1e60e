use Rattle.std.proofs.Common.{◌≡◌, ◌+◌, ◌≤◌, length}
use Rattle.std.specs.List.{All}
use Rattle.std.specs.Io.KnownBytes.{prepend_known}
use Rattle.desk.specs.Caller.{IsTimely}
use Rattle.watch_script.proofs.Reading.{IsReading}
use Rattle.watch_script.proofs.script.read_script.Given as goal

-- the script is read so far, no read has failed, and no more lines were counted than bytes were
-- taken
abbrev pub invariant-lines : goal.invariant-lines
invariant-lines g l =
    IsReading (g.R.Source.remaining l.initial.source) (prepend_known l.reader (g.R.Source.remaining l.source)) l.steps.items (l.number + 1)
    × All IsTimely l.steps.items
    × (g.R.Source.failure_count l.source ≡ g.R.Source.failure_count l.initial.source)
    × (l.number + (g.R.Source.bytes_left l.source + length l.reader) ≤ g.R.Source.bytes_left l.initial.source)

abbrev pub decreases-lines : goal.decreases-lines
decreases-lines g l = g.R.Source.bytes_left l.source + length l.reader
