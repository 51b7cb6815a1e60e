use Rattle.std.proofs.Common.{◌≡◌, ◌-◌, ◌≤◌, length, take}
use Rattle.std.specs.Io.KnownBytes.{Appends}
use Rattle.streams.proofs.device.write_all.Given as goal

-- what stands before the place is written, and no write has failed
abbrev pub invariant-loop-at : goal.invariant-loop-at
invariant-loop-at g l =
    (l.at ≤ length l.bytes) × Appends (g.W.Sink.written l.initial.sink) (g.W.Sink.written l.sink) (take l.at l.bytes) × (g.W.Sink.failure_count l.sink ≡ g.W.Sink.failure_count l.initial.sink)

abbrev pub decreases-loop-at : goal.decreases-loop-at
decreases-loop-at g l = length l.bytes - l.at
