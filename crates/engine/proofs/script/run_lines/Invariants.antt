use Rattle.std.proofs.Common.{◌≡◌, ◌+◌, ◌≤◌, length}
use Rattle.std.specs.Io.KnownBytes.{prepend_known}
use Rattle.choose.specs.Kits.{rules_of}
use Rattle.output_lines.specs.Telling.{telling}
use Rattle.engine.proofs.Progress.{IsRunning}
use Rattle.engine.proofs.script.run_lines.Given as goal

-- the run has come so far, the kits are the same, no device has failed, and no more lines were
-- counted than bytes were taken
abbrev pub invariant-lines : goal.invariant-lines
invariant-lines g l =
    IsRunning (rules_of g.D.Kit.Rules.answers (g.D.Decider.kits l.initial.decider)) (telling l.named l.explains) (g.R.Source.remaining l.initial.source) (prepend_known l.reader (g.R.Source.remaining l.source)) (g.W.Sink.written l.initial.sink) (g.W.Sink.written l.sink) l.pending.items l.session (l.number + 1)
    × (g.D.Decider.kits l.decider ≡ g.D.Decider.kits l.initial.decider)
    × (g.R.Source.failure_count l.source ≡ g.R.Source.failure_count l.initial.source)
    × (g.W.Sink.failure_count l.sink ≡ g.W.Sink.failure_count l.initial.sink)
    × (l.number + (g.R.Source.bytes_left l.source + length l.reader) ≤ g.R.Source.bytes_left l.initial.source)

abbrev pub decreases-lines : goal.decreases-lines
decreases-lines g l = g.R.Source.bytes_left l.source + length l.reader
