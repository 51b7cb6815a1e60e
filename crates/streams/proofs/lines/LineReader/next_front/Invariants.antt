use Rattle.std.proofs.Common.{◌≡◌, ◌+◌, ◌≤◌, [], List, ℕ, length}
use Rattle.std.specs.Io.KnownBytes.{prepend_known}
use Rattle.streams.specs.Lines.{IsLine}
use Rattle.streams.proofs.Taking.{IsTaken}
use Rattle.streams.proofs.lines.LineReader.next_front.Given as goal

-- a line was taken so far, no read has failed, nothing waits where no newline is left, and fewer
-- bytes are left where a line was begun
abbrev pub invariant-pieces : goal.invariant-pieces
invariant-pieces g l =
    let first = prepend_known l.initial.self (g.R.Source.remaining l.initial.source) in
    let now = prepend_known l.self (g.R.Source.remaining l.source) in
    (taken : List ℕ) × IsTaken l.most first now l.line.items l.begun taken
    × (g.R.Source.failure_count l.source ≡ g.R.Source.failure_count l.initial.source)
    × (IsLine l.self → l.waits ≡ [])
    × (length taken + (g.R.Source.bytes_left l.source + length l.self) ≤ g.R.Source.bytes_left l.initial.source + length l.initial.self)

abbrev pub decreases-pieces : goal.decreases-pieces
decreases-pieces g l = g.R.Source.bytes_left l.source + length l.self
