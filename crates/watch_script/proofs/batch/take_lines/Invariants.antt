use Rattle.std.proofs.Common.{◌≡◌, ◌+◌, ◌<◌, ◌≤◌, map, length, vec_len}
use Rattle.std.specs.List.{sum_by}
use Rattle.std.specs.Io.KnownBytes.{prepend_known}
use Rattle.watch_script.specs.inside.Lines.{TakesLines}
use Rattle.watch_script.proofs.batch.take_lines.Given as goal

-- as many lines were taken as turns were made, they have the bytes for which there is no more room,
-- and no read has failed
abbrev pub invariant-loop : goal.invariant-loop
invariant-loop g l =
    TakesLines (prepend_known l.initial.reader (g.R.Source.remaining l.initial.source)) (prepend_known l.reader (g.R.Source.remaining l.source)) (map (λ x. x.items) l.lines.items)
    × (g.R.Source.failure_count l.source ≡ g.R.Source.failure_count l.initial.source)
    × (vec_len l.lines + (g.R.Source.bytes_left l.source + length l.reader) ≤ g.R.Source.bytes_left l.initial.source + length l.initial.reader)
    × (vec_len l.lines ≡ l.counter)
    × (sum_by (λ x. vec_len x) l.lines.items + l.room ≤ 1048576)
    × (0 < l.room)
