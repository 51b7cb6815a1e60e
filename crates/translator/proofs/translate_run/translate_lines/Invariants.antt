use Rattle.std.proofs.Common.{◌≡◌, ◌+◌, ◌≤◌, length}
use Rattle.std.specs.Io.KnownBytes.{prepend_known}
use Rattle.translator.specs.Translate.{manner_of}
use Rattle.translator.proofs.Translating.{IsGoing}
use Rattle.translator.proofs.translate_run.translate_lines.Given as goal

-- the translation has come so far, no device has failed, no more lines were counted than bytes were
-- taken, and versions are from 1 on
abbrev pub invariant-lines : goal.invariant-lines
invariant-lines g l = record {
  going : IsGoing (manner_of l.plan) (g.R.Source.remaining l.initial.source) (prepend_known l.reader (g.R.Source.remaining l.source))
      (g.W.Sink.written l.initial.out) (g.W.Sink.written l.out) (g.E.Sink.written l.initial.err) (g.E.Sink.written l.err)
      l.waits.answers.items l.waits.left_out.items l.version l.number;
  reads : g.R.Source.failure_count l.source ≡ g.R.Source.failure_count l.initial.source;
  writes : g.W.Sink.failure_count l.out ≡ g.W.Sink.failure_count l.initial.out;
  tells : g.E.Sink.failure_count l.err ≡ g.E.Sink.failure_count l.initial.err;
  count : l.number + (g.R.Source.bytes_left l.source + length l.reader) ≤ g.R.Source.bytes_left l.initial.source;
  least : 1 ≤ l.version;
}

abbrev pub decreases-lines : goal.decreases-lines
decreases-lines g l = g.R.Source.bytes_left l.source + length l.reader
