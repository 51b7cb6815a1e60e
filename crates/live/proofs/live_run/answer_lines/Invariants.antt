use Rattle.std.proofs.Common.{◌≡◌, ◌+◌, length}
use Rattle.std.specs.Io.KnownBytes.{prepend_known}
use Rattle.choose.specs.Kits.{rules_of}
use Rattle.live_line.specs.Scope.{site_of}
use Rattle.live.specs.Live.{manner}
use Rattle.live.proofs.Going.{IsGoing}
use Rattle.live.proofs.live_run.answer_lines.Given as goal

-- the answers have come so far, the kits are the same, and no device has failed
abbrev pub invariant-lines : goal.invariant-lines
invariant-lines g l = record {
  going : IsGoing (manner (site_of l.site) (rules_of g.D.Kit.Rules.answers (g.D.Decider.kits l.initial.decider)) l.named)
      (g.R.Source.remaining l.initial.source) (prepend_known l.reader (g.R.Source.remaining l.source))
      (g.W.Sink.written l.initial.out) (g.W.Sink.written l.out) l.waits.items l.live;
  kits : g.D.Decider.kits l.decider ≡ g.D.Decider.kits l.initial.decider;
  reads : g.R.Source.failure_count l.source ≡ g.R.Source.failure_count l.initial.source;
  writes : g.W.Sink.failure_count l.out ≡ g.W.Sink.failure_count l.initial.out;
}

abbrev pub decreases-lines : goal.decreases-lines
decreases-lines g l = g.R.Source.bytes_left l.source + length l.reader
