use Rattle.std.proofs.Common.{refl, subst}
use Rattle.streams.specs.Device.{use_of}
use Rattle.choose.specs.Kits.{rules_of}
use Rattle.live_line.specs.Scope.{site_of}
use Rattle.live.specs.Live.{IsLive, manner}
use Rattle.live.proofs.Lived.{nothing_lived}
use Rattle.live.proofs.with_kits.live_in.Goals as goal

-- without a pool nothing is written

pub returns-in_default : goal.returns-in_default
returns-in_default g c = nothing_lived _ _ _ _ _ c.report.ensures.status c.report.ensures.told refl refl refl

pub returns-in_default-start : goal.returns-in_default-start
returns-in_default-start g c = nothing_lived _ _ _ _ _ c.report-in_default-start.ensures.status c.report-in_default-start.ensures.told refl refl refl

-- the first kit decides
pub returns : goal.returns
returns g c =
    subst (λ kits. IsLive (manner (site_of c.args.site.now) (rules_of g.K.Rules.answers kits) c.args.named.now) (use_of g.R.Source.remaining g.R.Source.failure_count c.args.source.now c.serve_live-done.new.source)
    (use_of g.W.Sink.written g.W.Sink.failure_count c.args.out.now c.serve_live-done.new.out) (use_of g.E.Sink.written g.E.Sink.failure_count c.args.err.now c.serve_live-done.new.err) c.serve_live-done.result)
    c.in-Ok-start.ensures c.serve_live-done.ensures
