use Rattle.std.proofs.Common.{◌≡◌, ◌<◌, List, [], ◌∷◌, length, get_or, ap, subst, arith}
use Rattle.rules.specs.RuleSet.{RuleSet}
use Rattle.streams.specs.Device.{use_of}
use Rattle.choose.specs.Kits.{rules_of}
use Rattle.live_line.specs.Scope.{site_of}
use Rattle.live.specs.Live.{IsLive, manner}
use Rattle.pool.proofs.Kits.{first_speaks}
use Rattle.live.proofs.with_kits.live_with_kits.Goals as goal

pub live_in-requires-clause-first : goal.live_in-requires-clause-first
live_in-requires-clause-first g c κs within = first_speaks _

-- the first of some kits
first_rules : {Kit : Type 0} (answers : Kit → RuleSet) (kits : List Kit) (first : Kit) → 0 < length kits → first ≡ get_or kits 0 first → answers first ≡ rules_of answers kits
first_rules answers [] first some is = absurd (omega arith)
first_rules answers (kit ∷ kits) first some is = ap answers is

pub returns : goal.returns
returns g c =
    subst (λ rules. IsLive (manner (site_of c.args.site.now) rules c.args.named.now) (use_of g.R.Source.remaining g.R.Source.failure_count c.args.source.now c.live_in.new.source)
    (use_of g.W.Sink.written g.W.Sink.failure_count c.args.out.now c.live_in.new.out) (use_of g.E.Sink.written g.E.Sink.failure_count c.args.err.now c.live_in.new.err) c.live_in.result)
    (first_rules g.K.Rules.answers c.args.kits.items c.remove-first.result (omega (arith, c.requires.some, c.args.kits.ok.0)) c.remove-first.ensures.value) c.live_in.ensures
