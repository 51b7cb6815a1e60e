use Rattle.std.proofs.Common.{Some, arith}
use Rattle.std.proofs.lemmas.List.Elements.{All-pop}
use Rattle.pool.specs.Speaking.{SpeaksFor}
use Rattle.pool.proofs.pool.start_each.Goals as goal

pub returns-then-is_err : goal.returns-then-is_err
returns-then-is_err g c = omega (arith, c.loop-kit.invariant.1, c.in-Some.ensures.cases, c.push.ensures.upper_bound)

-- a kit fewer is left, and a helper more is there
pub loop-kit-preserved : goal.loop-kit-preserved
loop-kit-preserved g c = (
  (All-pop (λ kit. SpeaksFor g.J.Site.Says (g.K.Rules.answers kit)) c.loop-kit.kits.items c.pop.new.self.items (Some c.in-Some.kit) c.in-Some.ensures.items c.loop-kit.invariant.0).0,
  omega (arith, c.loop-kit.invariant.1, c.in-Some.ensures.cases, c.push.ensures.upper_bound),
)

pub start-requires-after_bounds : goal.start-requires-after_bounds
start-requires-after_bounds g c κs within =
    (All-pop (λ kit. SpeaksFor g.J.Site.Says (g.K.Rules.answers kit)) c.loop-kit.kits.items c.pop.new.self.items (Some c.in-Some.kit) c.in-Some.ensures.items c.loop-kit.invariant.0).1
