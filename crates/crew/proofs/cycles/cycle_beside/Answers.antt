use Rattle.std.proofs.Common.{◌∙◌}
use Rattle.crew.proofs.Cycling.{one_more}
use Rattle.crew.proofs.cycles.cycle_beside.Goals as goal

-- one cycle more was made
pub returns-then-is_last-clause-made : goal.returns-then-is_last-clause-made
returns-then-is_last-clause-made g c =
    let t = c.in-Ok.ensures.cycled in
    one_more g.D.Kit.Rules.answers _ _ _ _ _ _ c.loop.invariant.4 c.loop.invariant.3 t.0 t.1

-- the kits stay
pub returns-then-is_last-clause-kits : goal.returns-then-is_last-clause-kits
returns-then-is_last-clause-kits g c = c.in-Ok.ensures.kits ∙ c.loop.invariant.4

pub returns-in_default-clause-kits : goal.returns-in_default-clause-kits
returns-in_default-clause-kits g c = c.in_default.ensures.kits ∙ c.loop.invariant.4

-- and so does the pass's number
pub returns-then-is_last-clause-number : goal.returns-then-is_last-clause-number
returns-then-is_last-clause-number g c = c.in-Ok.ensures.number ∙ c.loop.invariant.2

pub returns-in_default-clause-number : goal.returns-in_default-clause-number
returns-in_default-clause-number g c = c.in_default.ensures.number ∙ c.loop.invariant.2

pub loop-preserved-then-idle : goal.loop-preserved-then-idle
loop-preserved-then-idle g c =
    let t = c.in-Ok.ensures.cycled in
    (tt, tt, c.in-Ok.ensures.number ∙ c.loop.invariant.2, one_more g.D.Kit.Rules.answers _ _ _ _ _ _ c.loop.invariant.4 c.loop.invariant.3 t.0 t.1, c.in-Ok.ensures.kits ∙ c.loop.invariant.4)

pub loop-preserved : goal.loop-preserved
loop-preserved g c =
    let t = c.in-Ok.ensures.cycled in
    (tt, tt, c.in-Ok.ensures.number ∙ c.loop.invariant.2, one_more g.D.Kit.Rules.answers _ _ _ _ _ _ c.loop.invariant.4 c.loop.invariant.3 t.0 t.1, c.in-Ok.ensures.kits ∙ c.loop.invariant.4)
