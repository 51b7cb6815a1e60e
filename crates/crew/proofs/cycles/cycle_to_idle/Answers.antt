use Rattle.std.proofs.Common.{◌∙◌, rules}
use Rattle.std.specs.Bool.{IsTrue}
use Rattle.crew.proofs.Cycling.{one_more, one_idle}
use Rattle.crew.proofs.cycles.cycle_to_idle.Goals as goal

-- the last cycle found no pod
pub returns-then-branch-clause-made : goal.returns-then-branch-clause-made
returns-then-branch-clause-made g c =
    let t = c.in_ok-turn.ensures.cycled in
    let idle : IsTrue c.in_ok-turn.field-0 = search rules in
    one_idle g.D.Kit.Rules.answers _ _ _ _ _ _ c.loop.invariant.4 c.loop.invariant.3 t.0 t.1 (t.2 idle)

-- the kits stay, and so does the pass's number
pub returns-then-branch-clause-kits : goal.returns-then-branch-clause-kits
returns-then-branch-clause-kits g c = c.in_ok-turn.ensures.kits ∙ c.loop.invariant.4

pub returns-then-branch-clause-number : goal.returns-then-branch-clause-number
returns-then-branch-clause-number g c = c.in_ok-turn.ensures.number ∙ c.loop.invariant.2

-- one cycle more was made
pub loop-preserved : goal.loop-preserved
loop-preserved g c =
    let t = c.in_ok-turn.ensures.cycled in
    (tt, tt, c.in_ok-turn.ensures.number ∙ c.loop.invariant.2, one_more g.D.Kit.Rules.answers _ _ _ _ _ _ c.loop.invariant.4 c.loop.invariant.3 t.0 t.1, c.in_ok-turn.ensures.kits ∙ c.loop.invariant.4)
