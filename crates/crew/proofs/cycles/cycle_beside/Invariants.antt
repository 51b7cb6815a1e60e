use Rattle.std.proofs.Common.{◌≡◌, List}
use Rattle.choose.specs.Kits.{rules_of}
use Rattle.crew.specs.Cycles.{OneCycle, HasCycled}
use Rattle.crew.proofs.cycles.cycle_beside.Given as goal

-- the pass made cycles alone, by the rules of kits that stay
abbrev pub invariant-loop : goal.invariant-loop
invariant-loop g l =
    (goal.iterator-loop g).can_next l.iterator' × (goal.iterator-loop g).is_finite l.iterator'
    × (l.pass.caller.number ≡ l.initial.pass.caller.number)
    × ((made : List OneCycle) × HasCycled (rules_of g.D.Kit.Rules.answers (g.D.Decider.kits l.initial.decider)) l.desk l.initial.pass made l.pass)
    × (g.D.Decider.kits l.decider ≡ g.D.Decider.kits l.initial.decider)
