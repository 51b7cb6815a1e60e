use Rattle.std.proofs.Common.{map, take}
use Rattle.std.specs.List.{All}
use Rattle.desk.specs.Caller.{IsTimely}
use Rattle.watch_script.specs.inside.Lines.{AreSteps}
use Rattle.watch_script.proofs.batch.read_here.Given as goal

-- the lines so far were read
abbrev pub invariant-loop-before : goal.invariant-loop-before
invariant-loop-before l = AreSteps (map (λ x. x.items) (take l.before l.lines)) l.steps.items × All IsTimely l.steps.items
