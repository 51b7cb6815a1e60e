use Rattle.std.proofs.Common.{List}
use Rattle.std.specs.List.{AllByRecursion}
use Rattle.desk.specs.declared.step.Step.{Step}
use Rattle.crew.specs.Made.{Makes, IsReport}
use Rattle.crew.proofs.binding.bind_all.Given as goal

-- the pass made reports alone
abbrev pub invariant-loop : goal.invariant-loop
invariant-loop g l =
    (goal.iterator-loop g).can_next l.iterator' × (goal.iterator-loop g).is_finite l.iterator'
    × ((steps : List Step) × Makes l.initial.worker.pass steps l.worker.pass × AllByRecursion IsReport steps)
