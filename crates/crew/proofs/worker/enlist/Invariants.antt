use Rattle.std.proofs.Common.{◌≡◌, ◌+◌, length}
use Rattle.crew.specs.Crew.{enlisted}
use Rattle.crew.proofs.worker.enlist.Given as goal

-- the first tools have workers
abbrev pub invariant-loop-tool : goal.invariant-loop-tool
invariant-loop-tool g l =
    (l.workers.items ≡ enlisted l.initial.desk.handed l.yielded) × (l.desk ≡ record l.initial.desk { handed = l.initial.desk.handed + length l.yielded })
