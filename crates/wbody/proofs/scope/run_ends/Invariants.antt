use Rattle.std.proofs.Common.{◌≡◌, ◌≤◌, ◌^◌, ◌++◌, drop}
use Rattle.wbody.specs.inside.LocalEnds.{ends_from, ends_of}
use Rattle.wbody.proofs.scope.run_ends.Given as goal

-- those so far and those to come are all
abbrev pub invariant-loop-run : goal.invariant-loop-run
invariant-loop-run l =
    (l.end ≤ 2 ^ 32) × (l.ends.items ++ ends_from l.end (drop l.run-index l.runs) ≡ ends_of l.runs)
