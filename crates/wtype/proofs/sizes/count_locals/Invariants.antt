use Rattle.std.proofs.Common.{◌≡◌, ◌+◌, ◌≤◌, length, drop}
use Rattle.wmodule.specs.Syntax.{locals_of}
use Rattle.wtype.specs.Accepted.{most_slots}
use Rattle.wtype.proofs.sizes.count_locals.Given as goal

-- those so far and those to come are all, and those so far aren't too many
abbrev pub invariant-loop-run : goal.invariant-loop-run
invariant-loop-run l =
    (l.count ≤ most_slots) × (l.count + length (locals_of (drop l.run-index l.runs)) ≡ length (locals_of l.runs))
