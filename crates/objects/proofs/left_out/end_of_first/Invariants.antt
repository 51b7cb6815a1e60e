use Rattle.std.proofs.Common.{◌≡◌, ◌++◌, ◌≤◌, ◌-◌, take, drop, length}
use Rattle.objects.specs.LeftOut.{up_to_marks}
use Rattle.objects.proofs.left_out.end_of_first.Given as goal

-- what was passed is told, and of the rest what the marks that are left allow
abbrev pub invariant-loop-at : goal.invariant-loop-at
invariant-loop-at l = (l.at ≤ length l.names) × (up_to_marks 512 l.names ≡ take l.at l.names ++ up_to_marks l.marks (drop l.at l.names))

abbrev pub decreases-loop-at : goal.decreases-loop-at
decreases-loop-at l = length l.names - l.at
