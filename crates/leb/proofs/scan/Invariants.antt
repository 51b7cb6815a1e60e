use Rattle.std.proofs.Common.{length, ◌-◌}
use Rattle.leb.proofs.Digits.{HasRead}
use Rattle.leb.proofs.scan.Given as goal

abbrev pub invariant-loop-next : goal.invariant-loop-next
invariant-loop-next l = HasRead l.bytes l.fn.at l.fn.signed l.fn.bits l.low l.weight l.left l.next

abbrev pub decreases-loop-next : goal.decreases-loop-next
decreases-loop-next l = length l.bytes - l.next
