use Rattle.std.proofs.Common.{◌≡◌, drop}
use Rattle.live_desk.specs.SamePod.{are_all, is_same_toleration}
use Rattle.live_desk.proofs.same_pod.are_same_tolerations.Given as goal

-- those that were compared are the same
abbrev pub invariant-loop-at : goal.invariant-loop-at
invariant-loop-at l = are_all is_same_toleration (drop l.at l.one) (drop l.at l.other) ≡ are_all is_same_toleration l.one l.other
