use Rattle.std.proofs.Common.{◌≡◌, ◌++◌, min}
use Rattle.objects.specs.inside.Digits.{front}
use Rattle.objects.specs.declared.digits.TheConstants.{BEYOND}
use Rattle.objects.proofs.digits.number_in_front.Given as goal

abbrev pub invariant-loop-place : goal.invariant-loop-place
invariant-loop-place l = l.number ≡ min (front (l.whole ++ l.fraction) l.place) BEYOND
