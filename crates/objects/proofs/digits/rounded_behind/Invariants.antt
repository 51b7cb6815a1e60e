use Rattle.std.proofs.Common.{◌≡◌, ◌*◌, ◌^◌, ◌≤◌, ◌++◌}
use Rattle.objects.specs.Ratio.{rounded}
use Rattle.objects.specs.inside.Digits.{back}
use Rattle.objects.proofs.digits.rounded_behind.Given as goal

abbrev pub invariant-loop-place : goal.invariant-loop-place
invariant-loop-place l = record {
  value : l.amount ≡ rounded l.rounding (record { over = back (l.whole ++ l.fraction) l.place * l.units; under = 10 ^ l.place });
  within : l.amount ≤ l.units;
}
