use Rattle.std.proofs.Common.{◌≡◌, drop}
use Rattle.objects.specs.Quantity.{is_zero}
use Rattle.objects.proofs.digits.are_zeros.Given as goal

abbrev pub invariant-loop-byte : goal.invariant-loop-byte
invariant-loop-byte l = is_zero l.text ≡ is_zero (drop l.byte-index l.text)
