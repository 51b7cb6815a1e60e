use Rattle.std.proofs.Common.{◌≡◌, IsTrue, length}
use Rattle.std.specs.List.{list_all}
use Rattle.quant.specs.Amount.{is_digit}
use Rattle.objects.specs.Suffix.{behind_zeros}
use Rattle.objects.proofs.digits.behind_zeros.Given as goal

abbrev pub invariant-loop-rest : goal.invariant-loop-rest
invariant-loop-rest l = record { digits : behind_zeros l.rest ≡ behind_zeros l.digits; pass : IsTrue (list_all is_digit l.rest) }

abbrev pub decreases-loop-rest : goal.decreases-loop-rest
decreases-loop-rest l = length l.rest
