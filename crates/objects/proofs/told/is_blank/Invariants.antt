use Rattle.std.proofs.Common.{◌≡◌, drop}
use Rattle.objects.specs.Told.{is_blank}
use Rattle.objects.proofs.told.is_blank.Given as goal

abbrev pub invariant-loop-byte : goal.invariant-loop-byte
invariant-loop-byte l = is_blank l.line ≡ is_blank (drop l.byte-index l.line)
