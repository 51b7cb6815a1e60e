use Rattle.std.proofs.Common.{◌≡◌, drop}
use Rattle.std.specs.List.{list_all}
use Rattle.quant.specs.Name.{is_name_byte}
use Rattle.objects.proofs.left_out.are_name_bytes.Given as goal

abbrev pub invariant-loop-byte : goal.invariant-loop-byte
invariant-loop-byte l = list_all is_name_byte l.name ≡ list_all is_name_byte (drop l.byte-index l.name)
