use Rattle.std.proofs.Common.{◌≡◌, take}
use Rattle.std.specs.List.{flat_map}
use Rattle.quant.specs.inside.Packed.{packed_taint}
use Rattle.quant.proofs.shared_row.pack_taints.Given as goal

-- the first taints are packed
abbrev pub invariant-loop-taint : goal.invariant-loop-taint
invariant-loop-taint l = l.packed.items ≡ flat_map packed_taint (take l.taint-index l.taints)
