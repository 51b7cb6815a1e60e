use Rattle.std.proofs.Common.{◌≡◌, false, take}
use Rattle.std.specs.Prelude.{◌&&◌, bytes_eq}
use Rattle.std.specs.List.{list_any}
use Rattle.quant.specs.Effect.{same_effect}
use Rattle.manifest.proofs.taint.has_taint.Given as goal

-- none so far has both
abbrev pub invariant-loop-taint : goal.invariant-loop-taint
invariant-loop-taint l = list_any (λ taint. bytes_eq taint.key l.key && same_effect taint.effect l.effect) (take l.taint-index l.taints) ≡ false
