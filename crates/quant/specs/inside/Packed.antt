-- What is packed of a row's taints.
use Rattle.std.specs.Prelude.{ℕ, List, [], ◌∷◌, ◌++◌}
use Rattle.quant.specs.declared.taint.Effect.{Effect}
use Rattle.quant.specs.declared.taint.Effect.TheVariants.{NoSchedule, PreferNoSchedule, NoExecute}
use Rattle.quant.specs.declared.taint.Taint.{Taint}
use Rattle.quant.specs.Packed.{packed_text}

-- an effect
abbrev pub packed_effect : Effect → ℕ
packed_effect NoSchedule = 1
packed_effect PreferNoSchedule = 2
packed_effect NoExecute = 3

-- a taint: its key, its value and its effect
abbrev pub packed_taint : Taint → List ℕ
packed_taint taint = packed_text taint.key ++ packed_text taint.value ++ packed_effect taint.effect ∷ []
