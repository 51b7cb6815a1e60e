-- When two rows of pods tell the same.
use Rattle.std.specs.Prelude.{Bool, true, false, ◌&&◌, ◌==◌, List, [], ◌∷◌, Option, None, Some}
use Rattle.std.specs.Str.{bytes_eq}
use Rattle.std.specs.Ordering.{int_eq}
use Rattle.quant.specs.declared.amount.Request.{Request}
use Rattle.quant.specs.declared.objects.Label.{Label}
use Rattle.quant.specs.declared.objects.Pod.{Pod}
use Rattle.quant.specs.declared.taint.Effect.{Effect}
use Rattle.quant.specs.declared.taint.Effect.TheVariants.{NoSchedule, PreferNoSchedule, NoExecute}
use Rattle.quant.specs.declared.taint.Operator.{Operator}
use Rattle.quant.specs.declared.taint.Operator.TheVariants.{Equal, Exists}
use Rattle.quant.specs.declared.taint.Toleration.{Toleration}

-- two lists are as long, and their items are the same, one by one
abbrev pub are_all : {X : Type 0} → (X → X → Bool) → List X → List X → Bool
are_all same [] [] = true
are_all same (x ∷ xs) (y ∷ ys) = same x y && are_all same xs ys
are_all same _ _ = false

abbrev pub is_same_label : Label → Label → Bool
is_same_label a b = bytes_eq a.key b.key && bytes_eq a.value b.value

abbrev pub is_same_operator : Operator → Operator → Bool
is_same_operator Equal Equal = true
is_same_operator Exists Exists = true
is_same_operator _ _ = false

abbrev pub is_same_effect : Option Effect → Option Effect → Bool
is_same_effect None None = true
is_same_effect (Some NoSchedule) (Some NoSchedule) = true
is_same_effect (Some PreferNoSchedule) (Some PreferNoSchedule) = true
is_same_effect (Some NoExecute) (Some NoExecute) = true
is_same_effect _ _ = false

abbrev pub is_same_toleration : Toleration → Toleration → Bool
is_same_toleration a b = bytes_eq a.key b.key && is_same_operator a.operator b.operator && bytes_eq a.value b.value && is_same_effect a.effect b.effect

abbrev pub is_same_request : Request → Request → Bool
is_same_request a b = (a.cpu.0 == b.cpu.0) && (a.mem.0 == b.mem.0)

unfoldable pub is_same_pod : Pod → Pod → Bool
is_same_pod a b =
    bytes_eq a.uid b.uid
    && int_eq a.priority b.priority
    && is_same_request a.request b.request
    && are_all is_same_label a.labels b.labels
    && are_all is_same_toleration a.tolerations b.tolerations
