-- The effects of taints (Kubernetes, "Taints and Tolerations", "Concepts").
use Rattle.std.specs.Prelude.{Bool, true, false}
use Rattle.quant.specs.declared.taint.Effect.{Effect}
use Rattle.quant.specs.declared.taint.Effect.TheVariants.{NoSchedule, PreferNoSchedule, NoExecute}

-- two effects are the same
abbrev pub same_effect : Effect → Effect → Bool
same_effect NoSchedule NoSchedule = true
same_effect PreferNoSchedule PreferNoSchedule = true
same_effect NoExecute NoExecute = true
same_effect _ _ = false
