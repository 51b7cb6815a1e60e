-- What the kits of a pool say.
use Rattle.quant.specs.declared.objects.Pod.{Pod}
use Rattle.desk.specs.Shown.{Shown}
use Rattle.rules.specs.RuleSet.{RuleSet}
use Rattle.choose.specs.declared.decision.Verdict.{Verdict}
use Rattle.choose.specs.Verdict.{HasVerdict}

-- what is said of a pod and a node is the verdict by these rules
pub record SpeaksFor (Says : Pod → Shown → Verdict → Type 0) (rules : RuleSet) : Type 0 where
  pub says : (pod : Pod) (node : Shown) (verdict : Verdict) → HasVerdict rules pod node verdict → Says pod node verdict
  pub has : (pod : Pod) (node : Shown) (verdict : Verdict) → Says pod node verdict → HasVerdict rules pod node verdict
