-- What holds of all kits.
use Rattle.std.specs.Prelude.{◌≡◌, ℕ, List, ◌⊎◌, ◌↔◌, Some, None, slice_get, map}
use Rattle.quant.specs.declared.amount.Res.{Res}
use Rattle.quant.specs.declared.objects.Node.{Node}
use Rattle.quant.specs.declared.objects.Pod.{Pod}
use Rattle.wmach.specs.declared.export.Export.{Export}
use Rattle.wmach.specs.declared.export.Export.TheVariants as export
use Rattle.wmach.specs.declared.outcome.Outcome.{Outcome}
use Rattle.wmach.specs.Call.{MachineState}
use Rattle.whost.specs.Calls.{CallsFromImage}
use Rattle.whost.specs.Handed.{told_of}
use Rattle.rules.specs.declared.verdict.FilterVerdict.{FilterVerdict}
use Rattle.rules.specs.declared.verdict.FilterVerdict.TheVariants as filter
use Rattle.rules.specs.declared.verdict.ScoreVerdict.{ScoreVerdict}
use Rattle.rules.specs.declared.verdict.ScoreVerdict.TheVariants as score
use Rattle.plugin.specs.Verdict.{filter_said, score_said}
use Rattle.plugin.specs.Plugins.{Configured}
use Rattle.plugin.specs.Kit.{Ready, IsKitOf, at_image, called, rules_of}

-- Kits of the same plugins are alike: they answer alike, and their scores count alike.
abbrev pub KitsAreAlike : Type 0
KitsAreAlike = (plugins : List Configured) (one other : List Ready) → IsKitOf plugins one → IsKitOf plugins other → one ≡ other

-- A call of the plugin at a place of a kit, which begins from the plugin's image and has its fuel,
-- with the records of a pod, a node and what is used of it, ends with this outcome.
pub record CallGives (kit : List Ready) (place : ℕ) (export : Export) (pod : Pod) (node : Node) (used : Res) (outcome : Outcome) : Type 0 where
  pub plugin : Ready
  pub there : slice_get kit place ≡ Some plugin
  pub after : MachineState
  pub calls : CallsFromImage (at_image plugin) export (told_of pod node used) plugin.fuel outcome after

-- the plugin at a place of a kit has nothing of this name to be called
abbrev pub Lacks : (kit : List Ready) → (place : ℕ) → Export → Type 0
Lacks kit place export = (plugin : Ready) × (slice_get kit place ≡ Some plugin) × (called plugin export ≡ None)

-- A kit's rules count as its plugins do, and what they say is what the plugins' calls give: a
-- filter and a score that aren't there pass the node and give 0, and each other one says what is
-- said by how its call ends.
pub record RulesAreCalls : Type 0 where
  pub weights : (kit : List Ready) → (rules_of kit).weights ≡ map (λ p. p.weight) kit
  pub filters : (kit : List Ready) (place : ℕ) (pod : Pod) (node : Node) (used : Res) (verdict : FilterVerdict) →
      (rules_of kit).Filters place (record { pod = pod; node = node; used = used }) verdict
      ↔ ((Lacks kit place export.Filter × (verdict ≡ filter.Passes))
      ⊎ ((outcome : Outcome) × CallGives kit place export.Filter pod node used outcome × (verdict ≡ filter_said outcome)))
  pub scores : (kit : List Ready) (place : ℕ) (pod : Pod) (node : Node) (used : Res) (verdict : ScoreVerdict) →
      (rules_of kit).Scores place (record { pod = pod; node = node; used = used }) verdict
      ↔ ((Lacks kit place export.Score × (verdict ≡ score.Good 0))
      ⊎ ((outcome : Outcome) × CallGives kit place export.Score pod node used outcome × (verdict ≡ score_said outcome)))
