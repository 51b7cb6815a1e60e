-- What is decided by a site's plugins: where the scheduler's rules and the sandbox's calls meet.
use Rattle.std.specs.Prelude.{◌≡◌, ◌↔◌, ◌⊎◌, Bool, List, map}
use Rattle.quant.specs.declared.objects.Pod.{Pod}
use Rattle.desk.specs.Shown.{Shown}
use Rattle.wmach.specs.declared.export.Export.TheVariants as export
use Rattle.wmach.specs.declared.outcome.Outcome.{Outcome}
use Rattle.rules.specs.declared.verdict.FilterVerdict.TheVariants as filter
use Rattle.rules.specs.declared.verdict.ScoreVerdict.TheVariants as score
use Rattle.rules.specs.RuleSet.{RuleSet}
use Rattle.plugin.specs.Verdict.{filter_said, score_said}
use Rattle.plugin.specs.Kit.{Ready, rules_of}
use Rattle.plugin.specs.Laws.{CallGives, Lacks}
use Rattle.choose.specs.declared.decision.Decision.{Decision}
use Rattle.choose.specs.declared.decision.Verdict.{Verdict}
use Rattle.choose.specs.Verdict.{HasVerdict, HasRuling, asked}
use Rattle.choose.specs.Choice.{Choice}

-- What the calls of a kit's plugins give, each from the plugin's image and with its fuel, with the
-- records of the pod, the node and what is used of it: a filter that isn't there passes the node,
-- and a score gives 0.
abbrev pub calls_of : List Ready → RuleSet
calls_of kit = record {
  weights = map (λ p. p.weight) kit;
  Filters = λ place told verdict. (Lacks kit place export.Filter × (verdict ≡ filter.Passes))
      ⊎ ((outcome : Outcome) × CallGives kit place export.Filter told.pod told.node told.used outcome × (verdict ≡ filter_said outcome));
  Scores = λ place told verdict. (Lacks kit place export.Score × (verdict ≡ score.Good 0))
      ⊎ ((outcome : Outcome) × CallGives kit place export.Score told.pod told.node told.used outcome × (verdict ≡ score_said outcome));
}

-- The verdict on a node by a kit's rules, by which a site's decisions, outputs and storms are
-- defined, is the one that these calls give; and so are the ruling on it, which is by the rules
-- alone or by their filters alone, and the choice among nodes.
pub record DecidedByCalls : Type 0 where
  pub verdict : (kit : List Ready) (pod : Pod) (shown : Shown) (verdict : Verdict) →
      HasVerdict (rules_of kit) pod shown verdict ↔ HasVerdict (calls_of kit) pod shown verdict
  pub ruling : (filters_alone : Bool) (kit : List Ready) (pod : Pod) (shown : Shown) (ruling : Verdict) →
      HasRuling (asked filters_alone (rules_of kit)) pod shown ruling ↔ HasRuling (asked filters_alone (calls_of kit)) pod shown ruling
  pub choice : (kit : List Ready) (nodes : List Shown) (pod : Pod) (decision : Decision) →
      Choice (rules_of kit) nodes pod decision ↔ Choice (calls_of kit) nodes pod decision
