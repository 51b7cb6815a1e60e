-- A kit's rules are its plugins' calls.
use Rattle.std.proofs.Common.{◌≡◌, ℕ, List, ◌⊎◌, inl, inr, refl, Some, slice_get}
use Rattle.quant.specs.declared.amount.Res.{Res}
use Rattle.quant.specs.declared.objects.Node.{Node}
use Rattle.quant.specs.declared.objects.Pod.{Pod}
use Rattle.wmach.specs.declared.export.Export.{Export}
use Rattle.wmach.specs.declared.export.Export.TheVariants as export
use Rattle.wmach.specs.declared.outcome.Outcome.{Outcome}
use Rattle.whost.specs.declared.records.Records.{Records}
use Rattle.whost.specs.Handed.{told_of, pod_records, node_records}
use Rattle.rules.specs.RuleSet.{Told}
use Rattle.rules.specs.declared.verdict.FilterVerdict.TheVariants as filter
use Rattle.rules.specs.declared.verdict.ScoreVerdict.TheVariants as score
use Rattle.plugin.specs.Verdict.{filter_said, score_said}
use Rattle.plugin.specs.Kit.{Ready, Says, records_of}
use Rattle.plugin.specs.Laws.{CallGives, Lacks, RulesAreCalls}

-- records of a pod, and of a node with what is used of it, are those by which plugins are told of
-- them
pub records_told : (records : Records) (told : Told) → records.pod ≡ pod_records told.pod → records.node ≡ node_records told.node told.used → records ≡ records_of told
records_told records told of_pod of_node = λ j. record { pod = of_pod j; node = of_node j }

-- what a plugin says at its place, as a call
there : {V : Type 0} (kit : List Ready) (place : ℕ) (export : Export) (pod : Pod) (node : Node) (used : Res) (without : V) (said : Outcome → V) (verdict : V) →
    (p : Ready) → slice_get kit place ≡ Some p → Says p export without said (told_of pod node used) verdict →
    (Lacks kit place export × (verdict ≡ without)) ⊎ ((outcome : Outcome) × CallGives kit place export pod node used outcome × (verdict ≡ said outcome))
there kit place export pod node used without said verdict p at (inl a) = inl ((p, at, a.0), a.1)
there kit place export pod node used without said verdict p at (inr a) =
    inr (a.0, record { plugin = p; there = at; after = a.1.after; calls = a.1.calls }, a.2)

-- and a call as what the plugin says
back : {V : Type 0} (kit : List Ready) (place : ℕ) (export : Export) (pod : Pod) (node : Node) (used : Res) (without : V) (said : Outcome → V) (verdict : V) →
    (Lacks kit place export × (verdict ≡ without)) ⊎ ((outcome : Outcome) × CallGives kit place export pod node used outcome × (verdict ≡ said outcome)) →
    (p : Ready) × (slice_get kit place ≡ Some p) × Says p export without said (told_of pod node used) verdict
back kit place export pod node used without said verdict (inl a) = (a.0.0, a.0.1, inl (a.0.2, a.1))
back kit place export pod node used without said verdict (inr a) =
    (a.1.plugin, a.1.there, inr (a.0, record { after = a.1.after; calls = a.1.calls }, a.2))

pub rules_are_calls : RulesAreCalls
rules_are_calls = record {
  weights = λ kit. refl;
  filters = λ kit place pod node used verdict. (
    λ s. there kit place export.Filter pod node used filter.Passes filter_said verdict s.0 s.1 s.2,
    λ s. back kit place export.Filter pod node used filter.Passes filter_said verdict s,
  );
  scores = λ kit place pod node used verdict. (
    λ s. there kit place export.Score pod node used (score.Good 0) score_said verdict s.0 s.1 s.2,
    λ s. back kit place export.Score pod node used (score.Good 0) score_said verdict s,
  );
}
