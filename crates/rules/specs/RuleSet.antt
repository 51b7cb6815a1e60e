-- What a site's rules say, rule by rule in the order in which they are configured.
use Rattle.std.specs.Prelude.{◌≡◌, ℕ, List, []}
use Rattle.quant.specs.declared.amount.Res.{Res}
use Rattle.quant.specs.declared.objects.Node.{Node}
use Rattle.quant.specs.declared.objects.Pod.{Pod}
use Rattle.rules.specs.declared.verdict.FilterVerdict.{FilterVerdict}
use Rattle.rules.specs.declared.verdict.ScoreVerdict.{ScoreVerdict}

-- what rules are told: a pod, and a node with what the pods on it use
pub record Told : Type 0 where
  pub pod : Pod
  pub node : Node
  pub used : Res

-- these as what rules are told
abbrev pub told_of : Pod → Node → (used : Res) → Told
told_of pod node used = record { pod = pod; node = node; used = used }

-- A filter that a rule doesn't have passes every node, a score gives 0.
pub record RuleSet : Type 1 where
  -- how much each rule's score counts: there are as many rules as weights
  pub weights : List ℕ
  -- the filter of the rule at this place says this
  pub Filters : (place : ℕ) → (told : Told) → FilterVerdict → Type 0
  -- its score says this
  pub Scores : (place : ℕ) → (told : Told) → ScoreVerdict → Type 0

-- of one pod and one node a filter says one thing, and so does a score
pub record SayOneThing (rules : RuleSet) : Type 0 where
  pub filter : (place : ℕ) (told : Told) (one other : FilterVerdict) →
      rules.Filters place told one → rules.Filters place told other → one ≡ other
  pub score : (place : ℕ) (told : Told) (one other : ScoreVerdict) →
      rules.Scores place told one → rules.Scores place told other → one ≡ other

-- no rules, of which nothing is said
abbrev pub no_rules : RuleSet
no_rules = record { weights = []; Filters = λ place told said. ⊥; Scores = λ place told said. ⊥ }
