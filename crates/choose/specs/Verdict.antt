-- What is decided of one node. It depends on that node, the pod and the rules alone.
use Rattle.std.specs.Prelude.{◌≡◌, ℕ, ◌+◌, ◌*◌, ◌<◌, Bool, true, false, List, [], ◌∷◌, ◌++◌, length, drop, replicate, Option, Some, None, Result, Ok, Err, MatchOption, slice_index}
use Rattle.quant.specs.declared.objects.Pod.{Pod}
use Rattle.fit.specs.declared.room.Shortage.{Shortage}
use Rattle.fit.specs.declared.room.Shortage.TheVariants as shortage
use Rattle.fit.specs.Fit.{fit_of}
use Rattle.fit.specs.Score.{least_allocated_score}
use Rattle.taints.specs.declared.tolerance.Rejection.{Rejection as TaintRejection}
use Rattle.taints.specs.declared.tolerance.Rejection.TheVariants as taint
use Rattle.taints.specs.Tolerance.{rejection, prefer_not}
use Rattle.desk.specs.Shown.{Shown}
use Rattle.rules.specs.RuleSet.{RuleSet, Told}
use Rattle.rules.specs.declared.verdict.Rejection.{Rejection}
use Rattle.rules.specs.declared.verdict.Rejection.TheVariants.{Unschedulable, UnschedulableAndUnresolvable}
use Rattle.rules.specs.declared.verdict.Cause.{Cause}
use Rattle.rules.specs.declared.verdict.FilterVerdict.{FilterVerdict}
use Rattle.rules.specs.declared.verdict.FilterVerdict.TheVariants as filter
use Rattle.rules.specs.declared.verdict.ScoreVerdict.TheVariants as score
use Rattle.choose.specs.declared.asking.Added.{Added}
use Rattle.choose.specs.declared.decision.Reason.{Reason}
use Rattle.choose.specs.declared.decision.Reason.TheVariants.{Marked, Taint, Cpu, Memory, Pods, Plugin, Final}
use Rattle.choose.specs.declared.decision.Verdict.{Verdict}
use Rattle.choose.specs.declared.decision.Verdict.TheVariants.{Rejected, RejectedBy, Errs, Passes}

-- the resource of which there is too little
abbrev pub too_little : Result (Unit {0}) Shortage → Option Reason
too_little (Ok fits) = None
too_little (Err shortage.Cpu) = Some Cpu
too_little (Err shortage.Memory) = Some Memory
too_little (Err shortage.Pods) = Some Pods

-- the first of the built-in filters that rejects a node: its mark, its taints, and then what it has
-- for pods
abbrev pub first_reason : Option TaintRejection → Result (Unit {0}) Shortage → Option Reason
first_reason (Some taint.Marked) room = Some Marked
first_reason (Some taint.Tainted) room = Some Taint
first_reason None room = too_little room

unfoldable pub built_in : Shown → Pod → Option Reason
built_in shown pod = first_reason (rejection shown.node pod) (fit_of shown.node.allocatable shown.used pod.request)

-- why a rule's filter rejects, as reasons are counted
abbrev pub reason_of : Rejection → Reason
reason_of Unschedulable = Plugin
reason_of UnschedulableAndUnresolvable = Final

-- what a filter's answer makes of a node, where it doesn't pass
abbrev pub stopped_by : (place : ℕ) → FilterVerdict → Option Verdict
stopped_by place filter.Passes = None
stopped_by place (filter.Rejects how) = Some (RejectedBy place how)
stopped_by place (filter.Errs why) = Some (Errs place why)

-- the filters of all rules before a place pass a node
abbrev pub PassBefore : RuleSet → (place : ℕ) → (told : Told) → Type 0
PassBefore rules place told = (k : ℕ) → k < place → rules.Filters k told filter.Passes

-- what the rules are told of a node that is shown, for a pod
abbrev pub told_of : Pod → Shown → Told
told_of pod shown = record { pod = pod; node = shown.node; used = shown.used }

-- the first rule whose filter doesn't pass a node
pub record StopsAt (rules : RuleSet) (told : Told) (verdict : Verdict) : Type 0 where
  pub place : ℕ
  pub there : place < length rules.weights
  pub before : PassBefore rules place told
  pub said : FilterVerdict
  pub says : rules.Filters place told said
  pub makes : stopped_by place said ≡ Some verdict

-- what the filters of the rules make of a node: nothing where all of them pass
abbrev pub Filtered : RuleSet → (told : Told) → Option Verdict → Type 0
Filtered rules told None = PassBefore rules (length rules.weights) told
Filtered rules told (Some verdict) = StopsAt rules told verdict

-- these are the scores of the first rules, all of them good
abbrev pub AreScores : RuleSet → (told : Told) → (scores : List ℕ) → Type 0
AreScores rules told scores = (k : ℕ) → k < length scores → rules.Scores k told (score.Good (slice_index scores k))

-- each score as often as its rule's weight says, added up
abbrev pub weighted : (weights scores : List ℕ) → ℕ
weighted [] scores = 0
weighted (w ∷ ws) [] = 0
weighted (w ∷ ws) (s ∷ ss) = w * s + weighted ws ss

-- the places that a verdict has for the scores of rules, where none is given
abbrev pub no_scores : List ℕ
no_scores = replicate 16 0

-- scores in the first of these places
abbrev pub in_places : List ℕ → List ℕ
in_places scores = scores ++ drop (length scores) no_scores

-- all rules give good scores, and this is what they add: their weighted sum, and the scores in
-- their places
pub record ScoresAdd (rules : RuleSet) (told : Told) (added : Added) : Type 0 where
  pub scores : List ℕ
  pub all : length scores ≡ length rules.weights
  pub are : AreScores rules told scores
  pub adds : added.sum ≡ weighted rules.weights scores
  pub shows : added.scores ≡ in_places scores

-- the first rule whose score isn't good
pub record ScoreErrs (rules : RuleSet) (told : Told) (verdict : Verdict) : Type 0 where
  pub before : List ℕ
  pub there : length before < length rules.weights
  pub are : AreScores rules told before
  pub why : Cause
  pub says : rules.Scores (length before) told (score.Errs why)
  pub makes : verdict ≡ Errs (length before) why

-- what the scores of the rules make of a node that all filters pass
abbrev pub Scored : RuleSet → (told : Told) → Result Added Verdict → Type 0
Scored rules told (Ok added) = ScoresAdd rules told added
Scored rules told (Err verdict) = ScoreErrs rules told verdict

-- a node that passes: its untolerated taints `PreferNoSchedule`, its score for free room with what
-- the rules add, and their scores
abbrev pub passing : Shown → Pod → Added → Verdict
passing shown pod added =
    Passes (prefer_not shown.node pod) (least_allocated_score shown.node.allocatable shown.used pod.request + added.sum) added.scores

-- the verdict that the scores make, where what they add makes this one
abbrev pub made_by : (made : Added → Verdict) → Result Added Verdict → Verdict
made_by made (Ok added) = made added
made_by made (Err verdict) = verdict

-- the verdict on a node that all filters pass: the first score that isn't good, else it passes
pub record ByScores (rules : RuleSet) (told : Told) (made : Added → Verdict) (verdict : Verdict) : Type 0 where
  pub scored : Result Added Verdict
  pub are : Scored rules told scored
  pub is : verdict ≡ made_by made scored

-- the verdict of the rules: the first filter that doesn't pass, else by the scores
pub record ByRules (rules : RuleSet) (told : Told) (made : Added → Verdict) (verdict : Verdict) : Type 0 where
  pub filtered : Option Verdict
  pub are : Filtered rules told filtered
  pub is : MatchOption filtered (ByScores rules told made verdict) (λ stopped. verdict ≡ stopped)

-- the verdict on a node
abbrev pub HasVerdict : RuleSet → Pod → Shown → Verdict → Type 0
HasVerdict rules pod shown verdict =
    MatchOption (built_in shown pod) (ByRules rules (told_of pod shown) (passing shown pod) verdict) (λ reason. verdict ≡ Rejected reason)

-- ---- the rules alone

-- a node that the rules alone pass: nothing of its own counts
abbrev pub passing_alone : Added → Verdict
passing_alone added = Passes 0 added.sum added.scores

-- the same rules, of which none has a score
abbrev pub without_scores : RuleSet → RuleSet
without_scores rules = record { weights = rules.weights; Filters = rules.Filters; Scores = λ place told said. said ≡ score.Good 0 }

-- the rules that are asked: these, or their filters alone
abbrev pub asked : (filters_alone : Bool) → RuleSet → RuleSet
asked false rules = rules
asked true rules = without_scores rules

-- the ruling on a node: what the rules alone say of it, whatever the built-in filters do
abbrev pub HasRuling : RuleSet → Pod → Shown → Verdict → Type 0
HasRuling rules pod shown verdict = ByRules rules (told_of pod shown) passing_alone verdict
