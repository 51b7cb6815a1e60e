-- The choice among all nodes. It depends on the verdicts on them alone.
use Rattle.std.specs.Prelude.{◌≡◌, ℕ, ◌+◌, ◌≤◌, Bool, true, false, List, [], ◌∷◌, Option, Some, None, IfSome, count_by}
use Rattle.std.specs.List.{All, AllZip, Contains}
use Rattle.quant.specs.declared.objects.Pod.{Pod}
use Rattle.quant.specs.Name.{is_before}
use Rattle.quant.specs.Request.{greatest_by}
use Rattle.taints.specs.TaintScore.{taint_score}
use Rattle.desk.specs.Shown.{Shown}
use Rattle.rules.specs.RuleSet.{RuleSet}
use Rattle.choose.specs.declared.decision.Reason.{Reason}
use Rattle.choose.specs.declared.decision.Reason.TheVariants.{Marked, Taint, Cpu, Memory, Pods, Plugin, Final}
use Rattle.choose.specs.declared.decision.Verdict.{Verdict}
use Rattle.choose.specs.declared.decision.Verdict.TheVariants.{Rejected, RejectedBy, Errs, Passes}
use Rattle.choose.specs.declared.decision.Counts.{Counts}
use Rattle.choose.specs.declared.decision.Decision.{Decision}
use Rattle.choose.specs.declared.decision.Decision.TheVariants as decision
use Rattle.choose.specs.Verdict.{HasVerdict, HasRuling, reason_of}

-- a node's name, and the verdict on it
pub record Judged : Type 0 where
  pub name : List ℕ
  pub verdict : Verdict

-- the nodes in order, each with its verdict
abbrev pub judged : List Shown → List Verdict → List Judged
judged [] verdicts = []
judged (shown ∷ rest) [] = []
judged (shown ∷ rest) (verdict ∷ verdicts) = record { name = shown.node.name; verdict = verdict } ∷ judged rest verdicts

-- a verdict says nothing of a node
abbrev pub errs : Verdict → Bool
errs (Errs place why) = true
errs _ = false

-- the untolerated taints `PreferNoSchedule` of a node that passes
abbrev pub count_of : Verdict → ℕ
count_of (Passes count score scores) = count
count_of _ = 0

-- the greatest number of such taints over the nodes that pass, and 0 where none does
abbrev pub most_of : List Judged → ℕ
most_of nodes = greatest_by (λ node. count_of node.verdict) nodes

-- the total of a node that passes with so many of these taints and this score, where `most` is that
-- greatest number
abbrev pub total : (most count score : ℕ) → ℕ
total most count score = score + taint_score count most

abbrev pub total_of : (most : ℕ) → Verdict → Option ℕ
total_of most (Passes count score scores) = Some (total most count score)
total_of most _ = None

-- two reasons are the same
abbrev pub same_reason : Reason → Reason → Bool
same_reason Marked Marked = true
same_reason Taint Taint = true
same_reason Cpu Cpu = true
same_reason Memory Memory = true
same_reason Pods Pods = true
same_reason Plugin Plugin = true
same_reason Final Final = true
same_reason _ _ = false

-- a node is rejected for this first reason
abbrev pub is_for : Reason → Verdict → Bool
is_for reason (Rejected own) = same_reason reason own
is_for reason (RejectedBy place how) = same_reason reason (reason_of how)
is_for reason (Errs place why) = false
is_for reason (Passes count score scores) = false

-- how many nodes are rejected for this first reason
abbrev pub count_for : Reason → List Judged → ℕ
count_for reason nodes = count_by (λ node. is_for reason node.verdict) nodes

abbrev pub counts_of : List Judged → Counts
counts_of nodes = record {
  marked = count_for Marked nodes;
  taint = count_for Taint nodes;
  cpu = count_for Cpu nodes;
  memory = count_for Memory nodes;
  pods = count_for Pods nodes;
  plugin = count_for Plugin nodes;
  plugin_final = count_for Final nodes;
}

-- no node errs
abbrev pub NoneErrs : List Judged → Type 0
NoneErrs nodes = All (λ node. errs node.verdict ≡ false) nodes

-- the erring node of the least name
pub record LeastErring (nodes : List Judged) (node : Judged) : Type 0 where
  pub there : Contains nodes node
  pub says_nothing : errs node.verdict ≡ true
  pub least : All (λ other. errs other.verdict ≡ true → is_before other.name node.name ≡ false) nodes

-- a node of the greatest worth, and of the least name among those that are worth as much, where not
-- every verdict is worth something
pub record IsFirst (nodes : List Judged) (worth : Verdict → Option ℕ) (node : Judged) (greatest : ℕ) : Type 0 where
  pub there : Contains nodes node
  pub has : worth node.verdict ≡ Some greatest
  pub none_greater : All (λ other. IfSome (worth other.verdict) (λ w. w ≤ greatest)) nodes
  pub none_earlier : All (λ other. worth other.verdict ≡ Some greatest → is_before other.name node.name ≡ false) nodes

-- a node that passes with this total, where no node that passes has a greater one and none with an
-- equal one a lesser name
abbrev pub IsBest : List Judged → (name : List ℕ) → (total : ℕ) → Type 0
IsBest nodes name total = (verdict : Verdict) × IsFirst nodes (total_of (most_of nodes)) (record { name = name; verdict = verdict }) total

-- no node passes
abbrev pub NonePasses : List Judged → Type 0
NonePasses nodes = All (λ node. total_of (most_of nodes) node.verdict ≡ None) nodes

-- The decision by the verdicts on all nodes. Where a node errs, the one of the least name decides;
-- else the best one that passes is chosen; where none passes, it is told how many are rejected for
-- which reason.
abbrev pub IsChoice : List Judged → Decision → Type 0
IsChoice nodes (decision.PluginError place name why) = LeastErring nodes (record { name = name; verdict = Errs place why })
IsChoice nodes (decision.Node name total) =
    NoneErrs nodes × IsBest nodes name total
IsChoice nodes (decision.Unschedulable counts) = NoneErrs nodes × NonePasses nodes × (counts ≡ counts_of nodes)

-- these are the verdicts on the nodes, in order
abbrev pub AreVerdicts : RuleSet → Pod → List Shown → List Verdict → Type 0
AreVerdicts rules pod nodes verdicts = AllZip (HasVerdict rules pod) nodes verdicts

-- these are the rulings on the nodes, in order
abbrev pub AreRulings : RuleSet → Pod → List Shown → List Verdict → Type 0
AreRulings rules pod nodes verdicts = AllZip (HasRuling rules pod) nodes verdicts

-- the choice among a snapshot's nodes
pub record Choice (rules : RuleSet) (nodes : List Shown) (pod : Pod) (decision : Decision) : Type 0 where
  pub verdicts : List Verdict
  pub are : AreVerdicts rules pod nodes verdicts
  pub is : IsChoice (judged nodes verdicts) decision
