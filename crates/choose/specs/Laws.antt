-- What holds of every choice.
use Rattle.std.specs.Prelude.{◌≡◌, ℕ, ◌-◌, ◌<◌, Bool, if◌then◌else◌, List, [], ◌∷◌, ◌++◌, length, Option, Some, None}
use Rattle.quant.specs.declared.objects.Pod.{Pod}
use Rattle.desk.specs.Shown.{Shown}
use Rattle.rules.specs.RuleSet.{RuleSet}
use Rattle.choose.specs.declared.decision.Reason.{Reason}
use Rattle.choose.specs.declared.decision.Reason.TheVariants.{Marked, Taint, Cpu, Memory, Pods, Plugin, Final}
use Rattle.choose.specs.declared.decision.Verdict.{Verdict}
use Rattle.choose.specs.declared.decision.Verdict.TheVariants.{Rejected, RejectedBy, Errs, Passes}
use Rattle.choose.specs.declared.decision.Decision.{Decision}
use Rattle.choose.specs.declared.decision.Decision.TheVariants as decision
use Rattle.choose.specs.Verdict.{HasVerdict, HasRuling, asked, reason_of}
use Rattle.choose.specs.Choice.{Judged, judged, same_reason, IsChoice, AreVerdicts, Choice}
use Rattle.desk.specs.Order.{name_at}

-- There is one verdict on a node, whatever the other nodes are.
abbrev pub OneVerdict : RuleSet → Type 0
OneVerdict rules = (pod : Pod) (shown : Shown) (one other : Verdict) → HasVerdict rules pod shown one → HasVerdict rules pod shown other → one ≡ other

-- There is one ruling on a node, by all rules and by their filters alone.
abbrev pub OneRuling : RuleSet → Type 0
OneRuling rules =
    (filters_alone : Bool) (pod : Pod) (shown : Shown) (one other : Verdict) → HasRuling (asked filters_alone rules) pod shown one → HasRuling (asked filters_alone rules) pod shown other
    → one ≡ other

-- no two of the nodes have one name
abbrev pub HaveOwnNames : List Shown → Type 0
HaveOwnNames nodes = (i j : ℕ) → i < length nodes → j < length nodes → name_at nodes i ≡ name_at nodes j → i ≡ j

-- There is one decision among nodes that have names of their own: one node is chosen or none, with
-- one total; one error is told or none.
abbrev pub OneDecision : RuleSet → Type 0
OneDecision rules =
    (nodes : List Shown) (pod : Pod) (one other : Decision) → HaveOwnNames nodes → Choice rules nodes pod one → Choice rules nodes pod other → one ≡ other

-- The choice depends on the verdicts alone, which may be made in parts.
pub record VerdictsDecide (rules : RuleSet) : Type 0 where
  -- no verdicts are those on no nodes
  pub none : (pod : Pod) → AreVerdicts rules pod [] []
  -- verdicts on some nodes, and then those on more, are the verdicts on all of them
  pub joined : (pod : Pod) (nodes more : List Shown) (verdicts others : List Verdict) →
      AreVerdicts rules pod nodes verdicts → AreVerdicts rules pod more others → AreVerdicts rules pod (nodes ++ more) (verdicts ++ others)
  -- there is one list of verdicts on the nodes
  pub one : (pod : Pod) (nodes : List Shown) (verdicts others : List Verdict) →
      AreVerdicts rules pod nodes verdicts → AreVerdicts rules pod nodes others → verdicts ≡ others
  -- the decision by the verdicts on the nodes is the choice among them, and the choice is the
  -- decision by them
  pub decide : (pod : Pod) (nodes : List Shown) (verdicts : List Verdict) (decision : Decision) →
      AreVerdicts rules pod nodes verdicts → IsChoice (judged nodes verdicts) decision → Choice rules nodes pod decision
  pub decided : (pod : Pod) (nodes : List Shown) (verdicts : List Verdict) (decision : Decision) →
      AreVerdicts rules pod nodes verdicts → Choice rules nodes pod decision → IsChoice (judged nodes verdicts) decision

-- one less where the reasons are the same
abbrev pub one_less : (own reason : Reason) → ℕ → ℕ
one_less own reason n = if same_reason reason own then n - 1 else n

-- a decision where a node that is rejected for this reason isn't counted
abbrev pub uncounted : Reason → Decision → Decision
uncounted own (decision.Node name total) = decision.Node name total
uncounted own (decision.PluginError place name why) = decision.PluginError place name why
uncounted own (decision.Unschedulable counts) = decision.Unschedulable (record {
  marked = one_less own Marked counts.marked;
  taint = one_less own Taint counts.taint;
  cpu = one_less own Cpu counts.cpu;
  memory = one_less own Memory counts.memory;
  pods = one_less own Pods counts.pods;
  plugin = one_less own Plugin counts.plugin;
  plugin_final = one_less own Final counts.plugin_final;
})

-- the reason for which a verdict rejects, where it does
abbrev pub rejects_for : Verdict → Option Reason
rejects_for (Rejected reason) = Some reason
rejects_for (RejectedBy place how) = Some (reason_of how)
rejects_for (Errs place why) = None
rejects_for (Passes count score scores) = None

-- Without a node that is rejected the decision among the others is the same, but for the counts.
abbrev pub RejectedOnlyCount : Type 0
RejectedOnlyCount =
    (front back : List Judged) (node : Judged) (reason : Reason) → rejects_for node.verdict ≡ Some reason → (decision : Decision) →
    IsChoice (front ++ node ∷ back) decision → IsChoice (front ++ back) (uncounted reason decision)
