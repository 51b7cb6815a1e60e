-- What the decision's own calls find.
use Rattle.std.specs.Prelude.{◌≡◌, ℕ, ◌<◌, ◌≤◌, Bool, ◌&&◌, ◌||◌, ◌==◌, nat_lt, if◌then◌else◌, List, [], length, Option, Some, None, MatchOption, count_by, slice_index_or}
use Rattle.std.specs.List.{All}
use Rattle.quant.specs.declared.objects.Pod.{Pod}
use Rattle.desk.specs.Shown.{Shown}
use Rattle.choose.specs.declared.best.Worth.{Worth}
use Rattle.choose.specs.declared.best.Worth.TheVariants as worth
use Rattle.choose.specs.declared.best.Found.{Found}
use Rattle.choose.specs.declared.decision.Reason.TheVariants.{Marked, Taint, Cpu, Memory, Pods, Plugin, Final}
use Rattle.choose.specs.declared.decision.Counts.{Counts}
use Rattle.choose.specs.declared.decision.Verdict.{Verdict}
use Rattle.choose.specs.declared.decision.Verdict.TheVariants.{Rejected}
use Rattle.choose.specs.Verdict.{built_in, passing}
use Rattle.choose.specs.inside.Verdict.{nothing_added}
use Rattle.choose.specs.Choice.{Judged, errs, count_of, total_of, is_for, IsFirst}
use Rattle.quant.specs.Name.{is_before}
use Rattle.desk.specs.Order.{name_at}

-- the verdict on a node where there is no rule: the first built-in filter that rejects it, else it
-- passes with nothing added
abbrev pub IsBuiltIn : Pod → Shown → Verdict → Type 0
IsBuiltIn pod shown verdict = MatchOption (built_in shown pod) (verdict ≡ passing shown pod nothing_added) (λ reason. verdict ≡ Rejected reason)

-- what a verdict is worth
abbrev pub worth_of : Worth → Verdict → Option ℕ
worth_of worth.Error verdict = if errs verdict then Some 0 else None
worth_of (worth.Total most) verdict = total_of most verdict

-- no node that passes has more than so many untolerated taints, where that counts
abbrev pub IsBounded : Worth → Verdict → Type 0
IsBounded worth.Error verdict = Unit {0}
IsBounded (worth.Total most) verdict = count_of verdict ≤ most

-- the node at a place, and no node's stand-in past the end
abbrev pub nobody : Judged
nobody = record { name = []; verdict = Rejected Marked }

abbrev pub node_at : List Judged → ℕ → Judged
node_at nodes at = slice_index_or nodes at nobody

-- what was found goes before what was found earlier: it is worth more, or as much and its name
-- comes first
abbrev pub goes_before : List Shown → Found → Found → Bool
goes_before nodes a b = nat_lt b.worth a.worth || ((a.worth == b.worth) && is_before (name_at nodes a.at) (name_at nodes b.at))

-- what stands after one more was found
abbrev pub after_one_more : List Shown → Option Found → Found → Found
after_one_more nodes None next = next
after_one_more nodes (Some first) next = if goes_before nodes next first then next else first

-- of some of the nodes this one goes first, or none is worth anything
abbrev pub StandsFirst : Worth → (nodes some : List Judged) → Option Found → Type 0
StandsFirst by nodes some None = All (λ node. worth_of by node.verdict ≡ None) some
StandsFirst by nodes some (Some found) = (found.at < length nodes) × IsFirst some (worth_of by) (node_at nodes found.at) found.worth

-- how many of the verdicts reject for each reason
abbrev pub counts_in : List Verdict → Counts
counts_in verdicts = record {
  marked = count_by (is_for Marked) verdicts;
  taint = count_by (is_for Taint) verdicts;
  cpu = count_by (is_for Cpu) verdicts;
  memory = count_by (is_for Memory) verdicts;
  pods = count_by (is_for Pods) verdicts;
  plugin = count_by (is_for Plugin) verdicts;
  plugin_final = count_by (is_for Final) verdicts;
}
