-- What is decided where there is no rule, without a list of verdicts.
use Rattle.std.specs.Prelude.{ℕ, ◌+◌, nat_le, if◌then◌else◌, List, map, Option, Some, None}
use Rattle.quant.specs.declared.objects.Pod.{Pod}
use Rattle.desk.specs.Shown.{Shown}
use Rattle.choose.specs.declared.decision.Reason.{Reason}
use Rattle.choose.specs.declared.decision.Verdict.{Verdict}
use Rattle.choose.specs.declared.decision.Verdict.TheVariants.{Rejected}
use Rattle.choose.specs.declared.best.Found.{Found}
use Rattle.choose.specs.declared.alone.Told.{Told}
use Rattle.choose.specs.Verdict.{built_in, passing}
use Rattle.choose.specs.Choice.{Judged, judged, count_of, total_of, same_reason}
use Rattle.choose.specs.inside.Verdict.{nothing_added}

-- the verdict on a node where there is no rule
abbrev pub verdict_by : Pod → Shown → Option Reason → Verdict
verdict_by pod shown None = passing shown pod nothing_added
verdict_by pod shown (Some reason) = Rejected reason

abbrev pub alone : Pod → Shown → Verdict
alone pod shown = verdict_by pod shown (built_in shown pod)

-- the nodes, each with this verdict
abbrev pub verdicts_alone : Pod → List Shown → List Verdict
verdicts_alone pod nodes = map (alone pod) nodes

abbrev pub judged_alone : Pod → List Shown → List Judged
judged_alone pod nodes = judged nodes (verdicts_alone pod nodes)

-- what a node is worth, where that is at least so much
abbrev pub worth_from : (least : ℕ) → Option ℕ → Option ℕ
worth_from least None = None
worth_from least (Some worth) = if nat_le least worth then Some worth else None

-- what is told of a node, where so many untolerated taints are the most
abbrev pub told_of : (most least : ℕ) → Verdict → Told
told_of most least verdict = record { count = count_of verdict; worth = worth_from least (total_of most verdict) }

-- the least worth by which a later node goes first
abbrev pub least_after : Option Found → ℕ
least_after None = 0
least_after (Some found) = found.worth + 1

-- what goes first when one more node was told of
abbrev pub after_told : Option Found → (at : ℕ) → Option ℕ → Option Found
after_told first at None = first
after_told first at (Some worth) = Some (record { at = at; worth = worth })

-- one where a node is rejected for this reason, and else none
abbrev pub one_for : Option Reason → Reason → ℕ
one_for None reason = 0
one_for (Some own) reason = if same_reason reason own then 1 else 0
