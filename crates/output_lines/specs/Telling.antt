-- What is told of the nodes that a cycle saw: each line begins with two spaces.
use Rattle.std.specs.Prelude.{◌≡◌, ℕ, ◌-◌, Bool, true, false, List, [], ◌++◌, length, Option, Some, None, codes, decimal, zip}
use Rattle.std.specs.List.{flat_map}
use Rattle.quant.specs.declared.objects.Pod.{Pod}
use Rattle.quant.specs.declared.taint.Effect.{Effect}
use Rattle.quant.specs.declared.taint.Effect.TheVariants.{NoSchedule, PreferNoSchedule, NoExecute}
use Rattle.quant.specs.declared.taint.Taint.{Taint}
use Rattle.fit.specs.Score.{least_allocated_score}
use Rattle.taints.specs.TaintScore.{taint_score}
use Rattle.taints.specs.Tolerance.{first_untolerated}
use Rattle.desk.specs.declared.step.Step.TheVariants.{Pop}
use Rattle.desk.specs.Machine.{State, after, first_pod, snapshot}
use Rattle.desk.specs.Shown.{Shown}
use Rattle.rules.specs.RuleSet.{RuleSet}
use Rattle.rules.specs.declared.verdict.Rejection.{Rejection}
use Rattle.rules.specs.declared.verdict.Rejection.TheVariants.{Unschedulable, UnschedulableAndUnresolvable}
use Rattle.choose.specs.declared.decision.Reason.{Reason}
use Rattle.choose.specs.declared.decision.Reason.TheVariants as reason
use Rattle.choose.specs.declared.decision.Verdict.{Verdict}
use Rattle.choose.specs.declared.decision.Verdict.TheVariants.{Rejected, RejectedBy, Errs, Passes}
use Rattle.choose.specs.Verdict.{asked}
use Rattle.choose.specs.Choice.{judged, most_of, total, AreVerdicts, AreRulings}
use Rattle.manifest.specs.declared.command.Question.{Question}
use Rattle.output_lines.specs.declared.named_rule.NamedRule.{NamedRule}
use Rattle.output_lines.specs.Indented.{AreLines}
use Rattle.streams.specs.Lines.{line_of}
use Rattle.output_lines.specs.Text.{cause_text, judged_line, name_at}

-- what the answers to cycles tell: rules by these names and weights, in their order, and the
-- verdict on each node or not
pub record Telling : Type 0 where
  pub named : List NamedRule
  pub explains : Bool

abbrev pub telling : (named : List NamedRule) → (explains : Bool) → Telling
telling named explains = record { named = named; explains = explains }

-- ---- a node that is rejected

-- how much is asked for, of how much is free: nothing, where more is used than there is
unfoldable pub want_text : (asked allocatable used : ℕ) → List ℕ
want_text asked allocatable used = decimal asked ++ (codes " of " ++ decimal (allocatable - used))

-- an effect's name
abbrev pub effect_name : Effect → List ℕ
effect_name NoSchedule = codes "NoSchedule"
effect_name PreferNoSchedule = codes "PreferNoSchedule"
effect_name NoExecute = codes "NoExecute"

-- a taint, if there is one, behind a space
unfoldable pub taint_text : Option Taint → List ℕ
taint_text None = []
taint_text (Some taint) = codes " " ++ taint.key ++ (codes "=" ++ taint.value) ++ (codes ":" ++ effect_name taint.effect)

-- Why a built-in filter rejects a node that is shown, for a pod: of taints the first that keeps the
-- pod off, and of an amount of which there is too little how much the pod asks for, of how much is
-- free. CPU is in thousandths of a core, memory in bytes; a pod asks for one place among a node's
-- pods. Where there is too little of several amounts, the one is told for which the node counts:
-- the first of CPU, memory and pods.
unfoldable pub reason_text : Pod → Shown → Reason → List ℕ
reason_text pod shown reason.Marked = codes "marked"
reason_text pod shown reason.Taint = codes "taint" ++ taint_text (first_untolerated shown.node pod)
reason_text pod shown reason.Cpu = codes "cpu " ++ want_text pod.request.cpu.0 shown.node.allocatable.cpu.0 shown.used.cpu.0
reason_text pod shown reason.Memory = codes "memory " ++ want_text pod.request.mem.0 shown.node.allocatable.mem.0 shown.used.mem.0
reason_text pod shown reason.Pods = codes "pods " ++ want_text 1 shown.node.allocatable.pods shown.used.pods
reason_text pod shown reason.Plugin = codes "plugin"
reason_text pod shown reason.Final = codes "final"

-- the code by which a filter rejects
abbrev pub code_of : Rejection → ℕ
code_of Unschedulable = 2
code_of UnschedulableAndUnresolvable = 3

-- ---- a node that passes

-- a rule's part of a total: its name, its weight and its score
unfoldable pub part_text : NamedRule × ℕ → List ℕ
part_text part = codes " " ++ part.0.name ++ (codes " " ++ decimal part.0.weight) ++ (codes " " ++ decimal part.1)

-- each rule's part, by the rules' places
abbrev pub parts_text : List NamedRule → (scores : List ℕ) → List ℕ
parts_text named scores = flat_map part_text (zip named scores)

-- The total of a node that is shown and passes, and what it is the sum of: the score for what the
-- pod would leave free, the one for taints that only make the node less preferred, and each rule's
-- score as often as its weight says.
unfoldable pub total_text : List NamedRule → (most : ℕ) → Pod → Shown → (count score : ℕ) → (scores : List ℕ) → List ℕ
total_text named most pod shown count score scores =
    codes "total " ++ decimal (total most count score)
    ++ (codes " fit " ++ decimal (least_allocated_score shown.node.allocatable shown.used pod.request))
    ++ (codes " taints " ++ decimal (taint_score count most))
    ++ parts_text named scores

-- What the rules alone add up to: each rule's score as often as its weight says.
unfoldable pub sum_text : List NamedRule → (score : ℕ) → (scores : List ℕ) → List ℕ
sum_text named score scores = codes "total " ++ decimal score ++ parts_text named scores

-- where the most untolerated taints of a node that passes are these; where none are told, it was
-- asked what the rules alone say
abbrev pub passing_text : List NamedRule → (most : Option ℕ) → Pod → Shown → (count score : ℕ) → (scores : List ℕ) → List ℕ
passing_text named (Some most) pod shown count score scores = total_text named most pod shown count score scores
passing_text named None pod shown count score scores = sum_text named score scores

-- ---- a verdict

-- the verdict on a node that is shown, or the ruling
unfoldable pub verdict_text : List NamedRule → (most : Option ℕ) → Pod → Shown → Verdict → List ℕ
verdict_text named most pod shown (Rejected reason) = reason_text pod shown reason
verdict_text named most pod shown (RejectedBy place how) = codes "plugin " ++ name_at named place ++ (codes " " ++ decimal (code_of how))
verdict_text named most pod shown (Errs place why) = codes "error plugin " ++ name_at named place ++ (codes " " ++ cause_text why)
verdict_text named most pod shown (Passes count score scores) = passing_text named most pod shown count score scores

-- the line of a node
unfoldable pub verdict_line : List NamedRule → (most : Option ℕ) → Pod → Shown × Verdict → List ℕ
verdict_line named most pod node =
    line_of (codes "  " ++ node.0.node.name ++ (codes " " ++ verdict_text named most pod node.0 node.1))

-- the lines of all nodes, in their order
abbrev pub lines_by : List NamedRule → (most : Option ℕ) → Pod → List Shown → List Verdict → List ℕ
lines_by named most pod nodes verdicts = flat_map (verdict_line named most pod) (zip nodes verdicts)

-- those of verdicts
abbrev pub verdict_lines : List NamedRule → Pod → List Shown → List Verdict → List ℕ
verdict_lines named pod nodes verdicts = lines_by named (Some (most_of (judged nodes verdicts))) pod nodes verdicts

-- and those of rulings
abbrev pub ruling_lines : List NamedRule → Pod → List Shown → List Verdict → List ℕ
ruling_lines named pod nodes rulings = lines_by named None pod nodes rulings

-- ---- a question

-- The answer to a question for a pod: what the rules alone say of each node as it now is, with what
-- is used of it, or their filters alone, and how many nodes these are. The lines of the nodes begin
-- with two spaces, and the last line doesn't.
pub record Judges (rules : RuleSet) (named : List NamedRule) (s : State) (question : Question) (text : List ℕ) : Type 0 where
  pub rulings : List Verdict
  pub are : AreRulings (asked question.filters_alone rules) question.pod (snapshot s.cluster) rulings
  pub indented : AreLines true (ruling_lines named question.pod (snapshot s.cluster) rulings)
  pub last : AreLines false (judged_line question.pod.uid (length (snapshot s.cluster)))
  pub is : text ≡ ruling_lines named question.pod (snapshot s.cluster) rulings ++ judged_line question.pod.uid (length (snapshot s.cluster))

-- ---- a cycle

-- What is told of the nodes, by the pod that `Pop` gives: where it gives one, the verdict on each
-- node for it, by which it is decided, with what the node has and what is used of it as the
-- decision sees them.
abbrev pub Explains : RuleSet → (named : List NamedRule) → State → Option Pod → List ℕ → Type 0
Explains rules named s (Some pod) text =
    (verdicts : List Verdict) × AreVerdicts rules pod (snapshot s.cluster) verdicts × (text ≡ verdict_lines named pod (snapshot s.cluster) verdicts)
Explains rules named s None text = text ≡ []

-- what is told of the nodes before the line of a cycle that begins in this state
abbrev pub TellsNodes : RuleSet → (named : List NamedRule) → (explains : Bool) → State → List ℕ → Type 0
TellsNodes rules named true s text = Explains rules named (after s 0 Pop) (first_pod s.queue) text
TellsNodes rules named false s text = text ≡ []
