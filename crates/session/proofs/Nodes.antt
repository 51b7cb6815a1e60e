-- What is told of the nodes that a cycle saw.
use Rattle.std.proofs.Common.{◌≡◌, ℕ, Bool, true, false, List, [], ◌++◌, Some, None, Result, Ok, Err, OnOk, length, refl, sym, ap, subst}
use Rattle.quant.specs.declared.objects.Pod.{Pod}
use Rattle.desk.specs.declared.step.Step.TheVariants.{Pop}
use Rattle.desk.specs.Machine as machine
use Rattle.desk.specs.Machine.{State, first_pod, snapshot}
use Rattle.desk.specs.Shown.{Shown}
use Rattle.rules.specs.RuleSet.{RuleSet}
use Rattle.choose.specs.declared.decision.Verdict.{Verdict}
use Rattle.choose.specs.Verdict.{asked}
use Rattle.choose.specs.Choice.{AreVerdicts, AreRulings}
use Rattle.manifest.specs.declared.command.Question.{Question}
use Rattle.output_lines.specs.declared.named_rule.NamedRule.{NamedRule}
use Rattle.cycle.specs.declared.one_cycle.Cycled.{Cycled}
use Rattle.cycle.specs.declared.one_cycle.Cycled.TheVariants.{Idle}
use Rattle.cycle.specs.CycleAlone.{IsDecidedAlone, AfterPopAlone, IsCycleAlone}
use Rattle.output_lines.specs.Indented.{AreLines}
use Rattle.output_lines.specs.Text.{judged_line}
use Rattle.output_lines.specs.Telling.{Explains, Judges, TellsNodes, ruling_lines, verdict_lines}

-- ---- a question

-- what is told where the rules were asked of the nodes as they are
pub judged_by : (rules : RuleSet) (named : List NamedRule) (s : State) (question : Question) (nodes : List Shown) (rulings : List Verdict) (many : ℕ) → nodes ≡ snapshot s.cluster
    → many ≡ length nodes → AreRulings (asked question.filters_alone rules) question.pod nodes rulings → AreLines true (ruling_lines named question.pod nodes rulings)
    → AreLines false (judged_line question.pod.uid many) → Judges rules named s question (ruling_lines named question.pod nodes rulings ++ judged_line question.pod.uid many)
judged_by rules named s question nodes rulings many seen all are indented last =
    subst (λ n. Judges rules named s question (ruling_lines named question.pod nodes rulings ++ judged_line question.pod.uid n)) (sym all)
    (subst (λ (rows : List Shown). AreRulings (asked question.filters_alone rules) question.pod rows rulings → AreLines true (ruling_lines named question.pod rows rulings)
    → AreLines false (judged_line question.pod.uid (length rows)) → Judges rules named s question (ruling_lines named question.pod rows rulings ++ judged_line question.pod.uid (length rows))) (sym seen)
    (λ are indented last. record { rulings = rulings; are = are; indented = indented; last = last; is = refl })
    are indented (subst (λ n. AreLines false (judged_line question.pod.uid n)) all last))

-- ---- a cycle that popped no pod

pub idle_cycle : (rules : RuleSet) (s s' : State) → None ≡ first_pod s.queue → s' ≡ machine.after s 0 Pop → IsCycleAlone rules s Idle s'
idle_cycle rules s s' pops is = record { is = subst (λ r. AfterPopAlone rules (machine.after s 0 Pop) r Idle s') pops (refl, is) }

-- nothing is told of it
pub untold : (rules : RuleSet) (named : List NamedRule) (explains : Bool) (s : State) → None ≡ first_pod s.queue → TellsNodes rules named explains s []
untold rules named true s pops = subst (λ r. Explains rules named (machine.after s 0 Pop) r []) pops refl
untold rules named false s pops = refl

-- ---- a cycle that popped one

pub placed_cycle : (rules : RuleSet) (s popped : State) (pod : Pod) (came : Cycled) (s' : State) → Some pod ≡ first_pod s.queue → popped ≡ machine.after s 0 Pop
    → IsDecidedAlone rules popped pod came s' → IsCycleAlone rules s came s'
placed_cycle rules s popped pod came s' pops is decided =
    record { is = subst (λ r. AfterPopAlone rules (machine.after s 0 Pop) r came s') pops (subst (λ t. IsDecidedAlone rules t pod came s') is decided) }

-- where it isn't to be explained, nothing is told
pub unexplained : (rules : RuleSet) (named : List NamedRule) (explains : Bool) (s : State) → explains ≡ false → TellsNodes rules named explains s []
unexplained rules named explains s off = subst (λ b. TellsNodes rules named b s []) (sym off) refl

-- else the verdicts are told by which it was decided
pub told : (rules : RuleSet) (named : List NamedRule) (explains : Bool) (s popped : State) (pod : Pod) (verdicts : List Verdict) → explains ≡ true
    → Some pod ≡ first_pod s.queue → popped ≡ machine.after s 0 Pop → AreVerdicts rules pod (snapshot popped.cluster) verdicts
    → TellsNodes rules named explains s (verdict_lines named pod (snapshot popped.cluster) verdicts)
told rules named explains s popped pod verdicts on pops is are =
    subst (λ b. TellsNodes rules named b s (verdict_lines named pod (snapshot popped.cluster) verdicts)) (sym on)
    (subst (λ r. Explains rules named (machine.after s 0 Pop) r (verdict_lines named pod (snapshot popped.cluster) verdicts)) pops
    (verdicts, subst (λ (t : State). AreVerdicts rules pod (snapshot t.cluster) verdicts) is are, ap (λ (t : State). verdict_lines named pod (snapshot t.cluster) verdicts) is))

-- what is so in any case is so where memory wasn't wanting
pub in_any_case : {T E P : Type 0} (r : Result T E) → P → OnOk r P
in_any_case (Ok x) so = so
in_any_case (Err e) so = tt
