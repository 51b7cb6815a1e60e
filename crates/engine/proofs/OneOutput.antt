-- A script has one output.
use Rattle.std.proofs.Common.{◌≡◌, ℕ, Bool, true, false, List, [], ◌∷◌, ◌++◌, length, Option, Some, None, sym, ap, subst, ◌∙◌}
use Rattle.output_lines.specs.Telling.{Telling, Explains, TellsNodes, ruling_lines, verdict_lines}
use Rattle.quant.specs.declared.objects.Pod.{Pod}
use Rattle.desk.specs.declared.step.Step.{Step}
use Rattle.desk.specs.declared.step.Step.TheVariants.{Pop}
use Rattle.desk.specs.Machine as machine
use Rattle.desk.specs.Machine.{State, snapshot}
use Rattle.rules.specs.RuleSet.{RuleSet, SayOneThing}
use Rattle.choose.proofs.OneVerdict.{one_list, one_ruled}
use Rattle.manifest.specs.declared.command.Command.{Command}
use Rattle.manifest.specs.declared.command.Question.{Question}
use Rattle.output_lines.specs.declared.named_rule.NamedRule.{NamedRule}
use Rattle.session.specs.Answers.{after, opening, step_of, asked_of, AnsweredBy, AllAnswered}
use Rattle.streams.specs.Greatest.{limits}
use Rattle.output_lines.specs.Text.{cycle_line, judged_line}
use Rattle.streams.specs.Lines.{lines_of}
use Rattle.streams.specs.Script.{asked_in}
use Rattle.streams.specs.Script.{taken}
use Rattle.engine.specs.Laws.{OneOutput}
use Rattle.cycle.proofs.OneCycle.{Agree, Own, cycle_own, kept_to, one_cycle}
use Rattle.cycle.proofs.OwnNames.{at_opening}

-- ---- what is told of the nodes

one_told_after : (rules : RuleSet) (named : List NamedRule) (s : State) (r : Option Pod) (text text' : List ℕ) → SayOneThing rules → Explains rules named s r text → Explains rules named s r text' → text ≡ text'
one_told_after rules named s (Some pod) text text' once a b =
    let same : a.0 ≡ b.0 = one_list rules pod (snapshot s.cluster) a.0 b.0 once a.1 b.1 in
    a.2 ∙ (ap (λ verdicts. verdict_lines named pod (snapshot s.cluster) verdicts) same ∙ sym b.2)
one_told_after rules named s None text text' once a b = a ∙ sym b

one_told : (rules : RuleSet) (named : List NamedRule) (explains : Bool) (s : State) (text text' : List ℕ) → SayOneThing rules → TellsNodes rules named explains s text → TellsNodes rules named explains s text' → text ≡ text'
one_told rules named true s text text' once a b = one_told_after rules named (machine.after s 0 Pop) (machine.first_pod s.queue) text text' once a b
one_told rules named false s text text' once a b = a ∙ sym b

-- ---- what is asked

-- all that can be asked keeps it
answered_own : (rules : RuleSet) (telling : Telling) (s : State) (a : Option Step) (asking : Option Question) (s' : State) (text : List ℕ) → Own s → AnsweredBy rules telling s a asking s' text → Own s'
unfolding after
answered_own rules telling s (Some step) asking s' text own told = kept_to s s' step told.0 own
answered_own rules telling s None (Some question) s' text own told = subst Own (sym told.0) own
answered_own rules telling s None None s' text own told = cycle_own rules s s' told.0 own told.1

-- what is asked has one answer
one_answer : (rules : RuleSet) (telling : Telling) (s : State) (a : Option Step) (asking : Option Question) (one other : State) (text text' : List ℕ) → SayOneThing rules → Own s
    → AnsweredBy rules telling s a asking one text → AnsweredBy rules telling s a asking other text' → Agree one other text text'
one_answer rules telling s (Some step) asking one other text text' once own a b = (a.0 ∙ sym b.0, a.1 ∙ sym b.1)
one_answer rules telling s None (Some question) one other text text' once own a b =
    let same : a.1.rulings ≡ b.1.rulings = one_ruled question.filters_alone rules question.pod (snapshot s.cluster) a.1.rulings b.1.rulings once a.1.are b.1.are in (
      a.0 ∙ sym b.0,
      a.1.is ∙ (ap (λ rulings. ruling_lines telling.named question.pod (snapshot s.cluster) rulings ++ judged_line question.pod.uid (length (snapshot s.cluster))) same ∙ sym b.1.is),
    )
one_answer rules telling s None None one other text text' once own a b =
    let same : Agree one other a.0 b.0 = one_cycle rules s one other a.0 b.0 once own a.1 b.1 in
    let told : a.2.0 ≡ b.2.0 = one_told rules telling.named telling.explains s a.2.0 b.2.0 once a.2.1 b.2.1 in
    (same.0, a.2.4 ∙ ((λ i. told i ++ cycle_line telling.named (same.1 i)) ∙ sym b.2.4))

-- and all that is asked has one
pub all_one : (rules : RuleSet) (telling : Telling) (s : State) (l : List Command) (one other : State) (text text' : List ℕ) → SayOneThing rules → Own s
    → AllAnswered rules telling s l one text → AllAnswered rules telling s l other text' → Agree one other text text'
all_one rules telling s [] one other text text' once own a b = (a.0 ∙ sym b.0, a.1 ∙ sym b.1)
all_one rules telling s (first ∷ later) one other text text' once own (between, answer, rest, now, then, is) (between', answer', rest', now', then', is') =
    let here : Agree between between' answer answer' = one_answer rules telling s (step_of first) (asked_of first) between between' answer answer' once own now now' in
    let there : Agree one other rest rest' = all_one rules telling between' later one other rest rest' once (answered_own rules telling s (step_of first) (asked_of first) between' answer' own now')
    (subst (λ t. AllAnswered rules telling t later one rest) here.0 then) then' in
    (there.0, is ∙ ((λ i. here.1 i ++ there.1 i) ∙ sym is'))

-- a script has one output
pub one_output : (rules : RuleSet) → SayOneThing rules → OneOutput rules
one_output rules once telling script one other a b =
    (all_one rules telling opening (asked_in taken (lines_of script)) a.end b.end one other once (at_opening limits) a.answered b.answered).1
