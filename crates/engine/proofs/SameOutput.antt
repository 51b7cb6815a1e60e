-- Kits that judge alike have the same output.
use Rattle.std.proofs.Common.{◌≡◌, ◌⊎◌, inl, inr, ℕ, Bool, true, false, List, [], ◌∷◌, Option, Some, None, refl, arith}
use Rattle.std.specs.List.{All, AllZip}
use Rattle.std.proofs.lemmas.List.Elements.{All-head, All-tail}
use Rattle.output_lines.specs.Telling.{Telling, Explains, TellsNodes}
use Rattle.quant.specs.declared.objects.Pod.{Pod}
use Rattle.desk.specs.declared.step.Step.{Step}
use Rattle.desk.specs.declared.step.Step.TheVariants.{Pop}
use Rattle.desk.specs.Machine as machine
use Rattle.desk.specs.Machine.{State}
use Rattle.desk.specs.Shown.{Shown}
use Rattle.rules.specs.RuleSet.{RuleSet}
use Rattle.choose.specs.declared.decision.Decision.{Decision}
use Rattle.choose.specs.declared.decision.Verdict.{Verdict}
use Rattle.choose.specs.Verdict.{HasVerdict, HasRuling, asked}
use Rattle.choose.specs.Choice.{AreVerdicts, Choice}
use Rattle.manifest.specs.declared.command.Command.{Command}
use Rattle.manifest.specs.declared.command.Question.{Question}
use Rattle.output_lines.specs.declared.named_rule.NamedRule.{NamedRule}
use Rattle.cycle.specs.declared.one_cycle.Cycled.{Cycled}
use Rattle.cycle.specs.CycleAlone.{AfterPopAlone}
use Rattle.session.specs.Answers.{opening, step_of, asked_of, AnsweredBy, AllAnswered}
use Rattle.streams.specs.Lines.{lines_of}
use Rattle.streams.specs.Script.{asked_in}
use Rattle.streams.specs.Script.{taken}
use Rattle.choose.specs.Kits.{RuleAlike}
use Rattle.engine.specs.Laws.{AsksNothing, SameOutput}

-- what each verdict has that another has, all have
on_each : (R S : Shown → Verdict → Type 0) → ((node : Shown) (v : Verdict) → R node v → S node v) → (nodes : List Shown) (vs : List Verdict) → AllZip R nodes vs → AllZip S nodes vs
on_each R S each [] [] are = tt
on_each R S each [] (v ∷ vs) are = absurd are
on_each R S each (node ∷ nodes) [] are = absurd are
on_each R S each (node ∷ nodes) (v ∷ vs) are = (each node v are.0, on_each R S each nodes vs are.1)

-- others give all rulings of some rules
abbrev pub GiveAll : (rules other : RuleSet) → Type 0
GiveAll rules other =
    (filters_alone : Bool) (pod : Pod) (shown : Shown) (ruling : Verdict) → HasRuling (asked filters_alone rules) pod shown ruling → HasRuling (asked filters_alone other) pod shown ruling

-- Each of these that is so by some rules is so by others that have all their verdicts.
module _ (rules other : RuleSet) (alike : (pod : Pod) (shown : Shown) (verdict : Verdict) → HasVerdict rules pod shown verdict → HasVerdict other pod shown verdict) where
  -- verdicts on nodes
  verdicts : (pod : Pod) (nodes : List Shown) (vs : List Verdict) → AreVerdicts rules pod nodes vs → AreVerdicts other pod nodes vs
  verdicts pod nodes vs are = on_each (HasVerdict rules pod) (HasVerdict other pod) (alike pod) nodes vs are

  -- the choice among them
  choice : (nodes : List Shown) (pod : Pod) (d : Decision) → Choice rules nodes pod d → Choice other nodes pod d
  choice nodes pod d c = record { verdicts = c.verdicts; are = verdicts pod nodes c.verdicts c.are; is = c.is }

  -- a cycle, once its pod is popped
  after_pop : (s : State) (r : Option Pod) (came : Cycled) (s' : State) → AfterPopAlone rules s r came s' → AfterPopAlone other s r came s'
  after_pop s (Some pod) came s' a = record { decision = a.decision; choice = choice (machine.snapshot s.cluster) pod a.decision a.choice; ends = a.ends }
  after_pop s None came s' a = a

  -- what is told of the nodes
  explains : (named : List NamedRule) (s : State) (r : Option Pod) (text : List ℕ) → Explains rules named s r text → Explains other named s r text
  explains named s (Some pod) text told = (told.0, verdicts pod (machine.snapshot s.cluster) told.0 told.1, told.2)
  explains named s None text told = told

  tells : (named : List NamedRule) (is_told : Bool) (s : State) (text : List ℕ) → TellsNodes rules named is_told s text → TellsNodes other named is_told s text
  tells named true s text told = explains named (machine.after s 0 Pop) (machine.first_pod s.queue) text told
  tells named false s text told = told

  -- the answer to what is asked, where they give all rulings or none is asked for
  answered : (telling : Telling) (s : State) (a : Option Step) (asking : Option Question) (s' : State) (text : List ℕ) → GiveAll rules other ⊎ (asking ≡ None)
      → AnsweredBy rules telling s a asking s' text → AnsweredBy other telling s a asking s' text
  answered telling s (Some step) asking s' text gives told = told
  answered telling s None (Some question) s' text (inr none) told = absurd (cc)
  answered telling s None (Some question) s' text (inl gives) (stays, judges) = (
    stays,
    record {
      rulings = judges.rulings;
      are = on_each (HasRuling (asked question.filters_alone rules) question.pod) (HasRuling (asked question.filters_alone other) question.pod) (gives question.filters_alone question.pod) (machine.snapshot s.cluster) judges.rulings judges.are;
      indented = judges.indented;
      last = judges.last;
      is = judges.is;
    },
  )
  answered telling s None None s' text gives (came, cycle, (told, are, indented, others, is)) =
      (came, record { is = after_pop (machine.after s 0 Pop) (machine.first_pod s.queue) came s' cycle.is }, (told, tells telling.named telling.explains s told are, indented, others, is))

  -- and to all that is asked
  pub all_answered : (telling : Telling) (s : State) (l : List Command) (s' : State) (text : List ℕ) → GiveAll rules other ⊎ All (λ command. asked_of command ≡ None) l
      → AllAnswered rules telling s l s' text → AllAnswered other telling s l s' text
  all_answered telling s [] s' text gives told = told
  all_answered telling s (first ∷ later) s' text (inl gives) (between, answer, rest, now, then, is) =
      (between, answer, rest, answered telling s (step_of first) (asked_of first) between answer (inl gives) now, all_answered telling between later s' rest (inl gives) then, is)
  all_answered telling s (first ∷ later) s' text (inr none) (between, answer, rest, now, then, is) = (
    between,
    answer,
    rest,
    answered telling s (step_of first) (asked_of first) between answer (inr (All-head (λ command. asked_of command ≡ None) first later none)) now,
    all_answered telling between later s' rest (inr (All-tail (λ command. asked_of command ≡ None) first later none)) then,
    is,
  )

-- of two kits that rule alike the other gives all rulings of the one
gives_all : {Kit : Type 0} (answers : Kit → RuleSet) (one other : Kit) (script : List ℕ) → RuleAlike answers (one ∷ other ∷ []) ⊎ AsksNothing script → GiveAll (answers one) (answers other) ⊎ AsksNothing script
gives_all answers one other script (inl alike) = inl (λ filters_alone pod shown ruling. alike filters_alone one other pod shown ruling (0, omega arith, refl) (1, omega arith, refl))
gives_all answers one other script (inr none) = inr none

-- the output by a kit is the output by one that judges alike
pub same_output : {Kit : Type 0} (answers : Kit → RuleSet) (one other : Kit) → SameOutput answers one other
same_output answers one other telling script text alike rule_alike output = record {
  end = output.end;
  answered = all_answered (answers one) (answers other) (λ pod shown verdict. alike one other pod shown verdict (0, omega arith, refl) (1, omega arith, refl)) telling opening (asked_in taken (lines_of script)) output.end text (gives_all answers one other script rule_alike) output.answered;
}
