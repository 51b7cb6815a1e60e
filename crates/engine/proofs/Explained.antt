-- What explains a script's cycles is its output, with lines put in; and questions change nothing.
use Rattle.std.proofs.Common.{◌≡◌, ◌⊎◌, inl, inr, ℕ, true, false, List, [], ◌∷◌, ◌++◌, length, Option, Some, None, refl, sym, ap, subst, ◌∙◌, append-nil, append_assoc}
use Rattle.std.specs.List.{All}
use Rattle.std.proofs.lemmas.List.Elements.{All-nil, All-cons, All-head, All-tail}
use Rattle.rules.specs.RuleSet.{RuleSet, SayOneThing}
use Rattle.desk.specs.declared.step.Step.{Step}
use Rattle.desk.specs.Machine.{State, snapshot}
use Rattle.output_lines.specs.declared.named_rule.NamedRule.{NamedRule}
use Rattle.manifest.specs.declared.command.Command.{Command}
use Rattle.manifest.specs.declared.command.Question.{Question}
use Rattle.manifest.specs.declared.command.Command.TheVariants as commands
use Rattle.session.specs.Answers.{opening, step_of, asked_of, Answered, AnsweredBy, AllAnswered}
use Rattle.output_lines.specs.Indented.{AreLines, without_indented}
use Rattle.streams.specs.Lines.{lines_of}
use Rattle.streams.specs.Script.{asked_in}
use Rattle.streams.specs.Script.{taken}
use Rattle.engine.specs.Output.{IsOutput}
use Rattle.output_lines.specs.Text.{cycle_line, judged_line}
use Rattle.output_lines.specs.Telling.{Telling, telling, ruling_lines}
use Rattle.engine.specs.Laws.{AskingChangesNothing, ExplainedOutput, IsAnswer, IsWith, IsWithLines, PlainOutput, unless_asked, without_questions}
use Rattle.output_lines.proofs.Indented.{left_in, left_out, no_lines, without-none}
use Rattle.engine.proofs.OneOutput.{one_output}

-- ---- what is asked

-- The answer to what is asked, and what is put in before it. Nothing of what is put in stays where
-- indented lines are left out, whatever stands behind it.
pub record Part (rules : RuleSet) (named : List NamedRule) (s : State) (a : Option Step) (asking : Option Question) (s' : State) (text : List ℕ) : Type 0 where
  pub told : List ℕ
  pub plain : List ℕ
  pub is : text ≡ told ++ plain
  pub answered : AnsweredBy rules (telling named false) s a asking s' plain
  pub indented : AreLines true told

part_of : (rules : RuleSet) (named : List NamedRule) (s : State) (a : Option Step) (asking : Option Question) (s' : State) (text : List ℕ)
    → AnsweredBy rules (telling named true) s a asking s' text → Part rules named s a asking s' text
part_of rules named s (Some step) asking s' text answered = record { told = []; plain = text; is = refl; answered = answered; indented = no_lines true }
part_of rules named s None (Some question) s' text answered = record { told = []; plain = text; is = refl; answered = answered; indented = no_lines true }
part_of rules named s None None s' text (came, cycle, (told, are, indented, others, is)) = record {
  told = told;
  plain = cycle_line named came;
  is = is;
  answered = (came, cycle, ([], refl, no_lines true, others, refl));
  indented = indented;
}

-- an answer is whole lines: those that begin with two spaces, and the others
lines_answered : (rules : RuleSet) (named : List NamedRule) (s : State) (a : Option Step) (asking : Option Question) (s' : State) (text : List ℕ)
    → AnsweredBy rules (telling named false) s a asking s' text → (told others : List ℕ) × AreLines true told × AreLines false others × (text ≡ told ++ others) × (asking ≡ None → told ≡ [])
lines_answered rules named s (Some step) asking s' text answered = ([], text, no_lines true, answered.2, refl, λ e. refl)
lines_answered rules named s None (Some question) s' text (stays, judges) =
    (ruling_lines named question.pod (snapshot s.cluster) judges.rulings, judged_line question.pod.uid (length (snapshot s.cluster)), judges.indented, judges.last, judges.is, λ e. absurd (cc))
lines_answered rules named s None None s' text (came, cycle, (told, are, indented, others, is)) = (told, cycle_line named came, indented, others, is, λ e. are)

-- what is left of an answer, and of what stands behind it, is what is left of each
left_both : (told others rest : List ℕ) → AreLines true told → AreLines false others → without_indented ((told ++ others) ++ rest) ≡ others ++ without_indented rest
left_both told others rest indented plain =
    ap without_indented (append_assoc told others rest) ∙ left_out told (others ++ rest) indented ∙ left_in others rest plain

-- the same of all that is asked
pub record Parts (rules : RuleSet) (named : List NamedRule) (s : State) (l : List Command) (s' : State) (text : List ℕ) : Type 0 where
  pub plain : List ℕ
  pub answered : AllAnswered rules (telling named false) s l s' plain
  pub with_lines : IsWithLines plain text
  pub both : without_indented text ≡ without_indented plain
  pub unasked : All (λ command. asked_of command ≡ None) l → without_indented plain ≡ plain

parts_of : (rules : RuleSet) (named : List NamedRule) (s : State) (l : List Command) (s' : State) (text : List ℕ) → AllAnswered rules (telling named true) s l s' text → Parts rules named s l s' text
parts_of rules named s [] s' text answered = record {
  plain = [];
  answered = (answered.0, refl);
  with_lines = record { parts = []; text_is = answered.1; plain_is = refl; put_in = All-nil (λ part. AreLines true part.0) };
  both = ap without_indented answered.1;
  unasked = λ none. without-none;
}
parts_of rules named s (first ∷ later) s' text (between, answer, rest, now, then, is) =
    let one = part_of rules named s (step_of first) (asked_of first) between answer now in
    let others = parts_of rules named between later s' rest then in
    let lines = others.with_lines in
    let (indented, flush, are, are_not, same, none) = lines_answered rules named s (step_of first) (asked_of first) between one.plain one.answered in
    let left : (behind : List ℕ) → without_indented (one.plain ++ behind) ≡ flush ++ without_indented behind = λ behind. ap (λ t. without_indented (t ++ behind)) same ∙ left_both indented flush behind are are_not in
    record {
      plain = one.plain ++ others.plain;
      answered = (between, one.plain, others.plain, one.answered, others.answered, refl);
      with_lines = record {
        parts = (one.told, one.plain) ∷ lines.parts;
        text_is = is ∙ (λ i. one.is i ++ lines.text_is i);
        plain_is = ap (λ t. one.plain ++ t) lines.plain_is;
        put_in = All-cons (λ part. AreLines true part.0) (one.told, one.plain) lines.parts one.indented lines.put_in;
      };
      both =
          ap without_indented (is ∙ ap (λ t. t ++ rest) one.is ∙ append_assoc one.told one.plain rest)
          ∙ left_out one.told (one.plain ++ rest) one.indented
          ∙ left rest
          ∙ ap (λ t. flush ++ t) others.both
          ∙ sym (left others.plain);
      unasked = λ all.
          left others.plain
          ∙ (λ i. sym (same ∙ ap (λ t. t ++ flush) (none (All-head (λ command. asked_of command ≡ None) first later all))) i ++ others.unasked (All-tail (λ command. asked_of command ≡ None) first later all) i);
    }

-- the output that explains is the output, with lines put in
pub explained_output : (rules : RuleSet) → ExplainedOutput rules
explained_output rules named script text output =
    let parts = parts_of rules named opening (asked_in taken (lines_of script)) output.end text output.answered in
    (parts.plain, record { end = output.end; answered = parts.answered }, parts.with_lines)

-- and without these lines it is the output without them
pub plain_output : (rules : RuleSet) → SayOneThing rules → PlainOutput rules
plain_output rules once = record {
  both = λ named script text plain explained output.
      let parts = parts_of rules named opening (asked_in taken (lines_of script)) explained.end text explained.answered in
      let same : parts.plain ≡ plain = one_output rules once (telling named false) script parts.plain plain (record { end = explained.end; answered = parts.answered }) output in
      parts.both ∙ ap without_indented same;
  unasked = λ named script text none output.
      let parts = parts_of rules named opening (asked_in taken (lines_of script)) output.end text output.answered in
      subst (λ t. IsOutput rules (telling named false) script t) (sym (parts.both ∙ parts.unasked none)) (record { end = output.end; answered = parts.answered });
}

-- ---- what is asked of the rules alone

-- the answers without those to questions
pub record Bare (rules : RuleSet) (telling : Telling) (s : State) (l : List Command) (s' : State) (text : List ℕ) : Type 0 where
  pub plain : List ℕ
  pub answered : AllAnswered rules telling s (without_questions l) s' plain
  pub with_answers : IsWith (λ part. (part ≡ []) ⊎ IsAnswer part) plain text

-- a part more in front
put_before : (Kind : List ℕ → Type 0) (told own plain text : List ℕ) → Kind told → IsWith Kind plain text → IsWith Kind (own ++ plain) ((told ++ own) ++ text)
put_before Kind told own plain text is with = record {
  parts = (told, own) ∷ with.parts;
  text_is = ap (λ t. (told ++ own) ++ t) with.text_is;
  plain_is = ap (λ t. own ++ t) with.plain_is;
  put_in = All-cons (λ part. Kind part.0) (told, own) with.parts is with.put_in;
}

-- what is no question is asked still
asked_still : (rules : RuleSet) (telling : Telling) (s between : State) (first : Command) (later : List Command) (s' : State) (answer rest : List ℕ) → asked_of first ≡ None
    → Answered rules telling s first between answer → Bare rules telling between later s' rest → Bare rules telling s (first ∷ later) s' (answer ++ rest)
asked_still rules telling s between first later s' answer rest none now bare = record {
  plain = answer ++ bare.plain;
  answered = subst (λ asked. AllAnswered rules telling s (unless_asked asked first (without_questions later)) s' (answer ++ bare.plain)) (sym none) (between, answer, bare.plain, now, bare.answered, refl);
  with_answers = put_before (λ part. (part ≡ []) ⊎ IsAnswer part) [] answer bare.plain rest (inl refl) bare.with_answers;
}

-- what is asked first, and what is asked later without questions
bare_next : (rules : RuleSet) (telling : Telling) (s between : State) (first : Command) (later : List Command) (s' : State) (answer rest : List ℕ)
    → Answered rules telling s first between answer → Bare rules telling between later s' rest → Bare rules telling s (first ∷ later) s' (answer ++ rest)
bare_next rules telling s between (commands.Event event) later s' answer rest now bare = asked_still rules telling s between (commands.Event event) later s' answer rest refl now bare
bare_next rules telling s between (commands.Tick at) later s' answer rest now bare = asked_still rules telling s between (commands.Tick at) later s' answer rest refl now bare
bare_next rules telling s between commands.Cycle later s' answer rest now bare = asked_still rules telling s between commands.Cycle later s' answer rest refl now bare
bare_next rules telling s between (commands.BindDone uid ticket) later s' answer rest now bare = asked_still rules telling s between (commands.BindDone uid ticket) later s' answer rest refl now bare
bare_next rules telling s between (commands.Forget uid ticket) later s' answer rest now bare = asked_still rules telling s between (commands.Forget uid ticket) later s' answer rest refl now bare
bare_next rules telling s between commands.Dump later s' answer rest now bare = asked_still rules telling s between commands.Dump later s' answer rest refl now bare
bare_next rules telling s between (commands.Judge question) later s' answer rest (stays, judges) bare = record {
  plain = bare.plain;
  answered = subst (λ t. AllAnswered rules telling t (without_questions later) s' bare.plain) stays bare.answered;
  with_answers =
      subst (λ t. IsWith (λ part. (part ≡ []) ⊎ IsAnswer part) bare.plain (t ++ rest)) (append-nil answer)
      (put_before (λ part. (part ≡ []) ⊎ IsAnswer part) answer [] bare.plain rest
      (inr (ruling_lines telling.named question.pod (snapshot s.cluster) judges.rulings, question.pod.uid, length (snapshot s.cluster), judges.indented, judges.is)) bare.with_answers);
}

bare_of : (rules : RuleSet) (telling : Telling) (s : State) (l : List Command) (s' : State) (text : List ℕ) → AllAnswered rules telling s l s' text → Bare rules telling s l s' text
bare_of rules telling s [] s' text answered = record {
  plain = [];
  answered = (answered.0, refl);
  with_answers = record { parts = []; text_is = answered.1; plain_is = refl; put_in = All-nil (λ part. (part.0 ≡ []) ⊎ IsAnswer part.0) };
}
bare_of rules telling s (first ∷ later) s' text (between, answer, rest, now, then, is) =
    subst (Bare rules telling s (first ∷ later) s') (sym is)
    (bare_next rules telling s between first later s' answer rest now (bare_of rules telling between later s' rest then))

-- to ask changes nothing
pub asking_changes_nothing : (rules : RuleSet) → AskingChangesNothing rules
asking_changes_nothing rules telling script bare text same output =
    let found = bare_of rules telling opening (asked_in taken (lines_of script)) output.end text output.answered in
    (found.plain, record { end = output.end; answered = subst (λ l. AllAnswered rules telling opening l output.end found.plain) (sym same) found.answered }, found.with_answers)
