-- How far a run has come: what is written and what waits answers the lines that were taken.
use Rattle.std.proofs.Common.{◌≡◌, ℕ, ◌+◌, List, [], ◌∷◌, ◌++◌, take, Option, Some, None, Result, Ok, Err, IfSome, refl, sym, subst, ap, ◌∙◌, append_assoc}
use Rattle.std.proofs.KnownBytes.{Appends-trans, Appends-nil}
use Rattle.std.proofs.lemmas.List.{append-nil}
use Rattle.std.specs.Io.KnownBytes.{Appends, Consumes, IsAtEnd, prepend_known}
use Rattle.manifest.specs.declared.fault.LineFault.{LineFault}
use Rattle.output_lines.specs.Telling.{Telling}
use Rattle.rules.specs.RuleSet.{RuleSet}
use Rattle.manifest.specs.declared.command.Command.{Command}
use Rattle.streams.specs.Device.{AppendsFront}
use Rattle.streams.specs.inside.Device.{WritesSome}
use Rattle.streams.specs.Lines.{lines_of, TakesLine}
use Rattle.session.specs.Answers.{State, opening, Answered, AllAnswered}
use Rattle.streams.specs.Script.{asked_by, asked_in, fault_from}
use Rattle.streams.specs.Script.{taken, first_fault}
use Rattle.engine.specs.Output.{WritesOutput, WritesFront}
use Rattle.engine.specs.inside.Output.{IsAnswered}
use Rattle.streams.proofs.Asked.{asked-first, fault-first}
use Rattle.streams.proofs.Taking.{lines_of-nil}

-- ---- what is answered

-- one more is answered
all_answered_more : (rules : RuleSet) (telling : Telling) (s between s' : State) (done : List Command) (asked : Command) (text more : List ℕ) → AllAnswered rules telling s done between text → Answered rules telling between asked s' more → AllAnswered rules telling s (done ++ asked ∷ []) s' (text ++ more)
all_answered_more rules telling s between s' [] asked text more so_far next = (
  s',
  more,
  [],
  subst (λ was. Answered rules telling was asked s' more) so_far.0 next,
  (refl, refl),
  ap (λ t. t ++ more) so_far.1 ∙ sym (append-nil more),
)
all_answered_more rules telling s between s' (first ∷ done) asked text more so_far next =
    let (after, answer, rest, answered, later, apart) = so_far in (
      after,
      answer,
      rest ++ more,
      answered,
      all_answered_more rules telling after between s' done asked rest more later next,
      ap (λ t. t ++ more) apart ∙ append_assoc answer rest more,
    )

-- ---- the run so far

-- Of a known script this rest is left, `old` was written before the run and `now` by now, and so
-- on.
pub record IsAt (rules : RuleSet) (telling : Telling) (script rest : List ℕ) (old now : Option (List ℕ)) (pending : List ℕ) (state : State) (number : ℕ) (text : List ℕ) : Type 0 where
  pub writes : Appends old now text
  pub done : List Command
  pub cut : asked_in taken (lines_of script) ≡ done ++ asked_in taken (lines_of rest)
  pub answered : AllAnswered rules telling opening done state (text ++ pending)
  pub faults : fault_from taken number (lines_of rest) ≡ first_fault script

abbrev pub IsRunning : RuleSet → Telling → Option (List ℕ) → Option (List ℕ) → Option (List ℕ) → Option (List ℕ) → List ℕ → State → ℕ → Type 0
IsRunning rules telling None rest old now pending state number = Unit {0}
IsRunning rules telling (Some script) None old now pending state number = ⊥
IsRunning rules telling (Some script) (Some rest) old now pending state number = (text : List ℕ) × IsAt rules telling script rest old now pending state number text

module _ (rules : RuleSet) (telling : Telling) where
  -- where nothing is written, that is a beginning of any output
  pub nothing-written : (script known : Option (List ℕ)) → IfSome script (λ text. WritesFront rules telling text known known)
  nothing-written None known = tt
  nothing-written (Some text) known = (
    [],
    record { asked = []; later = asked_in taken (lines_of text); cut = refl; end = opening; text = []; answered = (refl, refl); rest = []; begins = refl },
    Appends-nil known,
  )

  -- nothing is read yet, and nothing written
  pub IsRunning-start : (script old : Option (List ℕ)) → IsRunning rules telling script (prepend_known [] script) old old [] opening 1
  unfolding first_fault
  IsRunning-start None old = tt
  IsRunning-start (Some script) old = ([], record { writes = Appends-nil old; done = []; cut = refl; answered = (refl, refl); faults = refl })

  -- the same of a reader that is new, and of nothing that waits
  pub IsRunning-begin : (script old : Option (List ℕ)) (reader pending : List ℕ) (state : State) → reader ≡ [] → pending ≡ [] → state ≡ opening → IsRunning rules telling script (prepend_known reader script) old old pending state 1
  IsRunning-begin script old reader pending state none nothing opens = rw (none, nothing, opens) (IsRunning-start script old)

  -- a beginning of what waited is written, and the rest waits on
  pub IsRunning-partly : (script rest old was now : Option (List ℕ)) (pending later : List ℕ) (state : State) (number : ℕ) → WritesSome was now pending later → IsRunning rules telling script rest old was pending state number → IsRunning rules telling script rest old now later state number
  IsRunning-partly None rest old was now pending later state number wrote so_far = tt
  IsRunning-partly (Some script) None old was now pending later state number wrote so_far = absurd so_far
  IsRunning-partly (Some script) (Some rest) old was now pending later state number wrote so_far =
      let same : so_far.0 ++ pending ≡ (so_far.0 ++ wrote.0) ++ later = ap (λ t. so_far.0 ++ t) wrote.1 ∙ sym (append_assoc so_far.0 wrote.0 later) in (
        so_far.0 ++ wrote.0,
        record {
          writes = Appends-trans old was now _ _ so_far.1.writes wrote.2;
          done = so_far.1.done;
          cut = so_far.1.cut;
          answered = subst (AllAnswered rules telling opening so_far.1.done state) same so_far.1.answered;
          faults = so_far.1.faults;
        },
      )

  -- what waited is written
  pub IsRunning-flushed : (script rest old was now : Option (List ℕ)) (pending : List ℕ) (state : State) (number : ℕ) → Appends was now pending → IsRunning rules telling script rest old was pending state number → IsRunning rules telling script rest old now [] state number
  IsRunning-flushed None rest old was now pending state number wrote so_far = tt
  IsRunning-flushed (Some script) None old was now pending state number wrote so_far = absurd so_far
  IsRunning-flushed (Some script) (Some rest) old was now pending state number wrote so_far = (
    so_far.0 ++ pending,
    record {
      writes = Appends-trans old was now _ _ so_far.1.writes wrote;
      done = so_far.1.done;
      cut = so_far.1.cut;
      answered = subst (AllAnswered rules telling opening so_far.1.done state) (sym (append-nil (so_far.0 ++ pending))) so_far.1.answered;
      faults = so_far.1.faults;
    },
  )

  -- a beginning of what waited is written
  pub front-flushed : (script rest old was now : Option (List ℕ)) (pending : List ℕ) (state : State) (number : ℕ) → AppendsFront was now pending → IsRunning rules telling script rest old was pending state number → IfSome script (λ text. WritesFront rules telling text old now)
  front-flushed None rest old was now pending state number wrote so_far = tt
  front-flushed (Some script) None old was now pending state number wrote so_far = absurd so_far
  front-flushed (Some script) (Some rest) old was now pending state number wrote so_far = (
    so_far.0 ++ wrote.0,
    record {
      asked = so_far.1.done;
      later = asked_in taken (lines_of rest);
      cut = so_far.1.cut;
      end = state;
      text = so_far.0 ++ pending;
      answered = so_far.1.answered;
      rest = wrote.1;
      begins = ap (λ t. so_far.0 ++ t) wrote.2 ∙ sym (append_assoc so_far.0 wrote.0 wrote.1);
    },
    Appends-trans old was now _ _ so_far.1.writes wrote.3,
  )

  -- a beginning of the output is written at any time
  pub front-now : (script rest old now : Option (List ℕ)) (pending : List ℕ) (state : State) (number : ℕ) → IsRunning rules telling script rest old now pending state number → IfSome script (λ text. WritesFront rules telling text old now)
  front-now None rest old now pending state number so_far = tt
  front-now (Some script) None old now pending state number so_far = absurd so_far
  front-now (Some script) (Some rest) old now pending state number so_far = (
    so_far.0,
    record {
      asked = so_far.1.done;
      later = asked_in taken (lines_of rest);
      cut = so_far.1.cut;
      end = state;
      text = so_far.0 ++ pending;
      answered = so_far.1.answered;
      rest = pending;
      begins = refl;
    },
    so_far.1.writes,
  )

-- ---- one line more

module _ (rules : RuleSet) (telling : Telling) where
  -- the answer to a line waits
  pub IsRunning-asked : (script rest later old now : Option (List ℕ)) (pending new line text : List ℕ) (state next : State) (number : ℕ) (asked : Command) → TakesLine rest later line → asked_by taken line ≡ Ok (Some asked) → Answered rules telling state asked next text → new ≡ pending ++ text → IsRunning rules telling script rest old now pending state number → IsRunning rules telling script later old now new next (number + 1)
  IsRunning-asked None rest later old now pending new line text state next number asked took says answered waits so_far = tt
  IsRunning-asked (Some script) None later old now pending new line text state next number asked took says answered waits so_far = absurd so_far
  IsRunning-asked (Some script) (Some rest) None old now pending new line text state next number asked took says answered waits so_far = absurd took
  IsRunning-asked (Some script) (Some rest) (Some later) old now pending new line text state next number asked took says answered waits so_far =
      let done = so_far.1.done in
      let left = asked_in taken (lines_of later) in
      let first : asked_in taken (lines_of rest) ≡ asked ∷ left = asked-first taken rest later line took.0 (Ok (Some asked)) took.1 took.2 says in
      let same : (so_far.0 ++ pending) ++ text ≡ so_far.0 ++ new = append_assoc so_far.0 pending text ∙ ap (λ t. so_far.0 ++ t) (sym waits) in (
        so_far.0,
        record {
          writes = so_far.1.writes;
          done = done ++ asked ∷ [];
          cut = so_far.1.cut ∙ ap (λ t. done ++ t) first ∙ sym (append_assoc done (asked ∷ []) left);
          answered = subst (AllAnswered rules telling opening (done ++ asked ∷ []) next) same (all_answered_more rules telling opening state next done asked (so_far.0 ++ pending) text so_far.1.answered answered);
          faults = sym (fault-first taken number rest later line took.0 (Ok (Some asked)) took.1 took.2 says) ∙ so_far.1.faults;
        },
      )

  -- an empty line is passed over and counted
  pub IsRunning-empty : (script rest later old now : Option (List ℕ)) (pending line : List ℕ) (state : State) (number : ℕ) → TakesLine rest later line → asked_by taken line ≡ Ok None → IsRunning rules telling script rest old now pending state number → IsRunning rules telling script later old now pending state (number + 1)
  IsRunning-empty None rest later old now pending line state number took says so_far = tt
  IsRunning-empty (Some script) None later old now pending line state number took says so_far = absurd so_far
  IsRunning-empty (Some script) (Some rest) None old now pending line state number took says so_far = absurd took
  IsRunning-empty (Some script) (Some rest) (Some later) old now pending line state number took says so_far = (
    so_far.0,
    record {
      writes = so_far.1.writes;
      done = so_far.1.done;
      cut = so_far.1.cut ∙ ap (λ t. so_far.1.done ++ t) (asked-first taken rest later line took.0 (Ok None) took.1 took.2 says);
      answered = so_far.1.answered;
      faults = sym (fault-first taken number rest later line took.0 (Ok None) took.1 took.2 says) ∙ so_far.1.faults;
    },
  )

  -- a line is answered
  pub IsRunning-answered : (script rest later old now : Option (List ℕ)) (pending new line : List ℕ) (state next : State) (number : ℕ) (says : Result (Option Command) LineFault) → asked_by taken line ≡ says → TakesLine rest later line → IsAnswered rules telling says state next pending new → IsRunning rules telling script rest old now pending state number → IsRunning rules telling script later old now new next (number + 1)
  IsRunning-answered script rest later old now pending new line state next number (Ok None) says took done so_far =
      rw (done.0, done.1) (IsRunning-empty script rest later old now pending line state number took says so_far)
  IsRunning-answered script rest later old now pending new line state next number (Ok (Some asked)) says took done so_far =
      IsRunning-asked script rest later old now pending new line done.0 state next number asked took says done.1 done.2 so_far
  IsRunning-answered script rest later old now pending new line state next number (Err fault) says took done so_far = absurd done

  -- ---- the end

  -- what was asked is all that the script asks, where nothing is left
  all_written : (script rest : List ℕ) (old now : Option (List ℕ)) (state : State) (number : ℕ) → asked_in taken (lines_of rest) ≡ [] → (so_far : (text : List ℕ) × IsAt rules telling script rest old now [] state number text) → WritesOutput rules telling script old now
  all_written script rest old now state number none so_far =
      let done = so_far.1.done in
      let all : done ≡ asked_in taken (lines_of script) = sym (so_far.1.cut ∙ ap (λ t. done ++ t) none ∙ append-nil done) in (
        so_far.0,
        record {
          end = state;
          answered = subst (λ asked. AllAnswered rules telling opening asked state so_far.0) all (subst (AllAnswered rules telling opening done state) (append-nil so_far.0) so_far.1.answered);
        },
        so_far.1.writes,
      )

  -- all answers up to a faulty line are written
  abbrev pub EndsAtFault : Option (List ℕ) → Option (List ℕ) → Option (List ℕ) → ℕ → LineFault → Type 0
  EndsAtFault script old now number fault = IfSome script (λ text. (first_fault text ≡ Some (number, fault)) × WritesOutput rules telling text old now)

  -- a faulty line ends the output
  pub fault-flushed : (script rest later old now : Option (List ℕ)) (line : List ℕ) (state : State) (number : ℕ) (fault : LineFault) → TakesLine rest later line → asked_by taken line ≡ Err fault → IsRunning rules telling script rest old now [] state number → EndsAtFault script old now number fault
  fault-flushed None rest later old now line state number fault took says so_far = tt
  fault-flushed (Some script) None later old now line state number fault took says so_far = absurd so_far
  fault-flushed (Some script) (Some rest) None old now line state number fault took says so_far = absurd took
  fault-flushed (Some script) (Some rest) (Some later) old now line state number fault took says so_far =
      let none : asked_in taken (lines_of rest) ≡ [] = asked-first taken rest later line took.0 (Err fault) took.1 took.2 says in
      (sym so_far.1.faults ∙ fault-first taken number rest later line took.0 (Err fault) took.1 took.2 says, all_written script rest old now state number none so_far)

  -- all of the script is read, and answered
  pub end-flushed : (script rest left old now : Option (List ℕ)) (reader : List ℕ) (state : State) (number : ℕ) → (reader ≡ []) × IsAtEnd left × Consumes rest (prepend_known reader left) [] → IsRunning rules telling script rest old now [] state number → IfSome script (λ text. (first_fault text ≡ None) × WritesOutput rules telling text old now × (left ≡ Some []))
  end-flushed None rest left old now reader state number ended so_far = tt
  end-flushed (Some script) None left old now reader state number ended so_far = absurd so_far
  end-flushed (Some script) (Some rest) None old now reader state number ended so_far = absurd ended.2
  end-flushed (Some script) (Some rest) (Some left) old now reader state number ended so_far =
      let no_byte : rest ≡ [] = ended.2 ∙ ap (λ t. t ++ left) ended.0 ∙ ended.1 in
      let none : lines_of rest ≡ [] = ap lines_of no_byte ∙ lines_of-nil in
      (sym so_far.1.faults ∙ ap (fault_from taken number) none, all_written script rest old now state number (ap (asked_in taken) none) so_far, ap Some ended.1)
