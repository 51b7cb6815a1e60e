-- A translation keeps its promise at each of its ends.
use Rattle.std.proofs.Common.{◌≡◌, ◌⊎◌, ◌∙◌, ℕ, ◌+◌, ◌<◌, List, [], ◌++◌, Option, Some, None, Result, Ok, Err, IfSome, IfErr, OnOk, OnErr, inl, inr, refl, sym, subst, ap, arith}
use Rattle.std.proofs.KnownBytes.{Appends-trans, Appends-nil}
use Rattle.std.proofs.lemmas.List.{append-nil}
use Rattle.std.specs.Io.KnownBytes.{Appends, Consumes, IsAtEnd, prepend_known}
use Rattle.streams.specs.Device.{DeviceUse, AppendsFront}
use Rattle.streams.specs.Lines.{lines_of, TakesFront}
use Rattle.streams.specs.declared.fault.RunFault.{RunFault}
use Rattle.streams.specs.declared.fault.RunFault.TheVariants as run_fault
use Rattle.objects.specs.ObjectName.{name_in}
use Rattle.objects.specs.Told.{Told}
use Rattle.fault_line.specs.declared.fault.Fault.{Fault}
use Rattle.fault_line.specs.declared.fault.Fault.TheVariants.{Run, Uncounted}
use Rattle.fault_line.specs.declared.unread.LineUncounted.{LineUncounted}
use Rattle.fault_line.specs.Excerpt.{excerpt_of}
use Rattle.fault_line.specs.Fault.{status_of}
use Rattle.fault_line.specs.Message.{Tells, message_of}
use Rattle.translator.specs.declared.waiting.Stopped.{Stopped}
use Rattle.translator.specs.declared.waiting.Stopped.TheVariants.{By, Untold}
use Rattle.translator.specs.Translate.{Manner, BeginsTranslation, EndsAtLine, IsTranslated, IsWholeTranslation, TellsBehind, told_under}
use Rattle.translator.specs.inside.Translate.{EndsAt, FailedAt, IsLineEnd, IsStopped, NoneFailed}
use Rattle.translator.specs.inside.Waiting.{IsUnwritten}
use Rattle.translator.proofs.Translating.{IsGoing, known_front, known_line, known_whole}

-- two facts of a success come to a third
pub on_ok_both : {T E A B C : Type 0} (r : Result T E) → (A → B → C) → OnOk r A → OnOk r B → OnOk r C
on_ok_both (Ok x) f a b = f a b
on_ok_both (Err e) f a b = tt

-- want of memory is no failed read
pub not_read : {T : Type 0} {e : RunFault} → e ≡ run_fault.NoMemory → ◌≡◌ {A = Result T RunFault} (Err e) (Err run_fault.Read) → ⊥
not_read wanting read = cc

-- ---- what is written at an end

module _ (manner : Manner) (input out_old out_new err_old err_new : Option (List ℕ)) where
  -- beginnings of the answers, and of what is told beside them, are written
  pub record Front : Type 0 where
    pub answers : List ℕ
    pub left_out : List ℕ
    pub writes : Appends out_old out_new answers
    pub tells : Appends err_old err_new left_out
    pub front : IfSome input (λ text. BeginsTranslation manner text answers left_out)

  -- all of them are, and everything is read
  pub record Whole (left : Option (List ℕ)) : Type 0 where
    pub answers : List ℕ
    pub left_out : List ℕ
    pub writes : Appends out_old out_new answers
    pub tells : Appends err_old err_new left_out
    pub whole : IfSome input (λ text. IsWholeTranslation manner text answers left_out × (left ≡ Some []))

  -- all of those in front of a line are, which can't be counted
  pub record UpToLine (number : ℕ) (kept : List ℕ) (given : Option Told) : Type 0 where
    pub answers : List ℕ
    pub left_out : List ℕ
    pub writes : Appends out_old out_new answers
    pub tells : Appends err_old err_new left_out
    pub front : IfSome input (λ text. BeginsTranslation manner text answers left_out)
    pub line : (lost : LineUncounted) → lost.number ≡ number → lost.object.items ≡ excerpt_of (name_in kept) → given ≡ None
        → IfSome input (λ text. EndsAtLine manner text lost answers left_out)

-- before anything is read, nothing is
pub front_of_nothing : (manner : Manner) (input out err : Option (List ℕ)) → Front manner input out out err err
front_of_nothing manner None out err = record { answers = []; left_out = []; writes = Appends-nil out; tells = Appends-nil err; front = tt }
front_of_nothing manner (Some text) out err = record {
  answers = [];
  left_out = [];
  writes = Appends-nil out;
  tells = Appends-nil err;
  front = record {
    lines = [];
    later = lines_of text;
    cut = refl;
    translations = [];
    next = 1;
    are = refl;
    answers_rest = [];
    answers_begin = refl;
    left_out_rest = [];
    left_out_begin = refl;
  };
}

module _ (manner : Manner) (input rest out_old out_was out_now err_old err_was err_now : Option (List ℕ)) where
  -- a beginning of what waited is written
  pub front_flushed : (waits tells : List ℕ) (version number : ℕ) → AppendsFront out_was out_now waits → AppendsFront err_was err_now tells
      → IsGoing manner input rest out_old out_was err_old err_was waits tells version number → Front manner input out_old out_now err_old err_now
  front_flushed waits tells version number wrote said so_far = record {
    answers = so_far.written ++ wrote.0;
    left_out = so_far.told ++ said.0;
    writes = Appends-trans out_old out_was out_now _ _ so_far.out wrote.3;
    tells = Appends-trans err_old err_was err_now _ _ so_far.err said.3;
    front = known_front manner input rest _ _ _ _ _ _ so_far.at wrote.0 wrote.1 said.0 said.1 wrote.2 said.2;
  }

module _ (manner : Manner) (input rest out_old out_now err_old err_now : Option (List ℕ)) where
  -- at any time beginnings are
  pub front_now : (waits tells : List ℕ) (version number : ℕ) → IsGoing manner input rest out_old out_now err_old err_now waits tells version number
      → Front manner input out_old out_now err_old err_now
  front_now waits tells version number so_far =
      front_flushed manner input rest out_old out_now out_now err_old err_now err_now waits tells version number
      ([], waits, refl, Appends-nil out_now) ([], tells, refl, Appends-nil err_now) so_far

  -- the input is at its end, and nothing waits
  pub whole_now : (left : Option (List ℕ)) (reader : List ℕ) (version number : ℕ) → (reader ≡ []) × IsAtEnd left × Consumes rest (prepend_known reader left) []
      → IsGoing manner input rest out_old out_now err_old err_now [] [] version number → Whole manner input out_old out_now err_old err_now left
  whole_now left reader version number ended so_far = record {
    answers = so_far.written;
    left_out = so_far.told;
    writes = so_far.out;
    tells = so_far.err;
    whole = known_whole manner input rest left reader _ _ version number ended so_far.at;
  }

  -- a line can't be answered, and nothing waits
  pub line_now : (later : Option (List ℕ)) (line : List ℕ) (version number : ℕ) → TakesFront 2097153 rest later line
      → IsGoing manner input rest out_old out_now err_old err_now [] [] version number
      → UpToLine manner input out_old out_now err_old err_now (number + 1) line (told_under manner version line)
  line_now later line version number took so_far =
      let front : IfSome input (λ text. BeginsTranslation manner text (so_far.written ++ []) (so_far.told ++ [])) =
      known_front manner input rest _ _ _ _ _ _ so_far.at [] [] [] [] refl refl in
      record {
        answers = so_far.written;
        left_out = so_far.told;
        writes = so_far.out;
        tells = so_far.err;
        front = subst (λ told. IfSome input (λ text. BeginsTranslation manner text so_far.written told)) (append-nil so_far.told)
            (subst (λ written. IfSome input (λ text. BeginsTranslation manner text written (so_far.told ++ []))) (append-nil so_far.written) front);
        line = λ lost counted named none. known_line manner input rest later line _ _ version number lost took counted named none so_far.at;
      }

-- the whole begins it too
whole_begins : (manner : Manner) (input : List ℕ) (answers left_out : List ℕ) → IsWholeTranslation manner input answers left_out → BeginsTranslation manner input answers left_out
whole_begins manner input answers left_out whole = record {
  lines = lines_of input;
  later = [];
  cut = sym (append-nil (lines_of input));
  translations = whole.translations;
  next = whole.next;
  are = whole.are;
  answers_rest = [];
  answers_begin = sym whole.answers_are ∙ sym (append-nil answers);
  left_out_rest = [];
  left_out_begin = sym whole.left_out_are ∙ sym (append-nil left_out);
}

wholly_begins : (manner : Manner) (input left : Option (List ℕ)) (answers left_out : List ℕ) → IfSome input (λ text. IsWholeTranslation manner text answers left_out × (left ≡ Some []))
    → IfSome input (λ text. BeginsTranslation manner text answers left_out)
wholly_begins manner None left answers left_out whole = tt
wholly_begins manner (Some text) left answers left_out whole = whole_begins manner text answers left_out whole.0

-- ---- before a fault is told

-- a line ends nothing where it isn't the reason
no_line : (manner : Manner) (input : Option (List ℕ)) (answers left_out : List ℕ) (stopped : Stopped) → ((text : List ℕ) → EndsAt manner text answers left_out stopped)
    → IfSome input (λ text. EndsAt manner text answers left_out stopped)
no_line manner None answers left_out stopped ends = tt
no_line manner (Some text) answers left_out stopped ends = ends text

-- a beginning of the output is written
abbrev pub Begun : Manner → (source out err : DeviceUse) → Type 0
Begun manner source out err = Front manner source.old out.old out.new err.old err.new

module _ {T : Type 0} (manner : Manner) (source out err : DeviceUse) where
  -- it is stopped by this
  stopped_by : (stopped : Stopped) → FailedAt source out err stopped → ((text answers left_out : List ℕ) → EndsAt manner text answers left_out stopped) → Begun manner source out err
      → IsStopped {T = T} manner source out err (Err stopped)
  stopped_by stopped failed ends begun = record {
    answers = begun.answers;
    left_out = begun.left_out;
    writes = begun.writes;
    tells = begun.tells;
    done = tt;
    failed = failed;
    ends = no_line manner source.old begun.answers begun.left_out stopped (λ text. ends text begun.answers begun.left_out);
    front = begun.front;
  }

  -- memory was wanting
  pub wanting_room : (result : Result T Stopped) (stopped : Stopped) → result ≡ Err stopped → stopped ≡ By (Run run_fault.NoMemory) → NoneFailed source out err → Begun manner source out err
      → IsStopped manner source out err result
  wanting_room result stopped is what none begun =
      subst (IsStopped manner source out err) (sym (is ∙ ap Err what)) (stopped_by (By (Run run_fault.NoMemory)) none (λ text answers left_out. tt) begun)

  -- a read failed
  reading_failed : (result : Result T Stopped) (stopped : Stopped) → result ≡ Err stopped → stopped ≡ By (Run run_fault.Read) → source.failures_old < source.failures_new
      → out.failures_new ≡ out.failures_old → err.failures_new ≡ err.failures_old → Begun manner source out err → IsStopped manner source out err result
  reading_failed result stopped is what reads writes tells begun =
      subst (IsStopped manner source out err) (sym (is ∙ ap Err what)) (stopped_by (By (Run run_fault.Read)) (reads, writes, tells) (λ text answers left_out. tt) begun)

  -- no line could be read
  pub unread : (result : Result T Stopped) (stopped : Stopped) (e : RunFault) → result ≡ Err stopped → stopped ≡ By (Run e) → (e ≡ run_fault.Read) ⊎ (e ≡ run_fault.NoMemory)
      → (e ≡ run_fault.Read → source.failures_old < source.failures_new) → (e ≡ run_fault.NoMemory → source.failures_new ≡ source.failures_old)
      → out.failures_new ≡ out.failures_old → err.failures_new ≡ err.failures_old → Begun manner source out err → IsStopped manner source out err result
  unread result stopped e is what (inl read) reads others writes tells begun =
      reading_failed result stopped is (what ∙ ap (λ f. By (Run f)) read) (reads read) writes tells begun
  unread result stopped e is what (inr memory) reads others writes tells begun =
      wanting_room result stopped is (what ∙ ap (λ f. By (Run f)) memory) (others memory, writes, tells) begun

  -- what waited couldn't be written
  written_not : (stopped : Stopped) (out_was err_was : ℕ) → IsUnwritten out_was out.failures_new err_was err.failures_new stopped
      → out_was ≡ out.failures_old → err_was ≡ err.failures_old → source.failures_new ≡ source.failures_old → Begun manner source out err → IsStopped {T = T} manner source out err (Err stopped)
  written_not (By (Run run_fault.Write)) out_was err_was failed same alike reads begun =
      stopped_by (By (Run run_fault.Write)) (reads, subst (λ n. n < out.failures_new) same failed.0, failed.1 ∙ alike) (λ text answers left_out. tt) begun
  written_not Untold out_was err_was failed same alike reads begun =
      stopped_by Untold (reads, failed.1 ∙ same, subst (λ n. n < err.failures_new) alike failed.0) (λ text answers left_out. tt) begun
  written_not _ out_was err_was failed same alike reads begun = absurd failed

  pub unwritten : (result : Result T Stopped) (stopped : Stopped) → result ≡ Err stopped → (out_was err_was : ℕ) → IsUnwritten out_was out.failures_new err_was err.failures_new stopped
      → out_was ≡ out.failures_old → err_was ≡ err.failures_old → source.failures_new ≡ source.failures_old → Begun manner source out err → IsStopped manner source out err result
  unwritten result stopped is out_was err_was failed same alike reads begun =
      subst (IsStopped manner source out err) (sym is) (written_not stopped out_was err_was failed same alike reads begun)

  -- all was read, and what waited is written, or not
  pub at_end : (result : Result T Stopped) (out_was err_was : ℕ) → OnOk result (Whole manner source.old out.old out.new err.old err.new source.new) → OnErr result (Begun manner source out err)
      → OnOk result ((out.failures_new ≡ out_was) × (err.failures_new ≡ err_was)) → IfErr result (IsUnwritten out_was out.failures_new err_was err.failures_new)
      → out_was ≡ out.failures_old → err_was ≡ err.failures_old → source.failures_new ≡ source.failures_old → IsStopped manner source out err result
  at_end (Ok x) out_was err_was whole begun counts failed same alike reads = record {
    answers = whole.answers;
    left_out = whole.left_out;
    writes = whole.writes;
    tells = whole.tells;
    done = ((reads, counts.0 ∙ same, counts.1 ∙ alike), whole.whole);
    failed = tt;
    ends = tt;
    front = wholly_begins manner source.old source.new whole.answers whole.left_out whole.whole;
  }
  at_end (Err stopped) out_was err_was whole begun counts failed same alike reads = written_not stopped out_was err_was failed same alike reads begun

  -- a line can't be counted, or memory was wanting for it
  pub at_line : (fault : Fault) (number : ℕ) (kept : List ℕ) (given : Option Told) → IsLineEnd number kept given fault → NoneFailed source out err
      → UpToLine manner source.old out.old out.new err.old err.new number kept given → IsStopped {T = T} manner source out err (Err (By fault))
  at_line (Run run_fault.NoMemory) number kept given is none up_to = record {
    answers = up_to.answers;
    left_out = up_to.left_out;
    writes = up_to.writes;
    tells = up_to.tells;
    done = tt;
    failed = none;
    ends = no_line manner source.old up_to.answers up_to.left_out (By (Run run_fault.NoMemory)) (λ text. tt);
    front = up_to.front;
  }
  at_line (Uncounted lost) number kept given is none up_to = record {
    answers = up_to.answers;
    left_out = up_to.left_out;
    writes = up_to.writes;
    tells = up_to.tells;
    done = tt;
    failed = none;
    ends = up_to.line lost is.0 is.1 is.2;
    front = up_to.front;
  }
  at_line _ number kept given is none up_to = absurd is

-- ---- when it is told

-- what is told, up to this and with so many failures
abbrev pub told_up_to : (old new : Option (List ℕ)) → (failures_old failures_new : ℕ) → (Untouched : Type 0) → DeviceUse
told_up_to old new failures_old failures_new Untouched =
    record { old = old; new = new; failures_old = failures_old; failures_new = failures_new; IsUntouched = Untouched }

module _ (err_old err_was err_now : Option (List ℕ)) (failures_old failures_was failures_now : ℕ) (Touched : Type 0) where
  -- the fault is told behind what is left out
  behind : (text : List ℕ) (fault : Fault) → Appends err_old err_was text → failures_was ≡ failures_old → Tells err_was err_now failures_was failures_now (message_of fault)
      → TellsBehind (told_up_to err_old err_now failures_old failures_now Touched) text fault
  behind text fault said same tells = (err_was, said, subst (λ n. Tells err_was err_now n failures_now (message_of fault)) same tells)

module _ {T : Type 0} (manner : Manner) (source out : DeviceUse) (err_old err_was err_now : Option (List ℕ)) (failures_old failures_was failures_now : ℕ) (Untouched Touched : Type 0) (ended : ℕ) where
  -- a fault is told
  pub told_at_end : (fault : Fault) → IsStopped {T = T} manner source out (told_up_to err_old err_was failures_old failures_was Untouched) (Err (By fault)) → ended ≡ status_of fault → Tells err_was err_now failures_was failures_now (message_of fault)
      → IsTranslated manner source out (told_up_to err_old err_now failures_old failures_now Touched) ended
  told_at_end (Run run_fault.NoMemory) stopped is tells = record {
    status = inr (inr (inl is));
    answers = stopped.answers;
    left_out = stopped.left_out;
    writes = stopped.writes;
    done = λ e. absurd (omega (arith, is, e));
    uncounted = λ e. absurd (omega (arith, is, e));
    room = λ _. behind err_old err_was err_now failures_old failures_was failures_now Touched stopped.left_out (Run run_fault.NoMemory) stopped.tells stopped.failed.2 tells;
    failed = λ e. absurd (omega (arith, is, e));
    front = stopped.front;
    failures_told = λ _. (stopped.failed.0, stopped.failed.1);
  }
  told_at_end (Run run_fault.Read) stopped is tells = record {
    status = inr (inr (inr is));
    answers = stopped.answers;
    left_out = stopped.left_out;
    writes = stopped.writes;
    done = λ e. absurd (omega (arith, is, e));
    uncounted = λ e. absurd (omega (arith, is, e));
    room = λ e. absurd (omega (arith, is, e));
    failed = λ _. inl (behind err_old err_was err_now failures_old failures_was failures_now Touched stopped.left_out (Run run_fault.Read) stopped.tells stopped.failed.2 tells, stopped.failed.0);
    front = stopped.front;
    failures_told = λ other. absurd (other is);
  }
  told_at_end (Run run_fault.Write) stopped is tells = record {
    status = inr (inr (inr is));
    answers = stopped.answers;
    left_out = stopped.left_out;
    writes = stopped.writes;
    done = λ e. absurd (omega (arith, is, e));
    uncounted = λ e. absurd (omega (arith, is, e));
    room = λ e. absurd (omega (arith, is, e));
    failed = λ _. inr (inl (behind err_old err_was err_now failures_old failures_was failures_now Touched stopped.left_out (Run run_fault.Write) stopped.tells stopped.failed.2 tells, stopped.failed.1));
    front = stopped.front;
    failures_told = λ other. absurd (other is);
  }
  told_at_end (Uncounted lost) stopped is tells = record {
    status = inr (inl is);
    answers = stopped.answers;
    left_out = stopped.left_out;
    writes = stopped.writes;
    done = λ e. absurd (omega (arith, is, e));
    uncounted = λ _. (lost, behind err_old err_was err_now failures_old failures_was failures_now Touched stopped.left_out (Uncounted lost) stopped.tells stopped.failed.2 tells, stopped.ends);
    room = λ e. absurd (omega (arith, is, e));
    failed = λ e. absurd (omega (arith, is, e));
    front = stopped.front;
    failures_told = λ _. (stopped.failed.0, stopped.failed.1);
  }
  told_at_end _ stopped is tells = absurd stopped.failed

module _ {T : Type 0} (manner : Manner) (source out err : DeviceUse) (ended : ℕ) where
  -- what is left out couldn't be told
  pub untold_at_end : IsStopped {T = T} manner source out err (Err Untold) → ended ≡ 4 → IsTranslated manner source out err ended
  untold_at_end stopped is = record {
    status = inr (inr (inr is));
    answers = stopped.answers;
    left_out = stopped.left_out;
    writes = stopped.writes;
    done = λ e. absurd (omega (arith, is, e));
    uncounted = λ e. absurd (omega (arith, is, e));
    room = λ e. absurd (omega (arith, is, e));
    failed = λ _. inr (inr (stopped.tells, stopped.failed.2));
    front = stopped.front;
    failures_told = λ other. absurd (other is);
  }

  -- all is done
  pub done_at_end : (x : T) → IsStopped manner source out err (Ok x) → ended ≡ 0 → IsTranslated manner source out err ended
  done_at_end x stopped is = record {
    status = inl is;
    answers = stopped.answers;
    left_out = stopped.left_out;
    writes = stopped.writes;
    done = λ _. (stopped.tells, stopped.done.1);
    uncounted = λ e. absurd (omega (arith, is, e));
    room = λ e. absurd (omega (arith, is, e));
    failed = λ e. absurd (omega (arith, is, e));
    front = stopped.front;
    failures_told = λ _. (stopped.done.0.0, stopped.done.0.1);
  }

-- memory was wanting before a translation was begun
pub nothing_translated : (manner : Manner) (source out err : DeviceUse) (ended : ℕ) → ended ≡ 3
    → Tells err.old err.new err.failures_old err.failures_new (message_of (Run run_fault.NoMemory)) → out.new ≡ out.old
    → source.failures_new ≡ source.failures_old → out.failures_new ≡ out.failures_old → IsTranslated manner source out err ended
nothing_translated manner source out err ended is tells same reads writes =
    let nothing = front_of_nothing manner source.old out.old err.old in
    record {
      status = inr (inr (inl is));
      answers = nothing.answers;
      left_out = nothing.left_out;
      writes = subst (λ new. Appends out.old new nothing.answers) (sym same) nothing.writes;
      done = λ e. absurd (omega (arith, is, e));
      uncounted = λ e. absurd (omega (arith, is, e));
      room = λ _. (err.old, nothing.tells, tells);
      failed = λ e. absurd (omega (arith, is, e));
      front = nothing.front;
      failures_told = λ _. (reads, writes);
    }
