-- The answers keep their promise at each of their ends.
use Rattle.std.proofs.Common.{◌≡◌, ◌⊎◌, ◌∙◌, ℕ, ◌<◌, List, [], ◌++◌, Option, Some, None, Result, Ok, Err, IfSome, IfErr, OnOk, OnErr, inl, inr, refl, sym, subst, ap, arith}
use Rattle.std.proofs.KnownBytes.{Appends-trans, Appends-nil}
use Rattle.std.proofs.lemmas.List.{append-nil}
use Rattle.std.specs.Io.KnownBytes.{Appends, Consumes, IsAtEnd, prepend_known}
use Rattle.streams.specs.Device.{DeviceUse, AppendsFront}
use Rattle.streams.specs.Lines.{lines_of}
use Rattle.streams.specs.declared.fault.RunFault.{RunFault}
use Rattle.streams.specs.declared.fault.RunFault.TheVariants as run_fault
use Rattle.fault_line.specs.declared.fault.Fault.TheVariants.{Run}
use Rattle.fault_line.specs.Fault.{status_of}
use Rattle.fault_line.specs.Message.{Tells, message_of}
use Rattle.live_desk.specs.State.{Live}
use Rattle.live.specs.Live.{IsBegun, IsLive, IsWhole, Manner, first_state}
use Rattle.live.specs.inside.Live.{FailedAt, IsStopped}
use Rattle.live.proofs.Going.{IsGoing, known_front, known_whole}

-- two facts of a success come to a third
pub on_ok_both : {T E A B C : Type 0} (r : Result T E) → (A → B → C) → OnOk r A → OnOk r B → OnOk r C
on_ok_both (Ok x) f a b = f a b
on_ok_both (Err e) f a b = tt

-- want of memory is no failed read
pub not_read : {T : Type 0} {e : RunFault} → e ≡ run_fault.NoMemory → ◌≡◌ {A = Result T RunFault} (Err e) (Err run_fault.Read) → ⊥
not_read wanting read = cc

-- ---- what is written at an end

-- a beginning of the answers is written
pub record Front (m : Manner) (input out_old out_new : Option (List ℕ)) : Type 0 where
  pub answers : List ℕ
  pub writes : Appends out_old out_new answers
  pub front : IfSome input (λ text. IsBegun m text answers)

-- all of them are, and everything is read
pub record Whole (m : Manner) (input out_old out_new left : Option (List ℕ)) : Type 0 where
  pub answers : List ℕ
  pub writes : Appends out_old out_new answers
  pub whole : IfSome input (λ text. IsWhole m text answers × (left ≡ Some []))

module _ (m : Manner) where
  -- before anything is read, nothing is
  pub front_of_nothing : (input out : Option (List ℕ)) → Front m input out out
  front_of_nothing None out = record { answers = []; writes = Appends-nil out; front = tt }
  front_of_nothing (Some text) out = record {
    answers = [];
    writes = Appends-nil out;
    front = record {
      lines = [];
      later = lines_of text;
      cut = refl;
      texts = [];
      state = first_state;
      are = refl;
      rest = [];
      begin = refl;
    };
  }

  module _ (input rest out_old out_was out_now : Option (List ℕ)) where
    -- a beginning of what waited is written
    pub front_flushed : (waits : List ℕ) (state : Live) → AppendsFront out_was out_now waits
        → IsGoing m input rest out_old out_was waits state → Front m input out_old out_now
    front_flushed waits state wrote so_far = record {
      answers = so_far.written ++ wrote.0;
      writes = Appends-trans out_old out_was out_now _ _ so_far.out wrote.3;
      front = known_front m input rest _ _ _ so_far.at wrote.0 wrote.1 wrote.2;
    }

  module _ (input rest out_old out_now : Option (List ℕ)) where
    -- at any time a beginning is
    pub front_now : (waits : List ℕ) (state : Live) → IsGoing m input rest out_old out_now waits state → Front m input out_old out_now
    front_now waits state so_far = front_flushed input rest out_old out_now out_now waits state ([], waits, refl, Appends-nil out_now) so_far

    -- the input is at its end, and nothing waits
    pub whole_now : (left : Option (List ℕ)) (reader waits : List ℕ) (state : Live) → (reader ≡ []) × IsAtEnd left × Consumes rest (prepend_known reader left) []
        → waits ≡ [] → IsGoing m input rest out_old out_now waits state → Whole m input out_old out_now left
    whole_now left reader waits state ended all_written so_far = record {
      answers = so_far.written;
      writes = so_far.out;
      whole = known_whole m input rest left reader _ waits state ended all_written so_far.at;
    }

  -- the whole begins it too
  whole_begins : (input answers : List ℕ) → IsWhole m input answers → IsBegun m input answers
  whole_begins input answers whole = record {
    lines = lines_of input;
    later = [];
    cut = sym (append-nil (lines_of input));
    texts = whole.texts;
    state = whole.state;
    are = whole.are;
    rest = [];
    begin = sym whole.answers_are ∙ sym (append-nil answers);
  }

  wholly_begins : (input left : Option (List ℕ)) (answers : List ℕ) → IfSome input (λ text. IsWhole m text answers × (left ≡ Some []))
      → IfSome input (λ text. IsBegun m text answers)
  wholly_begins None left answers whole = tt
  wholly_begins (Some text) left answers whole = whole_begins text answers whole.0

  -- ---- before a fault is told

  -- a beginning of the output is written
  abbrev pub Begun : (source out : DeviceUse) → Type 0
  Begun source out = Front m source.old out.old out.new

  module _ {T : Type 0} (source out : DeviceUse) where
    -- it is stopped by this
    stopped_by : (fault : RunFault) → FailedAt source out fault → Begun source out → IsStopped {T = T} m source out (Err fault)
    stopped_by fault failed begun = record {
      answers = begun.answers;
      writes = begun.writes;
      done = tt;
      failed = failed;
      front = begun.front;
    }

    -- memory was wanting
    pub wanting_room : (result : Result T RunFault) (fault : RunFault) → result ≡ Err fault → fault ≡ run_fault.NoMemory → source.failures_new ≡ source.failures_old
        → out.failures_new ≡ out.failures_old → Begun source out → IsStopped m source out result
    wanting_room result fault is what reads writes begun =
        subst (IsStopped m source out) (sym (is ∙ ap Err what)) (stopped_by run_fault.NoMemory (reads, writes) begun)

    -- nothing was begun, for want of memory or of a place
    pub not_begun : (result : Result T RunFault) (fault : RunFault) → result ≡ Err fault → (fault ≡ run_fault.NoMemory) ⊎ (fault ≡ run_fault.NoPlace)
        → source.failures_new ≡ source.failures_old → out.failures_new ≡ out.failures_old → Begun source out → IsStopped m source out result
    not_begun result fault is (inl memory) reads writes begun = wanting_room result fault is memory reads writes begun
    not_begun result fault is (inr place) reads writes begun =
        subst (IsStopped m source out) (sym (is ∙ ap Err place)) (stopped_by run_fault.NoPlace (reads, writes) begun)

    -- no line could be read
    pub unread : (result : Result T RunFault) (fault e : RunFault) → result ≡ Err fault → fault ≡ e → (e ≡ run_fault.Read) ⊎ (e ≡ run_fault.NoMemory)
        → (e ≡ run_fault.Read → source.failures_old < source.failures_new) → (e ≡ run_fault.NoMemory → source.failures_new ≡ source.failures_old)
        → out.failures_new ≡ out.failures_old → Begun source out → IsStopped m source out result
    unread result fault e is what (inl read) reads others writes begun =
        subst (IsStopped m source out) (sym (is ∙ ap Err (what ∙ read))) (stopped_by run_fault.Read (reads read, writes) begun)
    unread result fault e is what (inr memory) reads others writes begun =
        wanting_room result fault is (what ∙ memory) (others memory) writes begun

    -- what waited couldn't be written
    pub unwritten : (result : Result T RunFault) (fault : RunFault) → result ≡ Err fault → fault ≡ run_fault.Write → source.failures_new ≡ source.failures_old
        → out.failures_old < out.failures_new → Begun source out → IsStopped m source out result
    unwritten result fault is what reads writes begun =
        subst (IsStopped m source out) (sym (is ∙ ap Err what)) (stopped_by run_fault.Write (reads, writes) begun)

    -- all was read, and what waited is written, or not
    pub at_end : (result : Result T RunFault) (out_was : ℕ) → OnOk result (Whole m source.old out.old out.new source.new) → OnErr result (Begun source out)
        → OnOk result (out.failures_new ≡ out_was) → IfErr result (λ fault. (fault ≡ run_fault.Write) × (out_was < out.failures_new))
        → out_was ≡ out.failures_old → source.failures_new ≡ source.failures_old → IsStopped m source out result
    at_end (Ok x) out_was whole begun count failed same reads = record {
      answers = whole.answers;
      writes = whole.writes;
      done = (reads, count ∙ same, whole.whole);
      failed = tt;
      front = wholly_begins source.old source.new whole.answers whole.whole;
    }
    at_end (Err fault) out_was whole begun count failed same reads =
        unwritten (Err fault) fault refl failed.0 reads (subst (λ n. n < out.failures_new) same failed.1) begun

-- ---- when it is told

-- what is told, up to this and with so many failures
abbrev pub told_up_to : (old new : Option (List ℕ)) → (failures_old failures_new : ℕ) → (Untouched : Type 0) → DeviceUse
told_up_to old new failures_old failures_new Untouched =
    record { old = old; new = new; failures_old = failures_old; failures_new = failures_new; IsUntouched = Untouched }

module _ {T : Type 0} (m : Manner) (source out err : DeviceUse) (ended : ℕ) where
  -- a fault is told
  pub told_at_end : (fault : RunFault) → IsStopped {T = T} m source out (Err fault) → ended ≡ status_of (Run fault)
      → Tells err.old err.new err.failures_old err.failures_new (message_of (Run fault)) → IsLive m source out err ended
  told_at_end run_fault.NoMemory stopped is tells = record {
    status = inr (inl is);
    answers = stopped.answers;
    writes = stopped.writes;
    done = λ e. absurd (omega (arith, is, e));
    room = λ _. inl tells;
    failed = λ e. absurd (omega (arith, is, e));
    front = stopped.front;
    failures_told = λ _. (stopped.failed.0, stopped.failed.1);
  }
  told_at_end run_fault.NoPlace stopped is tells = record {
    status = inr (inl is);
    answers = stopped.answers;
    writes = stopped.writes;
    done = λ e. absurd (omega (arith, is, e));
    room = λ _. inr tells;
    failed = λ e. absurd (omega (arith, is, e));
    front = stopped.front;
    failures_told = λ _. (stopped.failed.0, stopped.failed.1);
  }
  told_at_end run_fault.Read stopped is tells = record {
    status = inr (inr is);
    answers = stopped.answers;
    writes = stopped.writes;
    done = λ e. absurd (omega (arith, is, e));
    room = λ e. absurd (omega (arith, is, e));
    failed = λ _. inl (tells, stopped.failed.0);
    front = stopped.front;
    failures_told = λ other. absurd (other is);
  }
  told_at_end run_fault.Write stopped is tells = record {
    status = inr (inr is);
    answers = stopped.answers;
    writes = stopped.writes;
    done = λ e. absurd (omega (arith, is, e));
    room = λ e. absurd (omega (arith, is, e));
    failed = λ _. inr (tells, stopped.failed.1);
    front = stopped.front;
    failures_told = λ other. absurd (other is);
  }
  told_at_end _ stopped is tells = absurd stopped.failed

  -- all is done
  pub done_at_end : (x : T) → IsStopped m source out (Ok x) → err.IsUntouched → ended ≡ 0 → IsLive m source out err ended
  done_at_end x stopped silent is = record {
    status = inl is;
    answers = stopped.answers;
    writes = stopped.writes;
    done = λ _. (silent, stopped.done.2);
    room = λ e. absurd (omega (arith, is, e));
    failed = λ e. absurd (omega (arith, is, e));
    front = stopped.front;
    failures_told = λ _. (stopped.done.0, stopped.done.1);
  }

module _ (m : Manner) (source out err : DeviceUse) (ended : ℕ) where
  -- memory was wanting before anything was begun
  pub nothing_lived : ended ≡ 3 → Tells err.old err.new err.failures_old err.failures_new (message_of (Run run_fault.NoMemory)) → out.new ≡ out.old
      → source.failures_new ≡ source.failures_old → out.failures_new ≡ out.failures_old → IsLive m source out err ended
  nothing_lived is tells same reads writes =
      let nothing = front_of_nothing m source.old out.old in record {
        status = inr (inl is);
        answers = nothing.answers;
        writes = subst (λ new. Appends out.old new nothing.answers) (sym same) nothing.writes;
        done = λ e. absurd (omega (arith, is, e));
        room = λ _. inl tells;
        failed = λ e. absurd (omega (arith, is, e));
        front = nothing.front;
        failures_told = λ _. (reads, writes);
      }
