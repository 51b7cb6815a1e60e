-- A run keeps its promise at each of its ends.
use Rattle.std.proofs.Common.{◌≡◌, ◌≢◌, ◌⊎◌, ◌∙◌, ◌+◌, ◌<◌, ℕ, [], Option, Some, None, Result, Ok, Err, IfSome, IfErr, OnOk, OnErr, inl, inr, refl, sym, subst, ap, arith}
use Rattle.output_lines.specs.Telling.{Telling}
use Rattle.manifest.specs.declared.fault.LineFault.{LineFault}
use Rattle.rules.specs.RuleSet.{RuleSet}
use Rattle.manifest.specs.declared.command.Command.{Command}
use Rattle.streams.specs.declared.fault.RunFault.{RunFault}
use Rattle.streams.specs.declared.fault.RunFault.TheVariants.{Line, NoMemory, Read, Write, NoPlace}
use Rattle.streams.specs.Device.{DeviceUse, CountsFailure}
use Rattle.streams.specs.Script.{first_fault}
use Rattle.engine.specs.Output.{WritesOutput, WritesFront}
use Rattle.engine.specs.inside.Output.{IsLineFault}
use Rattle.engine.specs.Run.{IsRun}

module _ (rules : RuleSet) (telling : Telling) (source sink : DeviceUse) where
  -- a beginning of the output is written
  abbrev pub Front : Type 0
  Front = IfSome source.old (λ script. WritesFront rules telling script sink.old sink.new)

  -- all of it, and everything is read
  abbrev pub Done : Type 0
  Done = IfSome source.old (λ script. (first_fault script ≡ None) × WritesOutput rules telling script sink.old sink.new × (source.new ≡ Some []))

  -- all of it up to a faulty line
  abbrev pub UpTo : ℕ → LineFault → Type 0
  UpTo number fault = IfSome source.old (λ script. (first_fault script ≡ Some (number, fault)) × WritesOutput rules telling script sink.old sink.new)

-- ---- where there was a place, want of one is no end

pub placed-write : {T : Type 0} (result : Result T RunFault) → IfErr result (λ e. e ≡ Write) → result ≢ Err NoPlace
placed-write (Ok x) what eq = cc
placed-write (Err e) what eq = cc

pub placed-by_write : {T : Type 0} (result : Result T RunFault) (e : RunFault) → result ≡ Err e → e ≡ Write → result ≢ Err NoPlace
placed-by_write result e is what eq = cc

pub placed-no_memory : {T : Type 0} (result : Result T RunFault) (e : RunFault) → result ≡ Err e → e ≡ NoMemory → result ≢ Err NoPlace
placed-no_memory result e is what eq = cc

pub placed-unread : {T : Type 0} (result : Result T RunFault) (e : RunFault) → result ≡ Err e → (e ≡ Read) ⊎ (e ≡ NoMemory) → result ≢ Err NoPlace
placed-unread result e is (inl what) eq = cc
placed-unread result e is (inr what) eq = cc

pub placed-line : {T : Type 0} (result : Result T RunFault) (e : RunFault) (number : ℕ) (says : Result (Option Command) LineFault) → result ≡ Err e → IsLineFault number says e → result ≢ Err NoPlace
placed-line result (Line n f) number says is what eq = cc
placed-line result NoMemory number says is what eq = cc
placed-line result _ number says is what eq = absurd what

module _ {T : Type 0} (rules : RuleSet) (telling : Telling) (source sink : DeviceUse) where
  -- memory was wanting
  pub no_memory : (result : Result T RunFault) (e : RunFault) → result ≡ Err e → e ≡ NoMemory → source.failures_new ≡ source.failures_old → sink.failures_new ≡ sink.failures_old → Front rules telling source sink → IsRun rules telling source sink result
  no_memory result e is what reads writes front = subst (IsRun rules telling source sink) (sym (is ∙ ap Err what)) (record {
    done = tt;
    line = λ n f eq. cc;
    front = front;
    read = λ eq. cc;
    write = λ eq. cc;
    read_told = λ _. reads;
    write_told = λ _. writes;
  })

  -- there was no place
  pub no_place : (result : Result T RunFault) (e : RunFault) → result ≡ Err e → e ≡ NoPlace → source.failures_new ≡ source.failures_old → sink.failures_new ≡ sink.failures_old → Front rules telling source sink → IsRun rules telling source sink result
  no_place result e is what reads writes front = subst (IsRun rules telling source sink) (sym (is ∙ ap Err what)) (record {
    done = tt;
    line = λ n f eq. cc;
    front = front;
    read = λ eq. cc;
    write = λ eq. cc;
    read_told = λ _. reads;
    write_told = λ _. writes;
  })

  -- a read failed
  pub read_failed : (result : Result T RunFault) (e : RunFault) → result ≡ Err e → e ≡ Read → source.failures_old < source.failures_new → sink.failures_new ≡ sink.failures_old → Front rules telling source sink → IsRun rules telling source sink result
  read_failed result e is what reads writes front = subst (IsRun rules telling source sink) (sym (is ∙ ap Err what)) (record {
    done = tt;
    line = λ n f eq. cc;
    front = front;
    read = λ _. reads;
    write = λ eq. cc;
    read_told = λ other. absurd (other refl);
    write_told = λ _. writes;
  })

  -- a write failed
  pub write_failed : (result : Result T RunFault) (e : RunFault) → result ≡ Err e → e ≡ Write → source.failures_new ≡ source.failures_old → sink.failures_new ≡ sink.failures_old + 1 → Front rules telling source sink → IsRun rules telling source sink result
  write_failed result e is what reads writes front = subst (IsRun rules telling source sink) (sym (is ∙ ap Err what)) (record {
    done = tt;
    line = λ n f eq. cc;
    front = front;
    read = λ eq. cc;
    write = λ _. omega (arith, writes);
    read_told = λ _. reads;
    write_told = λ other. absurd (other refl);
  })

  -- a line could not be read
  pub unread : (result : Result T RunFault) (e : RunFault) → result ≡ Err e → (e ≡ Read) ⊎ (e ≡ NoMemory) → (e ≡ Read → source.failures_old < source.failures_new)
      → (e ≡ NoMemory → source.failures_new ≡ source.failures_old) → sink.failures_new ≡ sink.failures_old → Front rules telling source sink → IsRun rules telling source sink result
  unread result e is (inl what) reads others writes front = read_failed result e is what (reads what) writes front
  unread result e is (inr what) reads others writes front = no_memory result e is what (others what) writes front

  -- no desk was had
  pub no_desk : (result : Result T RunFault) (e : RunFault) → result ≡ Err e → (e ≡ NoMemory) ⊎ (e ≡ NoPlace) → source.failures_new ≡ source.failures_old → sink.failures_new ≡ sink.failures_old → Front rules telling source sink → IsRun rules telling source sink result
  no_desk result e is (inl what) reads writes front = no_memory result e is what reads writes front
  no_desk result e is (inr what) reads writes front = no_place result e is what reads writes front

  -- all was read, and what waited is written, or not
  pub at_end : (result : Result T RunFault) → OnOk result (Done rules telling source sink) → OnErr result (Front rules telling source sink) → (was : ℕ) → was ≡ sink.failures_old → CountsFailure was sink.failures_new result → IfErr result (λ e. e ≡ Write)
      → source.failures_new ≡ source.failures_old → IsRun rules telling source sink result
  at_end (Ok x) done front was as_before counts what reads = record {
    done = done;
    line = λ n f eq. cc;
    front = tt;
    read = λ eq. cc;
    write = λ eq. cc;
    read_told = λ _. reads;
    write_told = λ _. counts ∙ as_before;
  }
  at_end (Err e) done front was as_before counts what reads = write_failed (Err e) e refl what reads (counts ∙ ap (λ n. n + 1) as_before) front

  -- a line is faulty, or memory was wanting for it
  pub at_line : (e : RunFault) (number : ℕ) (says : Result (Option Command) LineFault) → IsLineFault number says e → source.failures_new ≡ source.failures_old → sink.failures_new ≡ sink.failures_old
      → Front rules telling source sink → ((fault : LineFault) → says ≡ Err fault → UpTo rules telling source sink number fault) → IsRun {T = T} rules telling source sink (Err e)
  at_line (Line n f) number says is reads writes front up_to = record {
    done = tt;
    line = λ m g eq.
        let same : m ≡ n = cc in
        let alike : g ≡ f = cc in
        rw (same, alike, is.0) (up_to f is.1);
    front = front;
    read = λ eq. cc;
    write = λ eq. cc;
    read_told = λ _. reads;
    write_told = λ _. writes;
  }
  at_line NoMemory number says is reads writes front up_to = no_memory (Err NoMemory) NoMemory refl refl reads writes front
  at_line Read number says is reads writes front up_to = absurd is
  at_line Write number says is reads writes front up_to = absurd is
  at_line NoPlace number says is reads writes front up_to = absurd is
