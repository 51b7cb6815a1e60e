-- How a translation goes from line to line, and where it ends.
use Rattle.std.specs.Prelude.{◌≡◌, ◌<◌, ◌++◌, ℕ, [], List, Option, Some, None, Result, IfSome, IfErr, OnOk}
use Rattle.std.specs.Io.KnownBytes.{Appends}
use Rattle.objects.specs.declared.translation.Translation.{Translation}
use Rattle.objects.specs.Told.{Told}
use Rattle.objects.specs.Translation.{IsTranslation}
use Rattle.streams.specs.Device.{DeviceUse}
use Rattle.streams.specs.declared.fault.RunFault.TheVariants as run_fault
use Rattle.fault_line.specs.declared.fault.Fault.{Fault}
use Rattle.fault_line.specs.declared.fault.Fault.TheVariants.{Run, Uncounted}
use Rattle.translator.specs.declared.waiting.Stopped.{Stopped}
use Rattle.translator.specs.declared.waiting.Stopped.TheVariants.{By, Untold}
use Rattle.translator.specs.declared.waiting.Waiting.{Waiting}
use Rattle.objects.specs.ObjectName.{name_in}
use Rattle.fault_line.specs.Excerpt.{excerpt_of}
use Rattle.translator.specs.Translate.{Manner, told_under, next_version, answer_text, left_out_text, IsWholeTranslation, EndsAtLine, BeginsTranslation}

-- this is the translation of what is told
abbrev pub TranslatesTo : (given : Option Told) → Translation → Type 0
TranslatesTo given translation = (told : Told) × (given ≡ Some told) × IsTranslation told translation

-- a line's answer, and what is told beside it, wait behind what waited, and the next version is one
-- more where the line gives an event
pub record IsLineAnswered (manner : Manner) (number version : ℕ) (line : List ℕ) (next : ℕ) (old new : Waiting) : Type 0 where
  pub told : Told
  pub gives : told_under manner version line ≡ Some told
  pub translation : Translation
  pub is : IsTranslation told translation
  pub next_is : next ≡ next_version version told.event
  pub answers : new.answers.items ≡ old.answers.items ++ answer_text manner.answers translation
  pub left_out : new.left_out.items ≡ old.left_out.items ++ left_out_text manner.answers number line translation

-- the line ends it by its fault, or for want of memory
abbrev pub IsLineEnd : (number : ℕ) → (line : List ℕ) → (given : Option Told) → Fault → Type 0
IsLineEnd number line given (Run run_fault.NoMemory) = Unit {0}
IsLineEnd number line given (Uncounted lost) = (lost.number ≡ number) × (lost.object.items ≡ excerpt_of (name_in line)) × (given ≡ None)
IsLineEnd number line given _ = ⊥

-- no device has failed
abbrev pub NoneFailed : (source out err : DeviceUse) → Type 0
NoneFailed source out err =
    (source.failures_new ≡ source.failures_old) × (out.failures_new ≡ out.failures_old) × (err.failures_new ≡ err.failures_old)

-- which devices have failed where it is stopped so
abbrev pub FailedAt : (source out err : DeviceUse) → Stopped → Type 0
FailedAt source out err (By (Run run_fault.NoMemory)) = NoneFailed source out err
FailedAt source out err (By (Run run_fault.Read)) =
    (source.failures_old < source.failures_new) × (out.failures_new ≡ out.failures_old) × (err.failures_new ≡ err.failures_old)
FailedAt source out err (By (Run run_fault.Write)) =
    (source.failures_new ≡ source.failures_old) × (out.failures_old < out.failures_new) × (err.failures_new ≡ err.failures_old)
FailedAt source out err (By (Uncounted lost)) = NoneFailed source out err
FailedAt source out err Untold =
    (source.failures_new ≡ source.failures_old) × (out.failures_new ≡ out.failures_old) × (err.failures_old < err.failures_new)
FailedAt source out err _ = ⊥

-- where it is stopped by a line, what is written is what stands before it
abbrev pub EndsAt : Manner → (input answers left_out : List ℕ) → Stopped → Type 0
EndsAt manner input answers left_out (By (Uncounted lost)) = EndsAtLine manner input lost answers left_out
EndsAt manner input answers left_out _ = Unit {0}

-- a translation came to this, before a fault is told
pub record IsStopped {T : Type 0} (manner : Manner) (source out err : DeviceUse) (result : Result T Stopped) : Type 0 where
  pub answers : List ℕ
  pub left_out : List ℕ
  pub writes : Appends out.old out.new answers
  pub tells : Appends err.old err.new left_out
  pub done : OnOk result (NoneFailed source out err
      × IfSome source.old (λ input. IsWholeTranslation manner input answers left_out × (source.new ≡ Some [])))
  pub failed : IfErr result (FailedAt source out err)
  pub ends : IfErr result (λ stopped. IfSome source.old (λ input. EndsAt manner input answers left_out stopped))
  pub front : IfSome source.old (λ input. BeginsTranslation manner input answers left_out)
