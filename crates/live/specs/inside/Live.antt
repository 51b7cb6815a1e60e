-- How the answers go from line to line, and where they end.
use Rattle.std.specs.Prelude.{◌≡◌, ◌<◌, ◌++◌, ℕ, [], List, Some, Result, IfSome, IfErr, OnOk}
use Rattle.std.specs.Io.KnownBytes.{Appends}
use Rattle.streams.specs.Device.{DeviceUse}
use Rattle.streams.specs.declared.fault.RunFault.{RunFault}
use Rattle.streams.specs.declared.fault.RunFault.TheVariants as run_fault
use Rattle.live_desk.specs.State.{Live}
use Rattle.live_line.specs.Meaning.{meaning, reasons}
use Rattle.live.specs.Live.{IsAnswered, IsBegun, IsWhole, Manner}

-- a line's answer waits behind what waited
pub record IsLineAnswered (m : Manner) (old : Live) (line : List ℕ) (new : Live) (waited waits : List ℕ) : Type 0 where
  pub text : List ℕ
  pub answered : IsAnswered m (meaning m.site line) (reasons m.site line) old text new
  pub behind : waits ≡ waited ++ text

-- which devices have failed where it is stopped by this
abbrev pub FailedAt : (source out : DeviceUse) → RunFault → Type 0
FailedAt source out run_fault.NoMemory = (source.failures_new ≡ source.failures_old) × (out.failures_new ≡ out.failures_old)
FailedAt source out run_fault.NoPlace = (source.failures_new ≡ source.failures_old) × (out.failures_new ≡ out.failures_old)
FailedAt source out run_fault.Read = (source.failures_old < source.failures_new) × (out.failures_new ≡ out.failures_old)
FailedAt source out run_fault.Write = (source.failures_new ≡ source.failures_old) × (out.failures_old < out.failures_new)
FailedAt source out _ = ⊥

-- it came to this, before a fault is told
pub record IsStopped {T : Type 0} (m : Manner) (source out : DeviceUse) (result : Result T RunFault) : Type 0 where
  pub answers : List ℕ
  pub writes : Appends out.old out.new answers
  pub done : OnOk result ((source.failures_new ≡ source.failures_old) × (out.failures_new ≡ out.failures_old)
      × IfSome source.old (λ input. IsWhole m input answers × (source.new ≡ Some [])))
  pub failed : IfErr result (FailedAt source out)
  pub front : IfSome source.old (λ input. IsBegun m input answers)
