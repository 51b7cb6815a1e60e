-- What a check of a module promises, by its exit status.
use Rattle.std.specs.Prelude.{◌≡◌, ◌≢◌, ◌⊎◌, ◌<◌, ◌≤◌, ℕ, List, Option, IfSome}
use Rattle.streams.specs.Device.{DeviceUse}
use Rattle.streams.specs.declared.fault.RunFault.TheVariants as run_fault
use Rattle.fault_line.specs.declared.fault.Fault.TheVariants.{Run, UnreadModule}
use Rattle.fault_line.specs.declared.unread.FileFault.{FileFault}
use Rattle.fault_line.specs.Excerpt.{excerpt_of}
use Rattle.site_modules.specs.Told.{TellsFault}
use Rattle.site_modules.specs.Verdict.{TellsFront, TellsVerdict}

-- what is told of the file of this name, where files have failed this often before and by now: it
-- couldn't be opened or read
abbrev pub CannotRead : (file : List ℕ) → (failures_old failures_new : ℕ) → FileFault → Type 0
CannotRead file failures_old failures_new fault = (fault.file.items ≡ excerpt_of file) × (failures_old < failures_new)

-- A check of these bytes, where they are known, ended with this status. `Unread` is what holds
-- where this is told of a file that couldn't be read.
pub record IsCheck (bytes : Option (List ℕ)) (Unread : FileFault → Type 0) (out err : DeviceUse) (ended : ℕ) : Type 0 where
  -- these are the statuses of a check
  pub status : (ended ≡ 0) ⊎ ((ended ≡ 1) ⊎ ((ended ≡ 3) ⊎ (ended ≡ 4)))
  -- the bytes deserve this verdict, the status is the verdict's, its line is written whole, and no
  -- fault is told
  pub told : ended ≤ 1 → IfSome bytes (TellsVerdict out.old out.new ended)
  pub quiet : ended ≤ 1 → err.IsUntouched
  -- memory was wanting, that is told, and nothing is written
  pub room : ended ≡ 3 → TellsFault err (Run run_fault.NoMemory) × out.IsUntouched
  -- the bytes couldn't be read, that is told, and nothing is written; or a write failed meanwhile,
  -- and that is told
  pub failed : ended ≡ 4 → ((fault : FileFault) × TellsFault err (UnreadModule fault) × Unread fault × out.IsUntouched)
      ⊎ (TellsFault err (Run run_fault.Write) × (out.failures_old < out.failures_new))
  -- and that is told of each failed write: at any other status none has
  pub failures_told : ended ≢ 4 → out.failures_new ≡ out.failures_old
  -- nothing but the line that the bytes deserve, or a beginning of it, is written
  pub front : out.IsUntouched ⊎ IfSome bytes (TellsFront out.old out.new)
