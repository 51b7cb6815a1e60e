-- What is told of faults, by the exit status.
use Rattle.std.specs.Prelude.{◌≡◌, ◌≢◌, ◌⊎◌, ◌<◌, List, ℕ, Result, Ok, Err}
use Rattle.streams.specs.Device.{DeviceUse}
use Rattle.streams.specs.declared.fault.RunFault.TheVariants as run_fault
use Rattle.command.specs.Misuse.{misuse_of}
use Rattle.command.specs.declared.fault.WordFault.{WordFault}
use Rattle.fault_line.specs.declared.fault.Fault.{Fault}
use Rattle.fault_line.specs.declared.fault.Fault.TheVariants.{Run, Words, Misused, Unread}
use Rattle.fault_line.specs.declared.unread.PluginUnread.{PluginUnread}
use Rattle.fault_line.specs.Message.{Tells, message_of}

-- a fault's line is written to a stream, or a beginning of it where a write failed meanwhile
abbrev pub TellsFault : DeviceUse → Fault → Type 0
TellsFault err fault = Tells err.old err.new err.failures_old err.failures_new (message_of fault)

-- the fault that is told of words that ask for nothing, which could perhaps not be read
abbrev pub told_of : {V : Type 0} → (V → List (List ℕ)) → Result V WordFault → Fault
told_of texts (Ok words) = Misused (misuse_of (texts words))
told_of texts (Err fault) = Words fault

-- What is told of failures and of want of memory by this status. `Left` is what holds of the source
-- where the desk has no place. `NotBegun` says why nothing was begun that a failed read is told of,
-- and `NoFile` so of what is told of a plugin's file.
pub record TellsFailures (Left NotBegun : Type 0) (NoFile : PluginUnread → Type 0) (source out err : DeviceUse) (ended : ℕ) : Type 0 where
  -- all was done, and no fault is told
  pub quiet : ended ≡ 0 → err.IsUntouched
  -- Memory, or the desk's place, was wanting, and that is told. Without a place nothing is written.
  pub room : ended ≡ 3 → TellsFault err (Run run_fault.NoMemory)
      ⊎ (TellsFault err (Run run_fault.NoPlace) × Left × out.IsUntouched)
  -- Nothing was begun: that is told, and nothing is read or written. Or a read or a write failed
  -- meanwhile, and that is told. Or a plugin's file couldn't be read: it is told which file of
  -- which plugin, and nothing is read or written.
  pub failed : ended ≡ 4 → TellsFault err (Run run_fault.Read) × ((NotBegun × source.IsUntouched × out.IsUntouched) ⊎ (source.failures_old < source.failures_new))
      ⊎ (TellsFault err (Run run_fault.Write) × (out.failures_old < out.failures_new)
      ⊎ ((unread : PluginUnread) × TellsFault err (Unread unread) × NoFile unread × source.IsUntouched × out.IsUntouched))
  -- and each failure is told: at any other status no read, and no write to the output, has failed
  pub failures_told : ended ≢ 4 → (source.failures_new ≡ source.failures_old) × (out.failures_new ≡ out.failures_old)
