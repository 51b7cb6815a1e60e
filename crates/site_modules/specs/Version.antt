-- What `version` writes, by its exit status.
use Rattle.std.specs.Prelude.{◌≡◌, ◌≢◌, ◌⊎◌, ◌<◌, ℕ, List, codes}
use Rattle.std.specs.Io.KnownBytes.{Appends}
use Rattle.streams.specs.Device.{AppendsFront, DeviceUse}
use Rattle.streams.specs.declared.fault.RunFault.TheVariants as run_fault
use Rattle.fault_line.specs.declared.fault.Fault.TheVariants.{Run}
use Rattle.site_modules.specs.Told.{TellsFault}

-- the program's name, its version, and the kit that it is proved with
abbrev pub version_line : List ℕ
version_line = codes "wsched 0.5.0 rattle-kit-13f\n"

-- which program this is was asked for, and ended with this status
pub record TellsVersion (out err : DeviceUse) (ended : ℕ) : Type 0 where
  pub status : (ended ≡ 0) ⊎ ((ended ≡ 3) ⊎ (ended ≡ 4))
  -- the line is written whole, and no fault is told
  pub told : ended ≡ 0 → Appends out.old out.new version_line × err.IsUntouched
  -- memory was wanting for the words, that is told, and nothing is written
  pub room : ended ≡ 3 → TellsFault err (Run run_fault.NoMemory) × out.IsUntouched
  -- a write failed, and that is told; at any other status none has
  pub failed : ended ≡ 4 → TellsFault err (Run run_fault.Write) × (out.failures_old < out.failures_new)
  pub failures_told : ended ≢ 4 → out.failures_new ≡ out.failures_old
  -- nothing but the line, or a beginning of it, is written
  pub front : out.IsUntouched ⊎ AppendsFront out.old out.new version_line
