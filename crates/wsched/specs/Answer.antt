-- What the program's words get done, and by which exit status that is told.
use Rattle.std.specs.Prelude.{◌≡◌, ◌≢◌, ◌⊎◌, ℕ, true, false, List, Option, Some, None, Result, IfErr}
use Rattle.streams.specs.Device.{DeviceUse}
use Rattle.streams.specs.declared.fault.RunFault.TheVariants as run_fault
use Rattle.command.specs.Words.{Asked, asked_by, run, explain, check, storm, translate, live, version}
use Rattle.command.specs.declared.fault.WordFault.{WordFault}
use Rattle.fault_line.specs.declared.fault.Fault.{Fault}
use Rattle.fault_line.specs.declared.fault.Fault.TheVariants.{Run, Words}
use Rattle.fault_line.specs.Fault.{status_of}
use Rattle.translator.specs.Translate.{Manner, IsTranslated}
use Rattle.site_modules.specs.Check.{CannotRead, IsCheck}
use Rattle.site.specs.Planned.{IsPlannedRun}
use Rattle.site_modules.specs.Files.{FilesUse}
use Rattle.site_modules.specs.Told.{TellsFault, told_of}
use Rattle.live_site.specs.Live.{IsPlannedLive, read_for}
use Rattle.storm_site.specs.Storm.{IsPlannedStorm}
use Rattle.site_modules.specs.Version.{TellsVersion}

-- a check of the module in this file ended with this status, and the source is as it was
pub record IsFileCheck (file : List ℕ) (files : FilesUse) (source out err : DeviceUse) (ended : ℕ) : Type 0 where
  pub check : IsCheck (files.contents file) (CannotRead file files.failures_old files.failures_new) out err ended
  pub files_told : ended ≢ 4 → files.failures_new ≡ files.failures_old
  pub unread : source.IsUntouched

-- a translation of the source's lines ended with this status, and the files are as they were
pub record IsTranslation (manner : Manner) (files : FilesUse) (source out err : DeviceUse) (ended : ℕ) : Type 0 where
  pub translated : IsTranslated manner source out err ended
  pub unopened : files.IsUntouched

-- which program this is was told, or not, with this status, and the files and the source are as
-- they were
pub record IsVersionTold (files : FilesUse) (source out err : DeviceUse) (ended : ℕ) : Type 0 where
  pub tells : TellsVersion out err ended
  pub unopened : files.IsUntouched
  pub unread : source.IsUntouched

-- nothing was asked for: this fault is told, or that memory was wanting, and nothing is read or
-- written
pub record IsIdle (fault : Fault) (files : FilesUse) (source out err : DeviceUse) (ended : ℕ) : Type 0 where
  pub status : (ended ≡ 2) ⊎ (ended ≡ 3)
  pub words : ended ≡ 2 → TellsFault err fault
  pub room : ended ≡ 3 → TellsFault err (Run run_fault.NoMemory)
  pub unopened : files.IsUntouched
  pub unread : source.IsUntouched
  pub unwritten : out.IsUntouched

-- What was asked for is done. `fault` is what is told of words that ask for nothing.
abbrev pub IsDone : Option Asked → (fault : Fault) → (Unkeyed : Type 0) → FilesUse → (source out err : DeviceUse) → (ended : ℕ) → Type 0
IsDone None fault Unkeyed files source out err ended = IsIdle fault files source out err ended
IsDone (Some (run workers specs)) fault Unkeyed files source out err ended = IsPlannedRun false specs Unkeyed files source out err ended
IsDone (Some (explain workers specs)) fault Unkeyed files source out err ended = IsPlannedRun true specs Unkeyed files source out err ended
IsDone (Some (check file)) fault Unkeyed files source out err ended = IsFileCheck file files source out err ended
IsDone (Some (storm cycles binders flaky specs)) fault Unkeyed files source out err ended = IsPlannedStorm cycles binders specs Unkeyed files source out err ended
IsDone (Some (translate scheduler labels by_uid answers)) fault Unkeyed files source out err ended =
    IsTranslation (record { site = record { scheduler = scheduler; labels = labels; beside = None }; by_uid = by_uid; answers = answers }) files source out err ended
IsDone (Some (live scheduler labels workers specs)) fault Unkeyed files source out err ended =
    IsPlannedLive (read_for scheduler labels) specs Unkeyed files source out err ended
IsDone (Some version) fault Unkeyed files source out err ended = IsVersionTold files source out err ended

-- The program's words, which could perhaps not be read, were answered with this status.
pub record IsAnswer {V : Type 0} (texts : V → List (List ℕ)) (args : Result V WordFault) (Unkeyed : Type 0) (files : FilesUse) (source out err : DeviceUse) (ended : ℕ) : Type 0 where
  -- what they ask for is done
  pub done : IsDone (asked_by texts args) (told_of texts args) Unkeyed files source out err ended
  -- words that couldn't be read are told, with the status of that fault
  pub unread : IfErr args (λ fault. (ended ≡ status_of (Words fault)) × TellsFault err (Words fault))
