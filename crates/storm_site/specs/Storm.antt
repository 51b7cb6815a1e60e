-- What a storm of a site's script promises, by its exit status.
use Rattle.std.specs.Prelude.{◌≡◌, ◌≢◌, ◌⊎◌, ⊤, ℕ, List, Option, Some, IfSome, Bool, true, false}
use Rattle.std.specs.Io.KnownBytes.{Appends}
use Rattle.plugin.specs.Kit.{Ready, rules_of}
use Rattle.manifest.specs.declared.fault.LineFault.{LineFault}
use Rattle.streams.specs.Device.{DeviceUse, AppendsFront}
use Rattle.streams.specs.declared.fault.RunFault.TheVariants as run_fault
use Rattle.watch_script.specs.Script.{first_storm_fault}
use Rattle.storm.specs.Storm.{StormsScript}
use Rattle.command.specs.Words.{SpecSyntax}
use Rattle.fault_line.specs.declared.fault.Fault.{Fault}
use Rattle.fault_line.specs.declared.fault.Fault.TheVariants.{Run}
use Rattle.site_modules.specs.Files.{FilesUse}
use Rattle.site_modules.specs.Told.{TellsFailures, TellsFault}
use Rattle.site_modules.specs.Modules.{AreFromFiles, AreSiteKits, SiteRefused, UnreadPlugin}

-- By kits of a site's plugins, one a cycle thread, a storm of the script's steps came to this
-- answer, and of what tells it so much was written. Where the source tells its bytes, no line of
-- them is faulty and everything is read.
abbrev pub SiteStorms : (AreGiven : List (List ℕ) → Type 0) → List SpecSyntax → (cycles binders : ℕ) → (source : DeviceUse) → (Wrote : List ℕ → Type 0) → (answer : Bool) → Type 0
SiteStorms AreGiven specs cycles binders source Wrote answer = (modules : List (List ℕ)) × AreGiven modules
    × (kits : List (List Ready)) × AreSiteKits specs modules cycles kits
    × StormsScript rules_of kits binders source Wrote answer

-- a line of the script is the first faulty one
abbrev pub StormFaulty : Fault → (script : Option (List ℕ)) → Type 0
StormFaulty fault script = (number : ℕ) × (why : LineFault) × (fault ≡ Run (run_fault.Line number why))
    × IfSome script (λ text. first_storm_fault text ≡ Some (number, why))

-- A storm of a script by the plugins that are configured ended with this status. `AreGiven` says
-- which modules they have.
pub record IsSiteStorm (AreGiven : List (List ℕ) → Type 0) (specs : List SpecSyntax) (cycles binders : ℕ) (source out err : DeviceUse) (ended : ℕ) : Type 0 where
  -- these are the statuses of a storm
  pub status : (ended ≡ 0) ⊎ ((ended ≡ 1) ⊎ ((ended ≡ 3) ⊎ (ended ≡ 4)))
  -- the audit says yes, and all that tells it is written
  pub done : ended ≡ 0 → SiteStorms AreGiven specs cycles binders source (Appends out.old out.new) true
  -- The audit says no, which is written whole, and no fault is told. Or nothing is written and a
  -- fault is told: a plugin's module is refused, and nothing is read; or a line is the first faulty
  -- one.
  pub input : ended ≡ 1 → (SiteStorms AreGiven specs cycles binders source (Appends out.old out.new) false × err.IsUntouched)
      ⊎ ((fault : Fault) × TellsFault err fault × out.IsUntouched
      × ((SiteRefused AreGiven specs fault × source.IsUntouched) ⊎ StormFaulty fault source.old))
  -- but for the answer nothing is written, unless a write fails: then there was an answer, and a
  -- beginning of what tells it is written
  pub quiet : ended ≡ 3 → out.IsUntouched
  pub unwritten : ended ≡ 4 → out.IsUntouched
      ⊎ (TellsFault err (Run run_fault.Write) × (answer : Bool) × SiteStorms AreGiven specs cycles binders source (AppendsFront out.old out.new) answer)

-- A storm by the plugins that the words configure, as a run is planned, but that it has read its
-- script before there is a place.
pub record IsPlannedStorm (cycles binders : ℕ) (specs : List SpecSyntax) (Unkeyed : Type 0) (files : FilesUse) (source out err : DeviceUse) (ended : ℕ) : Type 0 where
  pub storm : IsSiteStorm (AreFromFiles files.contents specs) specs cycles binders source out err ended
  pub failures : TellsFailures ⊤ Unkeyed (UnreadPlugin specs files.failures_old files.failures_new) source out err ended
  pub files_told : ended ≢ 4 → files.failures_new ≡ files.failures_old
