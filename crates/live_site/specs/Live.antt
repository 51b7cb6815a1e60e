-- What it promises to decide of a cluster by a site's plugins, by its exit status.
use Rattle.std.specs.Prelude.{◌≡◌, ◌≢◌, ◌⊎◌, ℕ, List, None}
use Rattle.objects.specs.Site.{Site}
use Rattle.plugin.specs.Kit.{IsKitOf, Ready, rules_of}
use Rattle.plugin.specs.Plugins.{Configured}
use Rattle.streams.specs.Device.{DeviceUse}
use Rattle.streams.specs.declared.fault.RunFault.TheVariants as run_fault
use Rattle.command.specs.Words.{SpecSyntax}
use Rattle.fault_line.specs.declared.fault.Fault.{Fault}
use Rattle.fault_line.specs.declared.fault.Fault.TheVariants.{Run}
use Rattle.fault_line.specs.Fault.{status_of}
use Rattle.live.specs.Live.{IsLive, manner}
use Rattle.site_modules.specs.Files.{FilesUse}
use Rattle.site_modules.specs.Told.{TellsFault}
use Rattle.site_modules.specs.Modules.{AreFromFiles, ArePlugins, WhyNoModules, WhyNoSite, named_of}

-- what is read of objects: pods of this scheduler wait, and the labels of these keys come first
abbrev pub read_for : (scheduler labels : List ℕ) → Site
read_for scheduler labels = record { scheduler = scheduler; labels = labels; beside = None }

-- nothing was begun: this fault is told, with its status, and nothing is read or written
pub record IsUnbegun (fault : Fault) (source out err : DeviceUse) (ended : ℕ) : Type 0 where
  pub status : ended ≡ status_of fault
  pub tells : TellsFault err fault
  pub unread : source.IsUntouched
  pub unwritten : out.IsUntouched

-- By a kit of the plugins that are configured, with these modules, the lines were answered.
pub record IsAnsweredBy (modules : List (List ℕ)) (specs : List SpecSyntax) (site : Site) (source out err : DeviceUse) (ended : ℕ) : Type 0 where
  pub plugins : List Configured
  pub are : ArePlugins specs modules plugins
  pub kit : List Ready
  pub is : IsKitOf plugins kit
  pub live : IsLive (manner site (rules_of kit) (named_of specs)) source out err ended

-- The lines were answered by the plugins that are configured, or there are none. `AreGiven` says
-- which modules they have.
abbrev pub IsSiteLive : (AreGiven : List (List ℕ) → Type 0) → List SpecSyntax → Site → (source out err : DeviceUse) → (ended : ℕ) → Type 0
IsSiteLive AreGiven specs site source out err ended = (modules : List (List ℕ)) × AreGiven modules
    × (IsAnsweredBy modules specs site source out err ended ⊎ ((fault : Fault) × WhyNoSite specs modules fault × IsUnbegun fault source out err ended))

-- The lines were answered by the plugins that the words configure, whose modules stand in files; or
-- a file couldn't be read, or memory was wanting for that, or there were no keys, as `Unkeyed` says.
pub record IsPlannedLive (site : Site) (specs : List SpecSyntax) (Unkeyed : Type 0) (files : FilesUse) (source out err : DeviceUse) (ended : ℕ) : Type 0 where
  pub came : IsSiteLive (AreFromFiles files.contents specs) specs site source out err ended
      ⊎ ((fault : Fault) × ((Unkeyed × (fault ≡ Run run_fault.Read)) ⊎ WhyNoModules specs files.failures_old files.failures_new fault)
      × IsUnbegun fault source out err ended)
  -- and at any other status no file has failed
  pub files_told : ended ≢ 4 → files.failures_new ≡ files.failures_old
