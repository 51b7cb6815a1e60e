-- What a run of a site's script promises, by its exit status.
use Rattle.std.specs.Prelude.{◌≡◌, ◌⊎◌, Bool, List, ℕ}
use Rattle.streams.specs.Device.{DeviceUse}
use Rattle.command.specs.Words.{SpecSyntax}
use Rattle.fault_line.specs.declared.fault.Fault.{Fault}
use Rattle.site.specs.Site.{SiteDone, SiteFaulty, SiteFront}
use Rattle.site_modules.specs.Modules.{SiteRefused}
use Rattle.site_modules.specs.Told.{TellsFault}

-- A run of a script by the plugins that are configured, which explains its cycles or not, ended
-- with this status. `AreGiven` says which modules they have.
pub record IsSiteRun (explains : Bool) (AreGiven : List (List ℕ) → Type 0) (specs : List SpecSyntax) (source out err : DeviceUse) (ended : ℕ) : Type 0 where
  -- these are the statuses of a run
  pub status : (ended ≡ 0) ⊎ ((ended ≡ 1) ⊎ ((ended ≡ 3) ⊎ (ended ≡ 4)))
  -- no line is faulty, the output is written whole, and everything is read
  pub done : ended ≡ 0 → SiteDone explains AreGiven specs source.old source.new out.old out.new
  -- A plugin's module is refused, that is told, and nothing is read or written. Or a line is
  -- faulty: it is the first one and its fault is told, and the output of the lines before it is
  -- written whole.
  pub input : ended ≡ 1 → (fault : Fault) × TellsFault err fault
      × ((SiteRefused AreGiven specs fault × source.IsUntouched × out.IsUntouched) ⊎ SiteFaulty explains AreGiven specs fault source.old out.old out.new)
  -- nothing but the output, or a beginning of it, is written
  pub front : out.IsUntouched ⊎ SiteFront explains AreGiven specs source.old out.old out.new
