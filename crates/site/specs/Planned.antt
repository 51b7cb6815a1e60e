-- What a run by words promises that configure plugins, whose modules stand in files.
use Rattle.std.specs.Prelude.{◌≡◌, ◌≢◌, ℕ, Bool, List}
use Rattle.streams.specs.Device.{DeviceUse}
use Rattle.command.specs.Words.{SpecSyntax}
use Rattle.site_modules.specs.Files.{FilesUse}
use Rattle.site.specs.Run.{IsSiteRun}
use Rattle.site_modules.specs.Told.{TellsFailures}
use Rattle.site_modules.specs.Modules.{AreFromFiles, UnreadPlugin}

-- A run by the plugins that the words configure, whose modules stand in their files, which explains
-- its cycles or not, ended with this status. `Unkeyed` says that there are no keys: then nothing is
-- begun.
pub record IsPlannedRun (explains : Bool) (specs : List SpecSyntax) (Unkeyed : Type 0) (files : FilesUse) (source out err : DeviceUse) (ended : ℕ) : Type 0 where
  pub run : IsSiteRun explains (AreFromFiles files.contents specs) specs source out err ended
  -- without a place nothing is read; a file that failed is told by its name, with the plugin whose
  -- file it is
  pub failures : TellsFailures source.IsUntouched Unkeyed (UnreadPlugin specs files.failures_old files.failures_new) source out err ended
  -- and at any other status no file has failed
  pub files_told : ended ≢ 4 → files.failures_new ≡ files.failures_old
