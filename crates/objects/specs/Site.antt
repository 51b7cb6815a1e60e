-- What is asked of a translation beside its lines.
use Rattle.std.specs.Prelude.{ℕ, Bool, List, Option, Some, option_map}
use Rattle.serde_json.specs.Data.{Data}
use Rattle.serde_json.specs.View.{view}
use Rattle.quant.specs.declared.version.Version.{Version}
use Rattle.objects.specs.declared.change.Change.{Change}
use Rattle.objects.specs.declared.site.Site as declared

-- for which scheduler pods are to be placed, the names of the labels that the site's rules read, and
-- the object of the labels that are told beside an object's own, where there are some: they tell
-- what a pod asks of nodes' labels, and where the volumes are that it claims
pub record Site : Type 0 where
  pub scheduler : List ℕ
  pub labels : List ℕ
  pub beside : Option Data

abbrev pub site_of : declared.Site → Site
site_of site = record { scheduler = site.scheduler.now; labels = site.labels.now; beside = option_map (λ v. view v.now) site.beside }

-- the same with these labels beside
abbrev pub with_labels : (labels : Data) → Site → Site
with_labels labels site = record { scheduler = site.scheduler; labels = site.labels; beside = Some labels }

-- how an object is told: for which site, whether a pod is called by its uid, the version of the
-- event that tells it, and what has come of the object
pub record Telling : Type 0 where
  pub site : Site
  pub by_uid : Bool
  pub version : Version
  pub change : Change

abbrev pub telling : Site → (by_uid : Bool) → Version → Change → Telling
telling site by_uid version change = record { site = site; by_uid = by_uid; version = version; change = change }
