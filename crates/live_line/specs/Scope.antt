-- Whose pods are placed, and what the site's rules read.
use Rattle.std.specs.Prelude.{None}
use Rattle.objects.specs.Site.{Site}
use Rattle.live_line.specs.declared.scope.Scope as declared

-- the site for which an object is told that comes with no labels beside its own
abbrev pub site_of : declared.Scope → Site
site_of scope = record { scheduler = scope.scheduler.now; labels = scope.labels.now; beside = None }
