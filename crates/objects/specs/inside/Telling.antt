-- How it is told, and what is told beside an event.
use Rattle.std.specs.Prelude.{ℕ, List, Option}
use Rattle.quant.specs.declared.event.Event.{Event}
use Rattle.objects.specs.declared.site.Telling as declared
use Rattle.objects.specs.Site.{Telling, telling, site_of}
use Rattle.objects.specs.Told.{Told, saying}

abbrev pub how_told : declared.Telling → Telling
how_told how = telling (site_of how.site) how.by_uid how.version how.change

-- an event that is told, and what stands beside it
abbrev pub as_told : (left_out : List ℕ) → Option Event → Told
as_told left_out event = saying event left_out
