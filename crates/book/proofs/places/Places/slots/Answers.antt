use Rattle.std.proofs.Common.{length, ap, ◌∙◌}
use Rattle.book.specs.inside.Tables.{Held}
use Rattle.book.specs.declared.place.Place.{Place}
use Rattle.book.proofs.FreeSlots.{written_map, written_once}
use Rattle.book.proofs.places.Places.slots.Goals as goal

-- the slots that were ever filled hold all places
pub returns-clause-map : goal.returns-clause-map
returns-clause-map c =
    written_map c.slots.result.now c.self.inside.by_uid (length c.self.inside.by_uid) c.slots.ensures ∙ ap (λ (h : Held Place). h.map) c.self.view_is

pub returns-clause-once : goal.returns-clause-once
returns-clause-once c =
    written_once c.slots.result.now c.self.inside.by_uid (length c.self.inside.by_uid) c.slots.ensures c.len-uids.ensures.once
