-- Which of the pods that wait is popped first.
use Rattle.std.specs.Prelude.{Bool, not, ◌&&◌, List, Option, find}
use Rattle.std.specs.List.{list_all}
use Rattle.std.specs.Ordering.{nat_cmp, int_cmp, is_lt, ordering_then}
use Rattle.std.specs.declared.cmp.Ordering.{Ordering}
use Rattle.std.specs.Cmp.Lexicographic.{slice_cmp}
use Rattle.quant.specs.declared.name.Name.{Name}
use Rattle.queued.specs.Entry.{Entry, is_active}

-- an entry, beside the uid that it is kept under
abbrev pub Item : Type 0
Item = Name × Entry

-- the order of the queue: the higher priority, then the earlier arrival, then the lesser uid by
-- bytes
abbrev pub item_cmp : Item → Item → Ordering
item_cmp a b =
    ordering_then (int_cmp b.1.pod.priority a.1.pod.priority)
    (ordering_then (nat_cmp a.1.arrival.0 b.1.arrival.0) (slice_cmp nat_cmp a.0 b.0))

-- a goes first of the two
abbrev pub comes_before : Item → Item → Bool
comes_before a b = is_lt (item_cmp a b)

-- an active item, before which no other active one of these comes
abbrev pub is_next : List Item → Item → Bool
is_next items item = is_active item.1.state && list_all (λ other. not (is_active other.1.state && comes_before other item)) items

-- the one that is next, if any is active
abbrev pub next_item : List Item → Option Item
next_item items = find (is_next items) items
