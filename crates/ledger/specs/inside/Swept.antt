-- How one slot is swept.
use Rattle.std.specs.Prelude.{◌≡◌, ◌≢◌, ℕ, ◌&&◌, ◌⊎◌, List, None, Some, if◌then◌else◌, slice_set}
use Rattle.std.specs.Str.{bytes_eq}
use Rattle.std.specs.FinMap.{get, remove}
use Rattle.name_table.specs.declared.entry.Entry.{Entry}
use Rattle.name_table.specs.Slots.{Slots, entry_in, map_of}
use Rattle.book.specs.Cluster.{Cluster}
use Rattle.ledger.specs.Lists.{Side}

module _ {X Y R : Type 0} (side : Side X Y R) where
  -- an entry that no list named was taken out of its slot
  pub record IsTakenOut (lists slot : ℕ) (e : Entry X) (old new : Slots X) : Type 0 where
    pub there : entry_in old slot ≡ Some e
    pub unnamed : side.list e.value ≢ lists
    pub known : get (map_of old) e.name ≡ Some e.value
    pub slots : new ≡ slice_set old slot None
    pub map : map_of new ≡ remove (map_of old) e.name

  -- a book without what stands in it of an object
  pub record IsWithout (e : Entry X) (old new : Cluster) : Type 0 where
    pub standing : (name : List ℕ) → get (side.table new) name ≡ (if bytes_eq name e.name && side.stands e.value then None else get (side.table old) name)
    pub rest : side.rest new ≡ side.rest old

  -- what a slot has was named
  abbrev pub IsNamedIn : ℕ → ℕ → Slots X → Type 0
  IsNamedIn lists slot table = (e : Entry X) → entry_in table slot ≡ Some e → side.list e.value ≡ lists

  -- a slot was swept: what it has was named, and nothing changed, or it is gone
  abbrev pub IsSlotSwept : ℕ → ℕ → Slots X → Slots X → Cluster → Cluster → Type 0
  IsSlotSwept lists slot old new book left =
      (IsNamedIn lists slot old × (new ≡ old) × (left ≡ book))
      ⊎ ((e : Entry X) × IsTakenOut lists slot e old new × IsWithout e book left)
