-- Heaps of slots, in the order in which their entries go.
use Rattle.std.specs.Prelude.{◌≡◌, ◌≢◌, ℕ, ◌+◌, ◌*◌, ◌<◌, ◌≤◌, Bool, false, List, length, Option, option_map, IsSome}
use Rattle.std.specs.Ordering.{nat_cmp, is_lt, ordering_then}
use Rattle.std.specs.Option.{option_cmp}
use Rattle.std.specs.declared.cmp.Ordering.{Ordering}
use Rattle.name_table.specs.Slots.{Slots, entry_in}
use Rattle.queued.specs.Entry.{Entry}
use Rattle.queued.specs.Change.{moment_of}
use Rattle.queue.specs.Order.{Item, item_cmp}
use Rattle.queue.specs.inside.Row.{at, IsIn}

-- the slots of a queue
abbrev pub Pods : Type 0
Pods = Slots Entry

-- the order of every heap: by that moment, then as they are popped
abbrev pub wait_cmp : Item → Item → Ordering
wait_cmp a b = ordering_then (nat_cmp (moment_of a.1.state) (moment_of b.1.state)) (item_cmp a b)

-- what a slot has, under its uid
abbrev pub item_in : Pods → ℕ → Option Item
item_in pods s = option_map (λ e. (e.name, e.value)) (entry_in pods s)

-- what the first slot has goes before what the second has
unfoldable pub goes_before : Pods → ℕ → ℕ → Bool
goes_before pods a b = is_lt (option_cmp wait_cmp (item_in pods a) (item_in pods b))

-- each slot of the row has an entry
abbrev pub AllThere : Pods → List ℕ → Type 0
AllThere pods xs = (s : ℕ) → IsIn xs s → IsSome (entry_in pods s)

-- no parent comes after its child
abbrev pub IsHeap : Pods → List ℕ → Type 0
IsHeap pods xs = (p k : ℕ) → p * 2 + 1 ≤ k → k ≤ p * 2 + 2 → k < length xs → goes_before pods (at xs k) (at xs p) ≡ false

-- no child of the place j goes before the slot at c
abbrev pub GoesFirst : Pods → List ℕ → ℕ → ℕ → Type 0
GoesFirst pods xs j c = (k : ℕ) → j * 2 + 1 ≤ k → k ≤ j * 2 + 2 → k < length xs → goes_before pods (at xs k) (at xs c) ≡ false

-- a heap but for the slot at the place j, whose parent is above its children
pub record IsHeapBut (pods : Pods) (xs : List ℕ) (j : ℕ) : Type 0 where
  pub others : (p k : ℕ) → p * 2 + 1 ≤ k → k ≤ p * 2 + 2 → k < length xs → (p ≢ j) → (k ≢ j) → goes_before pods (at xs k) (at xs p) ≡ false
  pub across : (p k : ℕ) → p * 2 + 1 ≤ j → j ≤ p * 2 + 2 → j * 2 + 1 ≤ k → k ≤ j * 2 + 2 → k < length xs → goes_before pods (at xs k) (at xs p) ≡ false
