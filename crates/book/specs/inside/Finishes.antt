-- When the binds of places were reported done, and the uids that are gathered by it.
use Rattle.std.specs.Prelude.{◌≡◌, ℕ, ◌*◌, ◌/◌, ◌<◌, ◌≤◌, ◌==◌, Bool, true, false, List, Option, None, Some, IfSome, IsSorted, length, map, nat_le, slice_index, slice_index_or, vec_capacity}
use Rattle.std.specs.FinMap.{get}
use Rattle.name_table.specs.declared.entry.Entry.{Entry}
use Rattle.name_table.specs.Slots.{Slots, map_of}
use Rattle.quant.specs.declared.amount.Moment.{Moment}
use Rattle.quant.specs.declared.amount.Res.{Res}
use Rattle.quant.specs.declared.limits.TheConstants.{MAX_PLACED}
use Rattle.book.specs.declared.finishes.TheConstants.{NEVER, BLOCK}
use Rattle.book.specs.declared.overdue.Overdue.{Overdue}
use Rattle.book.specs.declared.place.Place.{Place}
use Rattle.book.specs.declared.place.Status.{Status}
use Rattle.book.specs.declared.place.Status.TheVariants.{Assumed, Bound}
use Rattle.book.specs.Cluster.{name_cmp, Places}
use Rattle.book.specs.Step.{stands}
use Rattle.book.specs.inside.Totals.{IsCounted}

-- the millisecond at which a bind was reported done, if it was
abbrev pub millisecond : Option Moment → ℕ
millisecond None = NEVER
millisecond (Some at) = at.0

-- the millisecond at which the bind of a place with this status was reported done, if it was
abbrev pub finish_of : Status → ℕ
finish_of (Assumed ticket finished) = millisecond finished
finish_of Bound = NEVER

-- that of the place in a slot
abbrev pub finish_in : Option (Entry Place) → ℕ
finish_in None = NEVER
finish_in (Some e) = finish_of e.value.status

-- there is a place, whose bind was reported done by then
abbrev pub is_finished_by : ℕ → Option Place → Bool
is_finished_by limit o = stands (λ status. nat_le (finish_of status) limit) o

-- the limit is this one
abbrev pub is_limit : ℕ → Option ℕ → Bool
is_limit limit None = false
is_limit limit (Some known) = known == limit

-- no slot of a block has an earlier millisecond than what is kept for it
pub record IsEarliest (each earliest : List ℕ) : Type 0 where
  pub few : length each ≤ MAX_PLACED
  pub many : length each < length earliest * BLOCK
  pub low : (i : ℕ) → i < length each → slice_index earliest (i / BLOCK) ≤ slice_index each i

-- a name stands in a list, not before a place
abbrev pub IsFrom : List (List ℕ) → ℕ → List ℕ → Type 0
IsFrom names from name = (k : ℕ) × (from ≤ k) × (k < length names) × (slice_index_or names k name ≡ name)

-- the names from a place on rise, and have all uids whose binds were reported done by then
pub record IsGathered (places : Places) (limit : ℕ) (names : List (List ℕ)) (given : ℕ) : Type 0 where
  pub sorted : IsSorted name_cmp names
  pub all : (uid : List ℕ) → is_finished_by limit (get places uid) ≡ true → IsFrom names given uid

-- what is kept beside the places is right: their totals, when their binds were reported done, and
-- those gathered by it
pub record IsKept (by_uid : Slots Place) (totals : Slots Res) (assumed : ℕ) (finishes : List ℕ) (overdue : Overdue) : Type 0 where
  pub counted : IsCounted (map_of by_uid) (length by_uid) (map_of totals) (length totals) assumed
  pub timed : finishes ≡ map finish_in by_uid
  pub room : length by_uid ≤ vec_capacity overdue.names
  pub gathered : IfSome overdue.limit (λ limit. IsGathered (map_of by_uid) limit overdue.names.items overdue.given)
