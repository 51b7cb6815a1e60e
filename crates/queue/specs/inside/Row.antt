-- Slots in a row, each at most once, that know their places.
use Rattle.std.specs.Prelude.{◌≡◌, ◌≢◌, ℕ, ◌+◌, ◌<◌, ◌≤◌, List, length, slice_index_or, Vec, vec_len}
use Rattle.std.specs.Global.{Global}
use Rattle.quant.specs.declared.limits.TheConstants.{MAX_QUEUED}

-- how many slots there are, and those in the row
pub record SlotRow : Type 0 where
  pub room : ℕ
  pub slots : List ℕ

-- the slot at a place
abbrev pub at : List ℕ → ℕ → ℕ
at xs k = slice_index_or xs k 0

-- the slot is in the row, at this place
pub record IsIn (xs : List ℕ) (s : ℕ) : Type 0 where
  pub place : ℕ
  pub within : place < length xs
  pub is : at xs place ≡ s

-- those at two places have changed places
pub record IsSwapped (xs ys : List ℕ) (i j : ℕ) : Type 0 where
  pub len : length ys ≡ length xs
  pub first : at ys i ≡ at xs j
  pub second : at ys j ≡ at xs i
  pub others : (k : ℕ) → (k ≢ i) → (k ≢ j) → at ys k ≡ at xs k

-- ys is xs with one more slot at its end
pub record IsPushed (xs ys : List ℕ) (s : ℕ) : Type 0 where
  pub len : length ys ≡ length xs + 1
  pub last : at ys (length xs) ≡ s
  pub others : (k : ℕ) → k < length xs → at ys k ≡ at xs k

-- the same slots are in both
pub record HasSame (xs ys : List ℕ) : Type 0 where
  pub len : length ys ≡ length xs
  pub there : (s : ℕ) → IsIn xs s → IsIn ys s
  pub back : (s : ℕ) → IsIn ys s → IsIn xs s

-- the row without one slot
pub record IsWithout (xs ys : List ℕ) (s : ℕ) : Type 0 where
  pub stays : (t : ℕ) → IsIn xs t → (t ≢ s) → IsIn ys t
  pub back : (t : ℕ) → IsIn ys t → IsIn xs t
  pub gone : IsIn ys s → ⊥

-- the row with one slot more
pub record IsWith (xs ys : List ℕ) (s : ℕ) : Type 0 where
  pub stays : (t : ℕ) → IsIn xs t → IsIn ys t
  pub there : IsIn ys s
  pub back : (t : ℕ) → IsIn ys t → (t ≢ s) → IsIn xs t

-- all slots in some order, and the place of each in that order
pub record IsInverse (slots places : List ℕ) : Type 0 where
  pub as_many : length places ≡ length slots
  pub slot_at : (k : ℕ) → k < length slots → at slots k < length slots
  pub knows : (k : ℕ) → k < length slots → at places (at slots k) ≡ k
  pub place_at : (s : ℕ) → s < length slots → at places s < length slots
  pub stands : (s : ℕ) → s < length slots → at slots (at places s) ≡ s

-- what holds of a row's parts
pub record IsRow (slots places : Vec ℕ Global) (len : ℕ) : Type 0 where
  pub inverse : IsInverse slots.items places.items
  pub within : len ≤ vec_len slots
  pub few : vec_len slots ≤ MAX_QUEUED
