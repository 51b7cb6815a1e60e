-- Which assumed places expire: those whose bind was reported done long ago, and which the cluster
-- hasn't confirmed since.
use Rattle.std.specs.Prelude.{◌≡◌, ◌+◌, Bool, true, false, not, List, ℕ, Option, None, Some, nat_le}
use Rattle.std.specs.Ordering.{is_lt}
use Rattle.std.specs.List.{list_any}
use Rattle.std.specs.FinMap.{get, keys, retain_keys}
use Rattle.quant.specs.declared.amount.Moment.{Moment}
use Rattle.book.specs.declared.limits.TheConstants.{EXPIRY}
use Rattle.book.specs.declared.place.Status.{Status}
use Rattle.book.specs.declared.place.Status.TheVariants.{Assumed, Bound}
use Rattle.book.specs.Cluster.{name_cmp, Places, Cluster}
use Rattle.book.specs.Step.{stands}

-- a bind that was reported done at this moment, if any was, is no longer waited for
abbrev pub is_overdue : Moment → Option Moment → Bool
is_overdue now None = false
is_overdue now (Some at) = nat_le (at.0 + EXPIRY) now.0

-- an assumed place whose bind was reported done so long ago expires. One whose bind wasn't never
-- does
abbrev pub has_expired : Moment → Status → Bool
has_expired now (Assumed ticket finished) = is_overdue now finished
has_expired now Bound = false

-- the pod has a place, which expires
abbrev pub is_expired : Places → Moment → List ℕ → Bool
is_expired places now uid = stands (has_expired now) (get places uid)

-- the least uid, in the order of their bytes, whose place expires
pub record IsFirstExpired (places : Places) (now : Moment) (uid : List ℕ) : Type 0 where
  pub expired : is_expired places now uid ≡ true
  pub least : (other : List ℕ) → is_expired places now other ≡ true → is_lt (name_cmp other uid) ≡ false

-- no place expires
abbrev pub NoneExpired : Places → Moment → Type 0
NoneExpired places now = (uid : List ℕ) → is_expired places now uid ≡ false

-- whether some place expires
abbrev pub any_expired : Places → Moment → Bool
any_expired places now = list_any (is_expired places now) (keys places)

-- the places that don't expire
abbrev pub unexpired : Places → Moment → Places
unexpired places now = retain_keys places (λ uid. not (is_expired places now uid))

-- with those alone
abbrev pub without_expired : Cluster → Moment → Cluster
without_expired c now = record c { places = unexpired c.places now }
