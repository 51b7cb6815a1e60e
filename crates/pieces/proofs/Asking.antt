-- What stands at a place of a history that grows.
use Rattle.std.proofs.Common.{◌≡◌, ℕ, ◌+◌, ◌==◌, List, [], ◌∷◌, ◌++◌, length, Some, slice_get, arith, ap, refl, length-append}
use Rattle.std.specs.Bool.{MatchBool}
use Rattle.std.proofs.lemmas.Bool.{MatchBool-at_true, eq-eqb}
use mathlib.Core.List.{IsPrefix}
use Rattle.desk.proofs.Beginnings.{prefix_get}

-- in two beginnings of one list the same stands at one place
pub one_stands : {A : Type 0} (xs ys zs : List A) (k : ℕ) (x y : A) → IsPrefix xs zs → IsPrefix ys zs → slice_get xs k ≡ Some x → slice_get ys k ≡ Some y → y ≡ x
one_stands xs ys zs k x y first second here there =
    let a : slice_get zs k ≡ Some x = prefix_get xs zs k x first here in
    let b : slice_get zs k ≡ Some y = prefix_get ys zs k y second there in
    cc (a, b)

-- what is asked was added where the history was as long as it was seen
pub was_added : {A : Type 0} (found old : ℕ) (log new : List A) (e : A) → found ≡ old → MatchBool (found == old) (new ≡ log ++ e ∷ []) (Unit {0})
    → new ≡ log ++ e ∷ []
was_added found old log new e same added = MatchBool-at_true _ _ (eq-eqb found old same) added

-- behind a list stands what was put there
get_behind : {A : Type 0} (log : List A) (e : A) → slice_get (log ++ e ∷ []) (length log) ≡ Some e
get_behind [] e = refl
get_behind (x ∷ log) e = get_behind log e

-- so does what is asked, behind all that was seen
pub added_stands : {A : Type 0} (new log : List A) (e : A) (count : ℕ) → new ≡ log ++ e ∷ [] → length log ≡ count → slice_get new count ≡ Some e
added_stands new log e count added len = rw (added, ← len) (get_behind log e)

-- and the history is longer by one
pub added_counts : {A : Type 0} (new log : List A) (e : A) (count : ℕ) → new ≡ log ++ e ∷ [] → length log ≡ count → count + 1 ≡ length new
added_counts new log e count added len = omega (arith, ap length added, length-append log (e ∷ []))
