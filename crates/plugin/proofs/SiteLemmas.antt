-- How the plugins of a site are configured, one after the other.
use Rattle.std.proofs.Common.{◌≡◌, ℕ, zero, suc, ◌+◌, ◌<◌, List, [], ◌∷◌, ◌++◌, length, map, take, Some, slice_get, slice_index_or, All, refl, ap, subst, ◌∙◌, arith, add-one}
use Rattle.std.specs.Prelude.{option_map}
use Rattle.std.proofs.lemmas.List.Elements.{All-head, All-tail}
use Rattle.std.proofs.lemmas.Option.{slice_get_read, slice_get-map}
use Rattle.plugin.specs.Plugins.{Configured, HaveDistinctNames, IsTaken, names}

-- the one at a place is configured at that place
pub configured_at : {C : Type 0} (plugin_of : C → Configured) (site : List C) (i : ℕ) (one : C) → i < length site → one ≡ slice_index_or site i one → slice_get (map plugin_of site) i ≡ Some (plugin_of one)
configured_at plugin_of site i one below is =
    slice_get-map plugin_of site i ∙ ap (option_map plugin_of) (slice_get_read site (length site) i one refl below is)

-- a plugin of this name is one of the first
named_before : (plugins : List Configured) (i j : ℕ) (name : List ℕ) → j < length (names (take i plugins)) → slice_index_or (names (take i plugins)) j name ≡ name
    → (p : Configured) × (j < i) × (slice_get plugins j ≡ Some p) × (p.name ≡ name)
named_before [] zero j name below at = absurd (omega (arith, below))
named_before [] (suc i) j name below at = absurd (omega (arith, below))
named_before (p ∷ plugins) zero j name below at = absurd (omega (arith, below))
named_before (p ∷ plugins) (suc i) zero name below at = (p, omega arith, refl, at)
named_before (p ∷ plugins) (suc i) (suc j) name below at =
    let rest = named_before plugins i j name (omega (arith, below)) at in
    (rest.0, omega (arith, rest.1), rest.2, rest.3)

-- the next one's name is taken by none of those before it
pub alone : (plugins : List Configured) (i : ℕ) (p : Configured) → HaveDistinctNames plugins → slice_get plugins i ≡ Some p → ¬ (IsTaken (take i plugins) p.name)
alone plugins i p distinct at taken =
    let other = named_before plugins i taken.0 p.name taken.1 taken.2 in
    let one : taken.0 ≡ i = distinct taken.0 i other.0 p other.2 at other.3 in
    omega (arith, one, other.1)

-- what holds of all plugins holds of the one at a place
pub holds_at : {X : Type 0} (P : X → Type 0) (xs : List X) (i : ℕ) (x : X) → All P xs → slice_get xs i ≡ Some x → P x
holds_at P [] i x all at = cc
holds_at P (a ∷ xs) zero x all at =
    let same : a ≡ x = cc in
    subst P same (All-head P a xs all)
holds_at P (a ∷ xs) (suc i) x all at = holds_at P xs i x (All-tail P a xs all) at

-- with the one at a place the first are one more
more : {X : Type 0} (xs : List X) (i : ℕ) (x : X) → slice_get xs i ≡ Some x → take (suc i) xs ≡ take i xs ++ x ∷ []
more [] i x at = cc
more (a ∷ xs) zero x at =
    let same : a ≡ x = cc in
    ap (λ y. y ∷ []) same
more (a ∷ xs) (suc i) x at = ap (λ rest. a ∷ rest) (more xs i x at)

pub one_more : {X : Type 0} (xs : List X) (i : ℕ) (x : X) → slice_get xs i ≡ Some x → take (i + 1) xs ≡ take i xs ++ x ∷ []
one_more xs i x at = rw add-one (more xs i x at)
