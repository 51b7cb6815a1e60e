-- The names that a list omitted: as they stand in a table's slots, and in their order.
use Rattle.std.proofs.Common.{◌≡◌, ◌≢◌, ℕ, zero, suc, ◌+◌, ◌-◌, ◌<◌, ◌≤◌, Bool, true, false, cond, not, ◌&&◌, ◌||◌, List, [], ◌∷◌, ◌++◌, Option, None, Some, is_some, length, get_or, take, map, replicate, refl, sym, ap, subst, ◌∙◌, arith, append-nil}
use Rattle.std.specs.Prelude.{if◌then◌else◌, ◌==◌, T}
use Rattle.std.specs.declared.cmp.Ordering.{Ordering}
use Rattle.std.specs.declared.cmp.Ordering.TheVariants.{Less, Equal, Greater}
use Rattle.std.specs.Ordering.{is_lt, is_eq, eq_by_cmp, ordering_reverse}
use Rattle.std.specs.Cmp.{eq_by_cmp_equiv}
use Rattle.std.specs.Cmp.Lexicographic.{nat_list_cmp_total}
use Rattle.std.specs.List.{AllByRecursion, IsDistinct, list_any}
use Rattle.std.specs.List.Sorted.{IsPermutation, IsSorted, IsStrictlySortedBy}
use Rattle.std.specs.FinMap as fin
use Rattle.std.specs.FinMap.{FinMap, find, is_sorted, entries_sorted}
use Rattle.std.specs.FinMap.Entries.{below_all}
use Rattle.std.proofs.lemmas.Bool.Decides.{nat_tests}
use Rattle.std.proofs.lemmas.List.{take_all, take_more}
use Rattle.std.proofs.lemmas.List.Kept.{IsStrictlySortedBy-filter}
use Rattle.std.proofs.lemmas.List.Sorted.{list_any-IsPermutation}
use Rattle.std.proofs.lemmas.Map.Keys.{IsDistinct-cons, IsDistinct-IsPermutation, apart_from_distinct, sorted_from_all_adjacent}
use Rattle.std.proofs.lemmas.Map.Lookups.{btree_set_from_contains}
use Rattle.std.proofs.lemmas.Map.Views.{any-filter_same}
use Rattle.name_table.specs.declared.entry.Entry.{Entry}
use Rattle.name_table.specs.Slots.{Slots, filled, map_of, with_free, NamesOnce}
use Rattle.name_table.proofs.SumLemmas.{same_name}
use Rattle.name_table.proofs.SlotLemmas.{map_lacks}
use Rattle.book.specs.Cluster.{name_cmp}
use Rattle.ledger.specs.Lists.{is_named, unnamed_in}

-- whether a name is among these
abbrev has : List ℕ → List (List ℕ) → Bool
has name names = list_any (eq_by_cmp name_cmp name) names

-- an order that tests as equal is Equal, and one that tests as less is Less
equal_of : (r : Ordering) → is_eq r ≡ true → r ≡ Equal
equal_of Less h = absurd (cc)
equal_of Equal h = refl
equal_of Greater h = absurd (cc)

less_of : (r : Ordering) → is_lt r ≡ true → r ≡ Less
less_of Less h = refl
less_of Equal h = absurd (cc)
less_of Greater h = absurd (cc)

-- what neither ties with what comes after it nor comes after that is less
less_by : (r : Ordering) → is_eq r ≡ false → is_lt (ordering_reverse r) ≡ false → r ≡ Less
less_by Less apart behind = refl
less_by Equal apart behind = absurd (cc)
less_by Greater apart behind = absurd (cc)

-- both parts of a test by `or` that fails, and the first of one by `and` that passes, with the second
either_false : (a b : Bool) → (a || b) ≡ false → (a ≡ false) × (b ≡ false)
either_false true b h = absurd (cc)
either_false false b h = (refl, h)

both_true : (a b : Bool) → T (a && b) → (a ≡ true) × T b
both_true true b h = (refl, h)
both_true false b h = absurd h

-- a name that isn't among others differs from each
apart_from : (name : List ℕ) (names : List (List ℕ)) → has name names ≡ false → AllByRecursion (λ other. eq_by_cmp name_cmp name other ≡ false) names
apart_from name [] none = tt
apart_from name (other ∷ names) none = let both = either_false _ _ none in (both.0, apart_from name names both.1)

-- names in order of which no two are the same strictly rise
rising : (names : List (List ℕ)) → IsSorted name_cmp names → IsDistinct (eq_by_cmp name_cmp) names → IsStrictlySortedBy name_cmp names
rising names sorted distinct =
    sorted_from_all_adjacent nat_list_cmp_total names []
    (λ k lt. less_by _ (apart_from_distinct (eq_by_cmp name_cmp) names k (k + 1) [] distinct (omega arith) lt)
    (ap is_lt (sym (nat_list_cmp_total.antisymm (get_or names (k + 1) []) (get_or names k []))) ∙ sorted k [] (omega arith) lt))

-- and of rising names there is one list: it is told by which names are in it
same_names : (xs ys : List (List ℕ)) → IsStrictlySortedBy name_cmp xs → IsStrictlySortedBy name_cmp ys → ((name : List ℕ) → has name xs ≡ has name ys) → xs ≡ ys
same_names xs ys up rise same = btree_set_from_contains nat_list_cmp_total (record { keys = xs }) (record { keys = ys }) up rise same same_name

-- a test that passes
true_T : (b : Bool) → b ≡ true → T b
true_T true h = tt
true_T false h = absurd (cc)

module _ {X : Type 0} where
  -- a name that is below all entries is below their names
  below_each : (name : List ℕ) (es : List (List ℕ × X)) → T (below_all name_cmp name es) → AllByRecursion (λ other. name_cmp name other ≡ Less) (map (λ e. e.0) es)
  below_each name [] h = tt
  below_each name (e ∷ es) h = let both = both_true _ _ h in (less_of _ both.0, below_each name es both.1)

  -- the names of entries in order strictly rise
  names_rise : (es : List (List ℕ × X)) → T (is_sorted name_cmp es) → IsStrictlySortedBy name_cmp (map (λ e. e.0) es)
  unfolding IsStrictlySortedBy
  names_rise [] h = tt
  names_rise (e ∷ es) h = let both = both_true _ _ h in (below_each e.0 es (true_T _ both.0), names_rise es both.1)

module _ {X : Type 0} (list : X → ℕ) (lists : ℕ) where
  -- the names of the objects in slots that weren't told since, in the slots' order
  abbrev pub omitted : Slots X → List (List ℕ)
  omitted [] = []
  omitted (None ∷ s) = omitted s
  omitted (Some e ∷ s) = if list e.value == lists then omitted s else e.name ∷ omitted s

  -- those of a slot
  abbrev pub omitted_in : Option (Entry X) → List (List ℕ)
  omitted_in None = []
  omitted_in (Some e) = if list e.value == lists then [] else e.name ∷ []

  -- those of slots and of one more
  one_more : (s : Slots X) (o : Option (Entry X)) → omitted (s ++ o ∷ []) ≡ omitted s ++ omitted_in o
  one_more [] None = refl
  one_more [] (Some e) = refl
  one_more (None ∷ s) o = one_more s o
  one_more (Some e ∷ s) o = elim (list e.value == lists) as (λ b. (if b then omitted (s ++ o ∷ []) else e.name ∷ omitted (s ++ o ∷ [])) ≡ (if b then omitted s else e.name ∷ omitted s) ++ omitted_in o) [
    | true ↦ one_more s o
    | false ↦ ap (λ names. e.name ∷ names) (one_more s o)
  ]

  -- those of the slots so far, and of the next
  pub step : (s : Slots X) (i : ℕ) (o : Option (Entry X)) (names after : List (List ℕ)) → i < length s → o ≡ get_or s i o → names ≡ omitted (take i s) → after ≡ names ++ omitted_in o → after ≡ omitted (take (i + 1) s)
  step s i o names after lt is so_far added =
      added ∙ ap (λ ns. ns ++ omitted_in o) so_far ∙ sym (one_more (take i s) o)
      ∙ sym (ap omitted (take_more s i o lt) ∙ ap (λ p. omitted (take i s ++ p ∷ [])) (sym is))

  -- a slot adds its name where that wasn't told since, and nothing where it was, or where the slot is free
  pub with_name : (names after : List (List ℕ)) (o : Option (Entry X)) (e : Entry X) → o ≡ Some e → list e.value ≢ lists → after ≡ names ++ e.name ∷ [] → after ≡ names ++ omitted_in o
  with_name names after o e some other added = grind (arith, nat_tests, some, other, added)

  pub without_name : (names after : List (List ℕ)) (o : Option (Entry X)) (e : Entry X) → o ≡ Some e → list e.value ≡ lists → after ≡ names → after ≡ names ++ omitted_in o
  without_name names after o e some same added = grind (arith, nat_tests, some, same, added, append-nil names)

  pub without_slot : (names after : List (List ℕ)) (o : Option (Entry X)) → o ≡ None → after ≡ names → after ≡ names ++ omitted_in o
  without_slot names after o none added = grind (arith, none, added, append-nil names)

  -- free slots have none
  none_free : (n : ℕ) → omitted (replicate n None) ≡ []
  none_free zero = refl
  none_free (suc n) = none_free n

  -- and add none
  free : (s : Slots X) (n : ℕ) → omitted (s ++ replicate n None) ≡ omitted s
  free [] n = none_free n
  free (None ∷ s) n = free s n
  free (Some e ∷ s) n = ap (λ names. if list e.value == lists then names else e.name ∷ names) (free s n)

  -- the names of later slots stand there once
  once_later : (o : Option (Entry X)) (s : Slots X) → NamesOnce (o ∷ s) → NamesOnce s
  unfolding NamesOnce
  once_later o s once i j q hi hj = let e : suc i ≡ suc j = once (suc i) (suc j) q hi hj in omega arith

  -- a slot's name is in none after it
  not_later : (e : Entry X) (s : Slots X) → NamesOnce (Some e ∷ s) → find name_cmp e.name (filled s) ≡ None
  unfolding NamesOnce
  not_later e s once =
      sym (fin.get-from_entries nat_list_cmp_total (filled s) e.name)
      ∙ map_lacks s e.name (λ i h. let z : zero ≡ suc i = once zero (suc i) e.name refl h in omega arith)

  -- a slot before others has a name, or those have it
  has_first : (e : Entry X) (s : Slots X) (name : List ℕ) → (name ≡ e.name → find name_cmp name (filled s) ≡ None) → has name (omitted s) ≡ not (is_named list lists (find name_cmp name (filled s)))
      → (tie : Bool) → eq_by_cmp name_cmp name e.name ≡ tie → (named : Bool) → (list e.value == lists) ≡ named
      → has name (if named then omitted s else e.name ∷ omitted s) ≡ not (is_named list lists (cond tie (Some e.value) (find name_cmp name (filled s))))
  has_first e s name gone later true tie true named =
      later ∙ ap (λ o. not (is_named list lists o)) (gone (same_name name e.name (equal_of _ tie))) ∙ sym (ap not named)
  has_first e s name gone later true tie false named = ap (λ b. b || has name (omitted s)) tie ∙ sym (ap not named)
  has_first e s name gone later false tie true named = later
  has_first e s name gone later false tie false named = ap (λ b. b || has name (omitted s)) tie ∙ later

  -- the names in slots that weren't told since are those that the table says
  has_omitted : (s : Slots X) (name : List ℕ) → NamesOnce s → has name (omitted s) ≡ not (is_named list lists (find name_cmp name (filled s)))
  has_omitted [] name once = refl
  has_omitted (None ∷ s) name once = has_omitted s name (once_later None s once)
  has_omitted (Some e ∷ s) name once =
      has_first e s name (λ same. ap (λ n. find name_cmp n (filled s)) same ∙ not_later e s once) (has_omitted s name (once_later (Some e) s once))
      (eq_by_cmp name_cmp name e.name) refl (list e.value == lists) refl

  -- and each stands there once
  distinct : (s : Slots X) → NamesOnce s → IsDistinct (eq_by_cmp name_cmp) (omitted s)
  unfolding IsDistinct
  distinct [] once = tt
  distinct (None ∷ s) once = distinct s (once_later None s once)
  distinct (Some e ∷ s) once =
      let later = distinct s (once_later (Some e) s once) in
      let other : has e.name (omitted s) ≡ false = has_omitted s e.name (once_later (Some e) s once) ∙ ap (λ o. not (is_named list lists o)) (not_later e s once) in
      elim (list e.value == lists) as (λ b. IsDistinct (eq_by_cmp name_cmp) (if b then omitted s else e.name ∷ omitted s)) [
        | true ↦ later
        | false ↦ IsDistinct-cons (eq_by_cmp name_cmp) e.name (omitted s) (apart_from e.name (omitted s) other) later
      ]

  -- what isn't known isn't omitted
  by_value : (b : Bool) (o : Option X) → is_some o ≡ b → (not (is_named list lists o) && b) ≡ not (is_named list lists o)
  by_value true None is = refl
  by_value false None is = refl
  by_value true (Some x) is = elim (list x == lists) as (λ b. (not b && true) ≡ not b) [ true ↦ refl | false ↦ refl ]
  by_value false (Some x) is = absurd (cc)

  -- a map's names that weren't told since are those that it says
  has_unnamed : (m : FinMap name_cmp X) (name : List ℕ) → has name (unnamed_in list lists m) ≡ not (is_named list lists (fin.get m name))
  has_unnamed m name =
      any-filter_same (eq_by_cmp name_cmp name) (λ n. not (is_named list lists (fin.get m n))) (not (is_named list lists (fin.get m name)))
      (λ n tie. ap (λ n. not (is_named list lists (fin.get m n))) (sym (same_name name n (equal_of _ tie)))) (fin.keys m)
      ∙ by_value (has name (fin.keys m)) (fin.get m name) (fin.contains_key-keys m name)

  -- in order, the names in slots that weren't told since are those that the map says
  in_order : (s : Slots X) (names : List (List ℕ)) → NamesOnce s → IsPermutation (omitted s) names → IsSorted name_cmp names → names ≡ unnamed_in list lists (map_of s)
  in_order s names once moved sorted =
      same_names names (unnamed_in list lists (map_of s))
      (rising names sorted (IsDistinct-IsPermutation (eq_by_cmp name_cmp) (eq_by_cmp_equiv nat_list_cmp_total).symm (omitted s) names moved (distinct s once)))
      (IsStrictlySortedBy-filter name_cmp (λ name. not (is_named list lists (fin.get (map_of s) name))) (fin.keys (map_of s)) (names_rise (fin.entries (map_of s)) (entries_sorted (map_of s))))
      (λ name. sym (list_any-IsPermutation (eq_by_cmp name_cmp name) (omitted s) names moved) ∙ has_omitted s name once
      ∙ ap (λ o. not (is_named list lists o)) (sym (fin.get-from_entries nat_list_cmp_total (filled s) name)) ∙ sym (has_unnamed (map_of s) name))

  -- so are those of all slots up to the last that isn't free, once they are in order
  pub all_in_order : (s now : Slots X) (room i : ℕ) (names sorted : List (List ℕ)) → NamesOnce now → with_free s room ≡ now → length s ≤ i → names ≡ omitted (take i s) → IsPermutation names sorted → IsSorted name_cmp sorted → sorted ≡ unnamed_in list lists (map_of now)
  all_in_order s now room i names sorted once is all so_far moved up =
      let each : names ≡ omitted now = so_far ∙ ap omitted (take_all i s all) ∙ sym (free s (room - length s)) ∙ ap omitted is in
      in_order now sorted once (subst (λ ns. IsPermutation ns sorted) each moved) up
