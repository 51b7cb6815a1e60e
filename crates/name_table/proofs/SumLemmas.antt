-- Sums over the values of a finite map by name, after a value is put in.
use Rattle.std.proofs.Common.{◌≡◌, ℕ, ◌+◌, true, false, cond, ◌&&◌, Bool, List, [], ◌∷◌, length, Option, None, Some, unwrap_or, sum_by, refl, sym, ap, ◌∙◌, arith}
use Rattle.std.specs.Prelude.{T}
use Rattle.std.specs.declared.cmp.Ordering.{Ordering}
use Rattle.std.specs.declared.cmp.Ordering.TheVariants.{Less, Equal, Greater}
use Rattle.std.specs.Ordering.{is_lt, is_eq}
use Rattle.std.specs.Option.{option_map}
use Rattle.std.specs.Cmp.Lexicographic.{nat_list_cmp_total}
use Rattle.std.specs.Map.{values_of}
use Rattle.std.specs.FinMap as fin
use Rattle.std.specs.FinMap.{FinMap, find, put, is_sorted, slice_cmp-IsAntisymmetric, nat_cmp-IsAntisymmetric}
use Rattle.std.specs.FinMap.Entries.{by_order, below_all}
use Rattle.std.proofs.lemmas.List.Sums.{sum_by-cons}
use Rattle.name_table.specs.Slots.{name_cmp}

-- only equal names tie
pub same_name : (a b : List ℕ) → name_cmp a b ≡ Equal → a ≡ b
same_name a b e = slice_cmp-IsAntisymmetric nat_cmp-IsAntisymmetric a b e

-- both parts of a test that passes
both_true : (a b : Bool) → (a && b) ≡ true → (a ≡ true) × (b ≡ true)
both_true true b h = (refl, h)
both_true false b h = absurd (cc)

-- a test that holds is true
true_of : (b : Bool) → T b → b ≡ true
true_of true h = refl
true_of false h = absurd h

-- an order that tests as less is Less
less_of : (r : Ordering) → is_lt r ≡ true → r ≡ Less
less_of Less h = refl
less_of Equal h = absurd (cc)
less_of Greater h = absurd (cc)

-- a list of length 0 is empty
no_length : {A : Type 0} (xs : List A) → length xs ≡ 0 → xs ≡ []
no_length [] e = refl
no_length (x ∷ xs) e = absurd (omega arith)

-- a number of a value, or 0 where there is none
abbrev pub of_option : {X : Type 0} → (X → ℕ) → Option X → ℕ
of_option number o = unwrap_or (option_map number o) 0

-- the empty map has no entries
pub entries_empty : (X : Type 0) → fin.entries (fin.empty {X = X} {R = name_cmp}) ≡ []
entries_empty X = no_length _ (sym (fin.len-entries (fin.empty {X = X} {R = name_cmp})) ∙ fin.len-empty name_cmp X)

module _ {X : Type 0} (number : X → ℕ) where
  -- the numbers of entries, added up
  abbrev sum_of : List (List ℕ × X) → ℕ
  sum_of es = sum_by number (values_of es)

  -- a key that is below all others is not found
  find_below : (k : List ℕ) (es : List (List ℕ × X)) → below_all name_cmp k es ≡ true → find name_cmp k es ≡ None
  find_below k [] h = refl
  find_below k (e ∷ es) h =
      ap (λ r. cond (is_eq r) (Some e.1) (find name_cmp k es)) (less_of _ (both_true _ _ h).0) ∙ find_below k es (both_true _ _ h).1

  -- what is less than a key is below all that the key is below
  further_below : (k l : List ℕ) (es : List (List ℕ × X)) → name_cmp k l ≡ Less → below_all name_cmp l es ≡ true → below_all name_cmp k es ≡ true
  further_below k l [] less h = refl
  further_below k l (e ∷ es) less h =
      ap (λ r. is_lt r && below_all name_cmp k es) (nat_list_cmp_total.trans k l e.0 less (less_of _ (both_true _ _ h).0)) ∙ further_below k l es less (both_true _ _ h).1

  -- a put adds the new number and takes the old one off
  sum_put : (k : List ℕ) (v : X) (es : List (List ℕ × X)) → is_sorted name_cmp es ≡ true → sum_of (put name_cmp k v es) + of_option number (find name_cmp k es) ≡ sum_of es + number v
  sum_put k v [] sorted = omega (arith, sum_by-cons number v [])
  sum_put k v (e ∷ es) sorted =
      elim (name_cmp k e.0) as (λ r. name_cmp k e.0 ≡ r → sum_of (by_order r ((k, v) ∷ e ∷ es) ((e.0, v) ∷ es) (e ∷ put name_cmp k v es)) + of_option number (cond (is_eq r) (Some e.1) (find name_cmp k es)) ≡ sum_of (e ∷ es) + number v) [
        | Less ↦ λ less. rw (find_below k es (further_below k e.0 es less (both_true _ _ sorted).0)) (omega (arith, sum_by-cons number v (values_of (e ∷ es)), sum_by-cons number e.1 (values_of es)))
        | Equal ↦ λ same. omega (arith, sum_by-cons number v (values_of es), sum_by-cons number e.1 (values_of es))
        | Greater ↦ λ more. omega (arith, sum_put k v es (both_true _ _ sorted).1, sum_by-cons number e.1 (values_of (put name_cmp k v es)), sum_by-cons number e.1 (values_of es))
      ] refl

  -- a value in a finite map adds its number and takes that of the one before off
  pub sum_insert : (m : FinMap name_cmp X) (k : List ℕ) (v : X) → sum_by number (fin.values (fin.insert m k v)) + of_option number (fin.get m k) ≡ sum_by number (fin.values m) + number v
  sum_insert m k v =
      ap (λ es. sum_of es + of_option number (fin.get m k)) (fin.entries-insert nat_list_cmp_total m k v)
      ∙ ap (λ o. sum_of (put name_cmp k v (fin.entries m)) + of_option number o) (fin.get-entries m k)
      ∙ sum_put k v (fin.entries m) (true_of _ (fin.entries_sorted m))
