-- Sums over the values of a finite map, and what the totals of nodes are after a change.
use Rattle.std.proofs.Common.{◌≡◌, ℕ, ◌+◌, Bool, true, false, cond, ◌&&◌, List, [], ◌∷◌, length, Option, None, Some, is_some, unwrap_or, sum_by, refl, sym, ap, ◌∙◌, arith}
use Rattle.std.specs.declared.cmp.Ordering.TheVariants.{Less, Equal, Greater}
use Rattle.std.specs.Ordering.{is_lt, is_eq, eq_by_cmp}
use Rattle.std.specs.Option.{option_map}
use Rattle.std.specs.Cmp.Lexicographic.{nat_list_cmp_total, bytes_decides}
use Rattle.std.specs.Map.{values_of}
use Rattle.std.specs.FinMap as fin
use Rattle.std.specs.FinMap.{FinMap, find, put, is_sorted}
use Rattle.std.specs.FinMap.Entries.{by_order, below_all}
use Rattle.std.proofs.lemmas.List.Sums.{sum_by-cons}
use Rattle.book.specs.Cluster.{name_cmp}
use Rattle.book.proofs.Put.{both_true, less_of}
use Rattle.book.proofs.RowLemmas.{same_name, true_of}
use Rattle.book.proofs.TableLemmas.{same_test}

-- a list of length 0 is empty
no_length : {A : Type 0} (xs : List A) → length xs ≡ 0 → xs ≡ []
no_length [] e = refl
no_length (x ∷ xs) e = absurd (omega arith)

-- a number of a value, or 0 where there is none
abbrev pub of_option : {X : Type 0} → (X → ℕ) → Option X → ℕ
of_option number o = unwrap_or (option_map number o) 0

-- what isn't there is None
none_of : {X : Type 0} (o : Option X) → is_some o ≡ false → o ≡ None
none_of None h = refl
none_of (Some x) h = absurd (cc)

-- the empty map has no entries
pub entries_empty : (X : Type 0) → fin.entries (fin.empty {X = X} {R = name_cmp}) ≡ []
entries_empty X = no_length _ (sym (fin.len-entries (fin.empty {X = X} {R = name_cmp})) ∙ fin.len-empty name_cmp X)

module _ {X : Type 0} (number : X → ℕ) where
  -- the numbers of entries, added up
  abbrev pub sum_of : List (List ℕ × X) → ℕ
  sum_of es = sum_by number (values_of es)

  -- a key that is below all others is not found
  find_below : (k : List ℕ) (es : List (List ℕ × X)) → below_all name_cmp k es ≡ true → find name_cmp k es ≡ None
  find_below k [] h = refl
  find_below k (e ∷ es) h =
      ap (λ r. cond (is_eq r) (Some e.1) (find name_cmp k es)) (less_of _ (both_true _ _ h).0) ∙ find_below k es (both_true _ _ h).1

  -- what is less than a key is below all that the key is below
  further_below : (k l : List ℕ) (es : List (List ℕ × X)) → name_cmp k l ≡ Less → below_all name_cmp l es ≡ true → below_all name_cmp k es ≡ true
  further_below k l [] less h = refl
  further_below k l (e ∷ es) less h =
      ap (λ r. is_lt r && below_all name_cmp k es) (nat_list_cmp_total.trans k l e.0 less (less_of _ (both_true _ _ h).0)) ∙ further_below k l es less (both_true _ _ h).1

  -- a put adds the new number and takes the old one off
  sum_put : (k : List ℕ) (v : X) (es : List (List ℕ × X)) → is_sorted name_cmp es ≡ true → sum_of (put name_cmp k v es) + of_option number (find name_cmp k es) ≡ sum_of es + number v
  sum_put k v [] sorted = omega (arith, sum_by-cons number v [])
  sum_put k v (e ∷ es) sorted =
      elim (name_cmp k e.0) as (λ r. name_cmp k e.0 ≡ r → sum_of (by_order r ((k, v) ∷ e ∷ es) ((e.0, v) ∷ es) (e ∷ put name_cmp k v es)) + of_option number (cond (is_eq r) (Some e.1) (find name_cmp k es)) ≡ sum_of (e ∷ es) + number v) [
        | Less ↦ λ less. rw (find_below k es (further_below k e.0 es less (both_true _ _ sorted).0)) (omega (arith, sum_by-cons number v (values_of (e ∷ es)), sum_by-cons number e.1 (values_of es)))
        | Equal ↦ λ same. omega (arith, sum_by-cons number v (values_of es), sum_by-cons number e.1 (values_of es))
        | Greater ↦ λ more. omega (arith, sum_put k v es (both_true _ _ sorted).1, sum_by-cons number e.1 (values_of (put name_cmp k v es)), sum_by-cons number e.1 (values_of es))
      ] refl

  -- a value in a finite map adds its number and takes that of the one before off
  pub sum_insert : (m : FinMap name_cmp X) (k : List ℕ) (v : X) → sum_by number (fin.values (fin.insert m k v)) + of_option number (fin.get m k) ≡ sum_by number (fin.values m) + number v
  sum_insert m k v =
      ap (λ es. sum_of es + of_option number (fin.get m k)) (fin.entries-insert nat_list_cmp_total m k v)
      ∙ ap (λ o. sum_of (put name_cmp k v (fin.entries m)) + of_option number o) (fin.get-entries m k)
      ∙ sum_put k v (fin.entries m) (true_of _ (fin.entries_sorted m))

module _ {X : Type 0} (m : FinMap name_cmp X) (k : List ℕ) where
  -- the same name, by the test of the order
  same_key : (q : List ℕ) → eq_by_cmp name_cmp q k ≡ true → q ≡ k
  same_key q e = (bytes_decides q k).0 (sym (same_test q k) ∙ e)

  -- what was taken out isn't there
  pub get_removed : fin.get (fin.remove m k) k ≡ None
  get_removed = fin.get-remove nat_list_cmp_total m k k ∙ ap (λ b. cond b None (fin.get m k)) (same_test k k ∙ (bytes_decides k k).1 refl)

  -- what isn't there can't be taken out
  pub remove_absent : fin.get m k ≡ None → fin.remove m k ≡ m
  remove_absent none = fin.same_map nat_list_cmp_total same_name _ _ (λ q. fin.get-remove nat_list_cmp_total m k q ∙ by q (eq_by_cmp name_cmp q k) refl)
    where
      by : (q : List ℕ) (b : Bool) → eq_by_cmp name_cmp q k ≡ b → cond b None (fin.get m q) ≡ fin.get m q
      by q true e = sym (ap (fin.get m) (same_key q e) ∙ none)
      by q false e = refl

  -- a value replaces the one that was there
  pub insert_over : (v : X) → fin.insert (fin.remove m k) k v ≡ fin.insert m k v
  insert_over v = fin.same_map nat_list_cmp_total same_name _ _ (λ q.
      fin.get-insert nat_list_cmp_total (fin.remove m k) k v q
      ∙ ap (cond (eq_by_cmp name_cmp q k) (Some v)) (fin.get-remove nat_list_cmp_total m k q)
      ∙ elim (eq_by_cmp name_cmp q k) as (λ b. cond b (Some v) (cond b None (fin.get m q)) ≡ cond b (Some v) (fin.get m q)) [ true ↦ refl | false ↦ refl ]
      ∙ sym (fin.get-insert nat_list_cmp_total m k v q))

  -- to put what is there changes nothing
  pub insert_same : (v : X) → fin.get m k ≡ Some v → fin.insert m k v ≡ m
  insert_same v there = fin.same_map nat_list_cmp_total same_name _ _ (λ q. fin.get-insert nat_list_cmp_total m k v q ∙ by q (eq_by_cmp name_cmp q k) refl)
    where
      by : (q : List ℕ) (b : Bool) → eq_by_cmp name_cmp q k ≡ b → cond b (Some v) (fin.get m q) ≡ fin.get m q
      by q true e = sym (ap (fin.get m) (same_key q e) ∙ there)
      by q false e = refl

  -- a value that is taken out takes its number off
  pub sum_remove : (number : X → ℕ) (v : X) → fin.get m k ≡ Some v → sum_by number (fin.values (fin.remove m k)) + number v ≡ sum_by number (fin.values m)
  sum_remove number v there =
      omega (arith, sum_insert number (fin.remove m k) k v, ap (of_option number) get_removed, ap (λ n. sum_by number (fin.values n)) (insert_over v ∙ insert_same v there))
