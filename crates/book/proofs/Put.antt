-- What `put` and `find` of a finite map do to a list of keyed items, by the place of the key.
use Rattle.std.proofs.Common.{◌≡◌, ℕ, zero, suc, ◌<◌, ◌≤◌, Bool, true, false, cond, ◌&&◌, List, [], ◌∷◌, map, length, get_or, set, None, Some, is_some, refl, sym, ap, ◌∙◌, arith}
use Rattle.std.specs.declared.cmp.Ordering.{Ordering}
use Rattle.std.specs.declared.cmp.Ordering.TheVariants.{Less, Equal, Greater}
use Rattle.std.specs.Ordering.{is_lt, is_eq, ordering_reverse, ordering_index, eq_by_cmp}
use Rattle.std.specs.Cmp.{IsTotalOrder, tied_itself}
use Rattle.std.specs.List.{insert, remove}
use Rattle.std.specs.FinMap.{find, put, is_sorted}
use Rattle.std.specs.FinMap.Entries.{by_order, below_all}

-- both parts of a test that passes
pub both_true : (a b : Bool) → (a && b) ≡ true → (a ≡ true) × (b ≡ true)
both_true true b h = (refl, h)
both_true false b h = absurd (cc)

-- an order that tests as less is Less
pub less_of : (r : Ordering) → is_lt r ≡ true → r ≡ Less
less_of Less h = refl
less_of Equal h = absurd (cc)
less_of Greater h = absurd (cc)

-- an order that tests as equal is Equal
pub equal_of : (r : Ordering) → is_eq r ≡ true → r ≡ Equal
equal_of Less h = absurd (cc)
equal_of Equal h = refl
equal_of Greater h = absurd (cc)

-- an order's index is 0, 1 or 2
at_most_two : (r : Ordering) → ordering_index r ≤ 2
at_most_two Less = omega arith
at_most_two Equal = omega arith
at_most_two Greater = omega arith

module _ {K : Type 0} {R : K → K → Ordering} (o : IsTotalOrder R) where
  -- a smaller key compares no higher
  pub index_rises : (a b k : K) → R a b ≡ Less → ordering_index (R a k) ≤ ordering_index (R b k)
  index_rises a b k less =
      elim (R b k) as (λ r. R b k ≡ r → ordering_index (R a k) ≤ ordering_index r) [
        | Less ↦ λ e. rw (o.trans a b k less e) (omega arith)
        | Equal ↦ λ e. rw (o.antisymm a k ∙ ap ordering_reverse (sym (o.congr b k a e)) ∙ sym (o.antisymm a b) ∙ less) (omega arith)
        | Greater ↦ λ e. at_most_two (R a k)
      ] refl

module _ {K V X : Type 0} {R : K → K → Ordering} (o : IsTotalOrder R) (f : X → K × V) where
  -- what is below all keys is below each
  below_each : (k : K) (xs : List X) → below_all R k (map f xs) ≡ true → (j : ℕ) (d : X) → j < length xs → R k (f (get_or xs j d)).0 ≡ Less
  below_each k [] h j d lt = absurd (omega arith)
  below_each k (y ∷ ys) h zero d lt = less_of _ (both_true _ _ h).0
  below_each k (y ∷ ys) h (suc j) d lt = below_each k ys (both_true _ _ h).1 j d (omega arith)

  -- among rising keys an earlier one is less than a later one
  pub earlier_less : (xs : List X) → is_sorted R (map f xs) ≡ true → (i j : ℕ) (d : X) → i < j → j < length xs → R (f (get_or xs i d)).0 (f (get_or xs j d)).0 ≡ Less
  earlier_less [] h i j d lt in_range = absurd (omega arith)
  earlier_less (y ∷ ys) h i zero d lt in_range = absurd (omega arith)
  earlier_less (y ∷ ys) h zero (suc j) d lt in_range = below_each (f y).0 ys (both_true _ _ h).0 j d (omega arith)
  earlier_less (y ∷ ys) h (suc i) (suc j) d lt in_range = earlier_less ys (both_true _ _ h).1 i j d (omega arith) (omega arith)

  -- a key that is greater than each item before a place, and less than each from it on, is put
  -- there
  pub put_gap : (xs : List X) (at : ℕ) (x : X) → at ≤ length xs
      → ((j : ℕ) (d : X) → 0 ≤ j → j < at → R (f (get_or xs j d)).0 (f x).0 ≡ Less)
      → ((j : ℕ) (d : X) → at ≤ j → j < length xs → R (f (get_or xs j d)).0 (f x).0 ≡ Greater)
      → put R (f x).0 (f x).1 (map f xs) ≡ map f (insert xs at x)
  put_gap [] zero x le before after = refl
  put_gap [] (suc at) x le before after = absurd (omega arith)
  put_gap (y ∷ ys) zero x le before after =
      ap (λ r. by_order r (f x ∷ f y ∷ map f ys) (((f y).0, (f x).1) ∷ map f ys) (f y ∷ put R (f x).0 (f x).1 (map f ys)))
      (o.antisymm (f x).0 (f y).0 ∙ ap ordering_reverse (after 0 y (omega arith) (omega arith)))
  put_gap (y ∷ ys) (suc at) x le before after =
      ap (λ r. by_order r (f x ∷ f y ∷ map f ys) (((f y).0, (f x).1) ∷ map f ys) (f y ∷ put R (f x).0 (f x).1 (map f ys)))
      (o.antisymm (f x).0 (f y).0 ∙ ap ordering_reverse (before 0 y (omega arith) (omega arith)))
      ∙ ap (λ l. f y ∷ l) (put_gap ys at x (omega arith) (λ j d low lt. before (suc j) d (omega arith) (omega arith)) (λ j d low lt. after (suc j) d (omega arith) (omega arith)))

  -- a key that an item has is put in its place
  pub put_here : (xs : List X) (at : ℕ) (x : X) → is_sorted R (map f xs) ≡ true → at < length xs → ((d : X) → (f (get_or xs at d)).0 ≡ (f x).0)
      → put R (f x).0 (f x).1 (map f xs) ≡ map f (set xs at x)
  put_here [] at x sorted lt same = absurd (omega arith)
  put_here (y ∷ ys) zero x sorted lt same =
      ap (λ r. by_order r (f x ∷ f y ∷ map f ys) (((f y).0, (f x).1) ∷ map f ys) (f y ∷ put R (f x).0 (f x).1 (map f ys)))
      (ap (λ k. R k (f y).0) (sym (same y)) ∙ tied_itself o (f y).0)
      ∙ ap (λ k. (k, (f x).1) ∷ map f ys) (same y)
  put_here (y ∷ ys) (suc at) x sorted lt same =
      ap (λ r. by_order r (f x ∷ f y ∷ map f ys) (((f y).0, (f x).1) ∷ map f ys) (f y ∷ put R (f x).0 (f x).1 (map f ys)))
      (o.antisymm (f x).0 (f y).0 ∙ ap ordering_reverse (ap (R (f y).0) (sym (same y)) ∙ below_each (f y).0 ys (both_true _ _ sorted).0 at y (omega arith)))
      ∙ ap (λ l. f y ∷ l) (put_here ys at x (both_true _ _ sorted).1 (omega arith) same)

  -- a key that no item has is not found
  pub find_absent : (xs : List X) (k : K) → ((j : ℕ) (d : X) → j < length xs → is_eq (R k (f (get_or xs j d)).0) ≡ false) → is_some (find R k (map f xs)) ≡ false
  find_absent [] k none = refl
  find_absent (y ∷ ys) k none =
      ap (λ b. is_some (cond b (Some (f y).1) (find R k (map f ys)))) (none 0 y (omega arith))
      ∙ find_absent ys k (λ j d lt. none (suc j) d (omega arith))

  -- a key that an item has is found
  pub find_here : (xs : List X) (at : ℕ) (k : K) → at < length xs → ((d : X) → (f (get_or xs at d)).0 ≡ k) → is_some (find R k (map f xs)) ≡ true
  find_here [] at k lt same = absurd (omega arith)
  find_here (y ∷ ys) zero k lt same = ap (λ r. is_some (cond (is_eq r) (Some (f y).1) (find R k (map f ys)))) (ap (λ q. R q (f y).0) (sym (same y)) ∙ tied_itself o (f y).0)
  find_here (y ∷ ys) (suc at) k lt same =
      elim (eq_by_cmp R k (f y).0) as (λ b. is_some (cond b (Some (f y).1) (find R k (map f ys))) ≡ true) [ true ↦ refl | false ↦ find_here ys at k (omega arith) same ]

  -- a key that an item has is found there
  pub find_at : (xs : List X) (at : ℕ) (k : K) (d : X) → is_sorted R (map f xs) ≡ true → at < length xs → (f (get_or xs at d)).0 ≡ k → find R k (map f xs) ≡ Some (f (get_or xs at d)).1
  find_at [] at k d sorted lt same = absurd (omega arith)
  find_at (y ∷ ys) zero k d sorted lt same =
      ap (λ b. cond b (Some (f y).1) (find R k (map f ys))) (ap (λ q. is_eq (R q (f y).0)) (sym same) ∙ ap is_eq (tied_itself o (f y).0))
  find_at (y ∷ ys) (suc at) k d sorted lt same =
      let less : R (f y).0 k ≡ Less = ap (R (f y).0) (sym same) ∙ below_each (f y).0 ys (both_true _ _ sorted).0 at d (omega arith) in
      ap (λ r. cond (is_eq r) (Some (f y).1) (find R k (map f ys))) (o.antisymm k (f y).0 ∙ ap ordering_reverse less)
      ∙ find_at ys at k d (both_true _ _ sorted).1 (omega arith) same

  -- a key below all is equal to none
  find_below_all : (xs : List X) (k : K) → below_all R k (map f xs) ≡ true → find R k (map f xs) ≡ None
  find_below_all [] k h = refl
  find_below_all (y ∷ ys) k h =
      ap (λ r. cond (is_eq r) (Some (f y).1) (find R k (map f ys))) (less_of _ (both_true _ _ h).0) ∙ find_below_all ys k (both_true _ _ h).1

  -- and so is one that ties with it
  find_tied_below : (xs : List X) (k q : K) → R q k ≡ Equal → below_all R k (map f xs) ≡ true → find R q (map f xs) ≡ None
  find_tied_below [] k q tie h = refl
  find_tied_below (y ∷ ys) k q tie h =
      ap (λ r. cond (is_eq r) (Some (f y).1) (find R q (map f ys))) (o.congr q k (f y).0 tie ∙ less_of _ (both_true _ _ h).0) ∙ find_tied_below ys k q tie (both_true _ _ h).1

  -- what is below all is below all but one
  below_fewer : (xs : List X) (at : ℕ) (k : K) → below_all R k (map f xs) ≡ true → below_all R k (map f (remove xs at)) ≡ true
  below_fewer [] zero k h = refl
  below_fewer [] (suc at) k h = refl
  below_fewer (y ∷ ys) zero k h = (both_true _ _ h).1
  below_fewer (y ∷ ys) (suc at) k h = ap (λ b. b && below_all R k (map f (remove ys at))) (both_true _ _ h).0 ∙ below_fewer ys at k (both_true _ _ h).1

  -- keys that rise do so without one of them
  pub sorted_fewer : (xs : List X) (at : ℕ) → is_sorted R (map f xs) ≡ true → is_sorted R (map f (remove xs at)) ≡ true
  sorted_fewer [] zero h = refl
  sorted_fewer [] (suc at) h = refl
  sorted_fewer (y ∷ ys) zero h = (both_true _ _ h).1
  sorted_fewer (y ∷ ys) (suc at) h =
      ap (λ b. b && is_sorted R (map f (remove ys at))) (below_fewer ys at (f y).0 (both_true _ _ h).0) ∙ sorted_fewer ys at (both_true _ _ h).1

  -- what is found once an item is taken out: all but its key
  pub find_fewer : (xs : List X) (at : ℕ) (k q : K) → is_sorted R (map f xs) ≡ true → at < length xs → ((d : X) → (f (get_or xs at d)).0 ≡ k)
      → find R q (map f (remove xs at)) ≡ cond (eq_by_cmp R q k) None (find R q (map f xs))
  find_fewer [] at k q sorted lt same = absurd (omega arith)
  find_fewer (y ∷ ys) zero k q sorted lt same = here (R q (f y).0) refl ∙ ap (λ n. cond (eq_by_cmp R q n) None (find R q (map f (y ∷ ys)))) (same y)
    where
      here : (r : Ordering) → R q (f y).0 ≡ r → find R q (map f ys) ≡ cond (is_eq (R q (f y).0)) None (cond (is_eq (R q (f y).0)) (Some (f y).1) (find R q (map f ys)))
      here Less e = rw e refl
      here Equal e = rw e (find_tied_below ys (f y).0 q e (both_true _ _ sorted).0)
      here Greater e = rw e refl
  find_fewer (y ∷ ys) (suc at) k q sorted lt same =
      ap (λ r. cond (is_eq (R q (f y).0)) (Some (f y).1) r) (find_fewer ys at k q (both_true _ _ sorted).1 (omega arith) same)
      ∙ swap (is_eq (R q (f y).0)) (eq_by_cmp R q k) apart
    where
      less : R (f y).0 k ≡ Less
      less = ap (R (f y).0) (sym (same y)) ∙ below_each (f y).0 ys (both_true _ _ sorted).0 at y (omega arith)

      apart : is_eq (R q (f y).0) ≡ true → eq_by_cmp R q k ≡ false
      apart e = ap is_eq (o.congr q (f y).0 k (equal_of (R q (f y).0) e) ∙ less)

      swap : (a b : Bool) → (a ≡ true → b ≡ false) → cond a (Some (f y).1) (cond b None (find R q (map f ys))) ≡ cond b None (cond a (Some (f y).1) (find R q (map f ys)))
      swap true b h = ap (λ c. cond c None (Some (f y).1)) (sym (h refl))
      swap false true h = refl
      swap false false h = refl
