-- What each chain is after a slot is taken out of one, or put first in one.
use Rattle.std.proofs.Common.{◌≡◌, ℕ, zero, suc, ◌+◌, ◌<◌, ◌≤◌, Bool, cond, List, [], ◌∷◌, ◌++◌, length, get_or, set, replicate, refl, sym, ap, subst, ◌∙◌, inl, inr, arith, get_or-set_same, get_or-set_other}
use Rattle.std.proofs.Math.Dec.{eqb}
use Rattle.std.proofs.lemmas.List.{length-set, get_or-replicate, get_or_past, length-replicate}
use Rattle.std.proofs.lemmas.Bool.{eq-eqb, ne_eqb, cases_lt, cases_eq}
use Rattle.std.specs.List.{range_with_len}
use Rattle.name_table.specs.inside.Woven.{nowhere, IsSpelled, times, IsAllOf, chain, Ends}
use Rattle.name_table.proofs.ChainLemmas.{settle, spelled_outside, spelled_without, times_here, times_other, times_append, ends_step}

-- a test as a number
abbrev pub one_where : ℕ → ℕ → ℕ
one_where h k = cond (eqb h k) 1 0

-- it is 1 at equal numbers
pub one_at : (h k : ℕ) → h ≡ k → one_where h k ≡ 1
one_at h k e = ap (λ (b : Bool). cond {A = ℕ} b 1 0) (eq-eqb h k e)

-- and 0 at others
none_at : (h k : ℕ) → (h ≡ k → ⊥) → one_where h k ≡ 0
none_at h k ne = ap (λ (b : Bool). cond {A = ℕ} b 1 0) (ne_eqb h k ne)

-- what is there at all has the home
pub home_there : (homes : List ℕ) (a p : ℕ) (xs : List ℕ) → IsAllOf homes a xs → 0 < times p xs → get_or homes p nowhere ≡ a
home_there homes a p xs all some =
    elim (cases_eq (get_or homes p nowhere) a) [
      | inl e ↦ e
      | inr ne ↦ absurd (omega (arith, all p, none_at (get_or homes p nowhere) a ne))
    ]

-- and is nowhere else
elsewhere : (homes : List ℕ) (a k p : ℕ) (xs : List ℕ) → IsAllOf homes k xs → get_or homes p nowhere ≡ a → (a ≡ k → ⊥) → times p xs ≡ 0
elsewhere homes a k p xs all home ne = all p ∙ none_at (get_or homes p nowhere) k (λ e. ne (sym home ∙ e))

-- all of a home, after the home of one changed
all_moved : (homes : List ℕ) (x a k : ℕ) (xs ys : List ℕ) → x < length homes → IsAllOf homes k xs → times x ys ≡ one_where a k → ((i : ℕ) → (i ≡ x → ⊥) → times i ys ≡ times i xs) → IsAllOf (set homes x a) k ys
all_moved homes x a k xs ys lt all here others i =
    elim (cases_eq i x) [
      | inl e ↦ ap (λ j. times j ys) e ∙ here ∙ ap (λ (h : ℕ). one_where h k) (sym (ap (λ j. get_or (set homes x a) j nowhere) e ∙ get_or-set_same homes x a nowhere lt))
      | inr ne ↦ others i ne ∙ all i ∙ ap (λ (h : ℕ). one_where h k) (sym (get_or-set_other homes x i a nowhere ne))
    ]

-- a chain that ends and has all of its home
abbrev pub IsKept : List ℕ → List ℕ → ℕ → ℕ → Type 0
IsKept links homes k s = Ends links s × IsAllOf homes k (chain links s)

-- each chain does
abbrev pub AreKept : List ℕ → List ℕ → List ℕ → Type 0
AreKept heads links homes = (k : ℕ) → k < length heads → IsKept links homes k (get_or heads k 0)

module _ (heads links homes : List ℕ) (x a : ℕ) (same : length homes ≡ length links) (a_slot : x < length homes) (a_chain : a < length heads) (few : length heads < nowhere) (kept : AreKept heads links homes) where
  -- a chain that begins with another head
  at_head : (heads' links' homes' : List ℕ) (k s : ℕ) → get_or heads' k 0 ≡ s → IsKept links' homes' k s → IsKept links' homes' k (get_or heads' k 0)
  at_head heads' links' homes' k s e h = subst (IsKept links' homes' k) (sym e) h

  -- a slot that hangs nowhere is put first
  pub hooked : get_or homes x nowhere ≡ nowhere → AreKept (set heads a x) (set links x (get_or heads a 0)) (set homes x a)
  unfolding Ends
  hooked loose k k_lt =
      let w = get_or heads a 0 in
      let lt : k < length heads = omega (arith, length-set heads a x) in
      let s = get_or heads k 0 in
      let old = kept k lt in
      let out : times x (chain links s) ≡ 0 = elsewhere homes nowhere k x (chain links s) old.1 loose (λ e. omega arith) in
      let outside : IsSpelled (set links x w) s (chain links s) = spelled_outside links x w s (chain links s) out old.0 in
      elim (cases_eq k a) [
        | inl e ↦
            let within : x < length links = omega arith in
            let here : get_or (set heads a x) k 0 ≡ x = ap (λ j. get_or (set heads a x) j 0) e ∙ get_or-set_same heads a x 0 a_chain in
            let first : IsSpelled (set links x w) x (x ∷ chain links s) = (
              refl,
              omega (arith, length-set links x w),
              subst (λ t. IsSpelled (set links x w) t (chain links s)) (ap (λ j. get_or heads j 0) e ∙ sym (get_or-set_same links x w 0 within)) outside,
            ) in
            at_head (set heads a x) (set links x w) (set homes x a) k x here
            (
            settle (set links x w) (set homes x a) x k (x ∷ chain links s) first
            (
            all_moved homes x a k (chain links s) (x ∷ chain links s) a_slot old.1
            (omega (arith, times_here x x (chain links s) refl, out, one_at a k (sym e)))
            (λ i ne. times_other i x (chain links s) ne)
            )
            )
        | inr ne ↦
            at_head (set heads a x) (set links x w) (set homes x a) k s (get_or-set_other heads a k x 0 ne)
            (
            settle (set links x w) (set homes x a) s k (chain links s) outside
            (all_moved homes x a k (chain links s) (chain links s) a_slot old.1 (out ∙ sym (none_at a k (λ e. ne (sym e)))) (λ i other. refl))
            )
      ]

  module _ (home : get_or homes x nowhere ≡ a) where
    -- it stands in its home's chain
    pub there : times x (chain links (get_or heads a 0)) ≡ 1
    there = (kept a a_chain).1 x ∙ one_at (get_or homes x nowhere) a home

    -- the first slot of a chain is taken out
    pub unhooked_first : get_or heads a 0 ≡ x → AreKept (set heads a (get_or links x 0)) links (set homes x nowhere)
    unfolding Ends
    unhooked_first first k k_lt =
        let w = get_or links x 0 in
        let lt : k < length heads = omega (arith, length-set heads a w) in
        let s = get_or heads k 0 in
        let old = kept k lt in
        elim (cases_eq k a) [
          | inl e ↦
              let here : get_or (set heads a w) k 0 ≡ w = ap (λ j. get_or (set heads a w) j 0) e ∙ get_or-set_same heads a w 0 a_chain in
              let at : s ≡ x = ap (λ j. get_or heads j 0) e ∙ first in
              let old_x : IsKept links homes k x = subst (IsKept links homes k) at old in
              let step = ends_step links x old_x.0 (let within : x < length links = omega arith in within) in
              let one : times x (chain links x) ≡ 1 = old_x.1 x ∙ one_at (get_or homes x nowhere) k (home ∙ sym e) in
              let split : times x (chain links x) ≡ 1 + times x (chain links w) = ap (times x) step.1 ∙ times_here x x (chain links w) refl in
              at_head (set heads a w) links (set homes x nowhere) k w here
              (
              settle links (set homes x nowhere) w k (chain links w) step.0
              (
              all_moved homes x nowhere k (chain links x) (chain links w) a_slot old_x.1
              (omega (arith, one, split, none_at nowhere k (λ f. omega arith)))
              (λ i ne. sym (ap (times i) step.1 ∙ times_other i x (chain links w) ne))
              )
              )
          | inr ne ↦
              let out : times x (chain links s) ≡ 0 = elsewhere homes a k x (chain links s) old.1 home (λ e. ne (sym e)) in
              at_head (set heads a w) links (set homes x nowhere) k s (get_or-set_other heads a k w 0 ne)
              (
              settle links (set homes x nowhere) s k (chain links s) old.0
              (all_moved homes x nowhere k (chain links s) (chain links s) a_slot old.1 (out ∙ sym (none_at nowhere k (λ f. omega arith))) (λ i other. refl))
              )
        ]

    -- a later slot is taken out
    pub unhooked_later : (p : ℕ) (front back : List ℕ) → chain links (get_or heads a 0) ≡ front ++ p ∷ x ∷ back → AreKept heads (set links p (get_or links x 0)) (set homes x nowhere)
    unfolding Ends
    unhooked_later p front back split k lt =
        let w = get_or links x 0 in
        let s = get_or heads k 0 in
        let old = kept k lt in
        let all_a : IsAllOf homes a (front ++ p ∷ x ∷ back) = subst (IsAllOf homes a) split (kept a a_chain).1 in
        let among : times p (front ++ p ∷ x ∷ back) ≡ times p front + (1 + times p (x ∷ back)) = times_append p front (p ∷ x ∷ back) ∙ ap (λ (n : ℕ). times p front + n) (times_here p p (x ∷ back) refl) in
        let home_p : get_or homes p nowhere ≡ a = home_there homes a p (front ++ p ∷ x ∷ back) all_a (omega (arith, among)) in
        elim (cases_eq k a) [
          | inl e ↦
              let all_k : IsAllOf homes k (front ++ p ∷ x ∷ back) = subst (λ j. IsAllOf homes j (front ++ p ∷ x ∷ back)) (sym e) all_a in
              let spelled : IsSpelled links s (front ++ p ∷ x ∷ back) = subst (IsSpelled links s) (ap (λ j. chain links (get_or heads j 0)) e ∙ split) old.0 in
              let once : times p (front ++ p ∷ x ∷ back) ≡ 1 = all_a p ∙ one_at (get_or homes p nowhere) a home_p in
              let one : times x (front ++ p ∷ x ∷ back) ≡ 1 = all_a x ∙ one_at (get_or homes x nowhere) a home in
              settle (set links p w) (set homes x nowhere) s k (front ++ p ∷ back) (spelled_without links p x s front back (omega arith) spelled)
              (
              all_moved homes x nowhere k (front ++ p ∷ x ∷ back) (front ++ p ∷ back) a_slot all_k
              (omega (arith, one, times_append x front (p ∷ x ∷ back), times_append x front (p ∷ back), times_here x x back refl, none_at nowhere k (λ f. omega arith)))
              (λ i ne. omega (arith, times_append i front (p ∷ x ∷ back), times_append i front (p ∷ back), times_other i x back ne))
              )
          | inr ne ↦
              let turned : a ≡ k → ⊥ = λ e. ne (sym e) in
              settle (set links p w) (set homes x nowhere) s k (chain links s) (spelled_outside links p w s (chain links s) (elsewhere homes a k p (chain links s) old.1 home_p turned) old.0)
              (all_moved homes x nowhere k (chain links s) (chain links s) a_slot old.1 (elsewhere homes a k x (chain links s) old.1 home turned ∙ sym (none_at nowhere k (λ f. omega arith))) (λ i other. refl))
        ]

-- links that rise by one spell all numbers up to the last
spelled_row : (links : List ℕ) (s m : ℕ) → s + m ≡ length links → ((k : ℕ) → k < length links → get_or links k 0 ≡ k + 1) → IsSpelled links s (range_with_len s m)
spelled_row links s zero e each = omega arith
spelled_row links s (suc m) e each =
    let lt : s < length links = omega arith in
    (refl, lt, subst (λ t. IsSpelled links t (range_with_len (s + 1) m)) (sym (each s lt)) (spelled_row links (s + 1) m (omega arith) each))

-- a number before a row isn't in it
row_before : (i s m : ℕ) → i < s → times i (range_with_len s m) ≡ 0
row_before i s zero lt = refl
row_before i s (suc m) lt = times_other i s (range_with_len (s + 1) m) (λ e. omega arith) ∙ row_before i (s + 1) m (omega arith)

-- one after it neither
row_after : (i s m : ℕ) → s + m ≤ i → times i (range_with_len s m) ≡ 0
row_after i s zero le = refl
row_after i s (suc m) le = times_other i s (range_with_len (s + 1) m) (λ e. omega arith) ∙ row_after i (s + 1) m (omega arith)

-- and one within stands once
row_within : (i s m : ℕ) → s ≤ i → i < s + m → times i (range_with_len s m) ≡ 1
row_within i s zero le lt = absurd (omega arith)
row_within i s (suc m) le lt =
    elim (cases_eq i s) [
      | inl e ↦ omega (arith, times_here i s (range_with_len (s + 1) m) e, row_before i (s + 1) m (omega arith))
      | inr ne ↦ times_other i s (range_with_len (s + 1) m) ne ∙ row_within i (s + 1) m (omega arith) (omega arith)
    ]

-- all slots in one chain, and the others empty
pub all_free : (heads links : List ℕ) (n b : ℕ) → length links ≡ n → b < nowhere → length heads ≡ b + 1 → ((k : ℕ) → k < n → get_or links k 0 ≡ k + 1) → get_or heads b 0 ≡ 0 → ((k : ℕ) → k < b → get_or heads k 0 ≡ n) → AreKept heads links (replicate n b)
all_free heads links n b long few_b many each last others k k_lt =
    let homes = replicate n b in
    let past : (i : ℕ) → n ≤ i → get_or homes i nowhere ≡ nowhere = λ i le. get_or_past homes i nowhere (omega (arith, length-replicate n b)) in
    elim (cases_eq k b) [
      | inl e ↦
          subst (IsKept links homes k) (sym (ap (λ j. get_or heads j 0) e ∙ last))
          (
          settle links homes 0 k (range_with_len 0 n) (spelled_row links 0 n (omega arith) (λ j lt. each j (omega arith)))
          (λ i. elim (cases_lt i n) [
            | inl lt ↦ row_within i 0 n (omega arith) (omega arith) ∙ sym (one_at (get_or homes i nowhere) k (get_or-replicate n i b nowhere lt ∙ sym e))
            | inr le ↦ row_after i 0 n (omega arith) ∙ sym (none_at (get_or homes i nowhere) k (λ f. let p = past i le in omega arith))
          ])
          )
      | inr ne ↦
          subst (IsKept links homes k) (sym (others k (omega arith)))
          (
          settle links homes n k [] (omega arith)
          (λ i. elim (cases_lt i n) [
            | inl lt ↦ sym (none_at (get_or homes i nowhere) k (λ f. ne (sym f ∙ get_or-replicate n i b nowhere lt)))
            | inr le ↦ sym (none_at (get_or homes i nowhere) k (λ f. let p = past i le in omega arith))
          ])
          )
    ]
