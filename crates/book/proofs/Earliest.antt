-- The earliest moment of each block, kept while one moment changes.
use Rattle.std.proofs.Common.{◌≡◌, ℕ, ◌+◌, ◌*◌, ◌/◌, ◌%◌, ◌<◌, ◌≤◌, List, length, get_or, set, replicate, inl, inr, ap, subst, ◌∙◌, arith}
use Rattle.std.proofs.lemmas.Bool.{cases_eq, cases_lt}
use Rattle.std.proofs.lemmas.List.{get_or-set_same, get_or-set_other, get_or_read, get_or-replicate, length-replicate, length-set, set-set, set-get_or}
use Rattle.quant.specs.declared.limits.TheConstants.{MAX_PLACED}
use Rattle.book.specs.inside.Finishes.{IsEarliest}

module _ (each earliest : List ℕ) (at before : ℕ) (here : at < length each) (kept : IsEarliest (set each at before) earliest) where
  as_long : length (set each at before) ≡ length each
  as_long = length-set each at before

  -- what is known of another moment
  low_of : (i : ℕ) → i < length each → (i ≡ at → ⊥) → get_or earliest (i / 64) 0 ≤ get_or each i 0
  low_of i h n =
      let low : get_or earliest (i / 64) 0 ≤ get_or (set each at before) i 0 = kept.low i (omega (arith, as_long)) in
      omega (arith, low, get_or-set_other each at i before 0 n)

  -- its block has this one from now on, which is no later than any of the block
  pub earliest_set : (new : ℕ) → ((i : ℕ) → i < length each → i / 64 ≡ at / 64 → new ≤ get_or each i 0) → IsEarliest each (set earliest (at / 64) new)
  earliest_set new least = record {
    few = omega (arith, kept.few, as_long);
    many = omega (arith, kept.many, as_long, length-set earliest (at / 64) new);
    low = λ i h. elim (cases_eq (i / 64) (at / 64)) [
      | inl e ↦ (
          let many : length (set each at before) < length earliest * 64 = kept.many in
          let block : at / 64 < length earliest = omega (arith, as_long) in
          let now : get_or (set earliest (at / 64) new) (i / 64) 0 ≡ new = rw e (get_or-set_same earliest (at / 64) new 0 block) in
          omega (arith, now, least i h e))
      | inr n ↦ (
          let other : get_or (set earliest (at / 64) new) (i / 64) 0 ≡ get_or earliest (i / 64) 0 = get_or-set_other earliest (at / 64) (i / 64) new 0 n in
          omega (arith, other, low_of i h (λ e. n (ap (λ x. x / 64) e))))
    ];
  }

  -- the earliest of the block, as it was read
  read : (x : ℕ) → x ≡ get_or earliest (at / 64) x → x ≡ get_or earliest (at / 64) 0
  read x e =
      let many : length (set each at before) < length earliest * 64 = kept.many in
      get_or_read earliest (at / 64) x (omega (arith, as_long)) e 0

  -- a moment that is no later than the earliest of its block
  pub lowered : (x : ℕ) → x ≡ get_or earliest (at / 64) x → get_or each at 0 ≤ x → IsEarliest each (set earliest (at / 64) (get_or each at 0))
  lowered x e no_later = earliest_set (get_or each at 0) (λ i h same. elim (cases_eq i at) [
    | inl is ↦ (let one : get_or each i 0 ≡ get_or each at 0 = ap (λ k. get_or each k 0) is in omega arith)
    | inr n ↦ (
        let low : get_or earliest (at / 64) 0 ≤ get_or each i 0 = rw (← same) (low_of i h n) in
        omega (arith, low, read x e))
  ])

  -- one that isn't, where the earliest is another's
  pub still : (x : ℕ) → x ≡ get_or earliest (at / 64) x → x < get_or each at 0 → IsEarliest each earliest
  still x e later = record {
    few = omega (arith, kept.few, as_long);
    many = omega (arith, kept.many, as_long);
    low = λ i h. elim (cases_eq i at) [
      | inl is ↦ (let low : get_or earliest (at / 64) 0 ≤ get_or each at 0 = omega (arith, read x e) in rw is low)
      | inr n ↦ low_of i h n
    ];
  }

-- the block's own earliest is all that changes
pub but_one : (l : List ℕ) (i x : ℕ) → set (set l i x) i (get_or l i 0) ≡ l
but_one l i x = set-set l i x (get_or l i 0) ∙ set-get_or l i 0

-- where all are the same none is earlier
pub all_alike : (each earliest : List ℕ) (n m at : ℕ) → each ≡ replicate n at → earliest ≡ replicate m at → n ≤ MAX_PLACED → n < m * 64 → IsEarliest each earliest
all_alike each earliest n m at e b few many =
    let as_many : length each ≡ n = ap length e ∙ length-replicate n at in
    let blocks : length earliest ≡ m = ap length b ∙ length-replicate m at in
    record {
      few = omega (arith, as_many, few);
      many = omega (arith, as_many, blocks, many);
      low = λ i h. (
          let this : get_or each i 0 ≡ at = ap (λ l. get_or l i 0) e ∙ get_or-replicate n i at 0 (omega arith) in
          let kept : get_or earliest (i / 64) 0 ≡ at = ap (λ l. get_or l (i / 64) 0) b ∙ get_or-replicate m (i / 64) at 0 (omega arith) in
          omega arith);
    }

-- ---- a search for moments up to a limit

-- all that a search has passed is later, and so is what it passes next
pub late_more : (each self : List ℕ) (limit from slot n : ℕ) → each ≡ self → ((i : ℕ) → from ≤ i → i < slot → i < length self → limit < get_or self i 0)
    → ((i : ℕ) → slot ≤ i → i < slot + n → i < length each → limit < get_or each i 0)
    → (i : ℕ) → from ≤ i → i < slot + n → i < length self → limit < get_or self i 0
late_more each self limit from slot n is late more i on to h = elim (cases_lt i slot) [
  | inl before ↦ late i on before h
  | inr next ↦ subst (λ l. limit < get_or l i 0) is (more i next to (rw is h))
]

-- one moment is later
pub one_later : (each : List ℕ) (limit at x : ℕ) → at < length each → x ≡ get_or each at x → limit < x
    → (i : ℕ) → at ≤ i → i < at + 1 → i < length each → limit < get_or each i 0
one_later each limit at x lt is later i on to h =
    let here : x ≡ get_or each at 0 = get_or_read each at x lt is 0 in
    let same : i ≡ at = omega arith in
    rw (same, ← here) later

-- a block is later where what is kept for it is
pub block_later : (each earliest : List ℕ) (limit at x : ℕ) → IsEarliest each earliest → at % 64 ≡ 0 → at < length each → x ≡ get_or earliest (at / 64) x → limit < x
    → (i : ℕ) → at ≤ i → i < at + 64 → i < length each → limit < get_or each i 0
block_later each earliest limit at x e start lt is later i on to h =
    let many : length each < length earliest * 64 = e.many in
    let here : x ≡ get_or earliest (at / 64) 0 = get_or_read earliest (at / 64) x (omega arith) is 0 in
    let low : get_or earliest (i / 64) 0 ≤ get_or each i 0 = e.low i h in
    let same : i / 64 ≡ at / 64 = omega arith in
    let kept : get_or earliest (i / 64) 0 ≡ get_or earliest (at / 64) 0 = ap (λ k. get_or earliest k 0) same in
    omega (arith, here, low, kept)

-- and so is a block of blocks
pub blocks_later : (each earliest first : List ℕ) (limit at x : ℕ) → IsEarliest each earliest → IsEarliest earliest first → at % 4096 ≡ 0 → at < length each
    → x ≡ get_or first (at / 64 / 64) x → limit < x
    → (i : ℕ) → at ≤ i → i < at + 4096 → i < length each → limit < get_or each i 0
blocks_later each earliest first limit at x e f start lt is later i on to h =
    let many : length each < length earliest * 64 = e.many in
    let most : length earliest < length first * 64 = f.many in
    let here : x ≡ get_or first (at / 64 / 64) 0 = get_or_read first (at / 64 / 64) x (omega arith) is 0 in
    let low : get_or earliest (i / 64) 0 ≤ get_or each i 0 = e.low i h in
    let block : i / 64 < length earliest = omega arith in
    let lower : get_or first (i / 64 / 64) 0 ≤ get_or earliest (i / 64) 0 = f.low (i / 64) block in
    let same : i / 64 / 64 ≡ at / 64 / 64 = omega arith in
    let kept : get_or first (i / 64 / 64) 0 ≡ get_or first (at / 64 / 64) 0 = ap (λ k. get_or first k 0) same in
    omega (arith, here, low, lower, kept)

-- ---- a moment that is set

-- what it was before, put back
pub restored : (l new : List ℕ) (i x y : ℕ) → new ≡ set l i y → x ≡ get_or l i x → set new i x ≡ l
restored l new i x y put was = ap (λ n. set n i x) put ∙ set-set l i y x ∙ ap (set l i) was ∙ set-get_or l i x

pub put_back : (old new now : List ℕ) (i x : ℕ) → now ≡ new → set new i (get_or old i 0) ≡ old → i < length old → x ≡ get_or old i x → set now i x ≡ old
put_back old new now i x is but lt was = ap (λ n. set n i x) is ∙ ap (set new i) (get_or_read old i x lt was 0) ∙ but
