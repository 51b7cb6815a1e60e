-- The faults, and reading as a function.
use Rattle.std.proofs.Common.{◌≡◌, ℕ, suc, ◌-◌, ◌*◌, ◌^◌, ◌<◌, ◌≤◌, ◌⊎◌, inl, inr, min, List, [], ◌∷◌, ◌++◌, length, take, ℤ, pos, negsuc, Ok, Err, Result, refl, ap, sym, subst, ◌∙◌, arith}
use Rattle.std.specs.Prelude.{All, ◌↔◌}
use Rattle.std.proofs.Math.Nat.{min-eq_right}
use Rattle.std.proofs.lemmas.Bool.{lt-ltb, le-ltb, le-leb, lt-leb, cases_lt}
use Rattle.std.proofs.lemmas.List.Elements.{All-nil, All-cons, All-head, All-tail}
use Rattle.leb.specs.Number.{Sign, unsigned, signed, IsLast}
use Rattle.leb.specs.Fault.{longest, IsTruncated, IsTooLong, HasBadLastByte}
use Rattle.leb.specs.Reading.{onto, before, reading, last_at, Found}
use Rattle.leb.specs.declared.LebFault.{LebFault}
use Rattle.leb.specs.declared.LebFault.TheVariants.{Truncated, TooLong, BadLastByte}
use Rattle.leb.proofs.Digits.{ends, too_long, goes_on}
use Rattle.leb.proofs.Grammar.{last_reads, last_spelled}

-- Whether a fault stands in the bytes.
abbrev pub Stands : LebFault → Sign → ℕ → List ℕ → Type 0
Stands Truncated s bits bytes = IsTruncated bits bytes
Stands TooLong s bits bytes = IsTooLong bits bytes
Stands BadLastByte s bits bytes = HasBadLastByte s bits bytes

abbrev GoesOn : ℕ → Type 0
GoesOn b = 128 ≤ b

-- a last byte stands for something, or is refused as such, which is so of no byte before the last
-- that there may be
last_cases : (s : Sign) (bits b : ℕ) → ((v : ℤ) × (last_at s bits b ≡ Ok v)) ⊎ (last_at s bits b ≡ Err BadLastByte)
unfolding last_at
last_cases unsigned bits b = elim (cases_lt b (2 ^ min bits 7)) [
  | inl k ↦ inl (pos b, rw (lt-ltb b (2 ^ min bits 7) k) refl)
  | inr k ↦ inr (rw (le-ltb b (2 ^ min bits 7) k) refl)
]
last_cases signed bits b = elim (cases_lt b (2 ^ min (bits - 1) 6)) [
  | inl k ↦ inl (pos b, rw (lt-ltb b (2 ^ min (bits - 1) 6) k) refl)
  | inr k ↦ elim (cases_lt b (128 - 2 ^ min (bits - 1) 6)) [
    | inl m ↦ inr (rw (le-ltb b (2 ^ min (bits - 1) 6) k, lt-leb (128 - 2 ^ min (bits - 1) 6) b m) refl)
    | inr m ↦ inl (negsuc (127 - b), rw (le-ltb b (2 ^ min (bits - 1) 6) k, le-leb (128 - 2 ^ min (bits - 1) 6) b m) refl)
  ]
]

last_of_many : (s : Sign) (bits b : ℕ) → 7 < bits → b < 128 → last_at s bits b ≡ Err BadLastByte → ⊥
unfolding last_at
last_of_many unsigned bits b h k e =
    let m : min bits 7 ≡ 7 = min-eq_right (omega arith) in
    let f = rw (m, lt-ltb b (2 ^ 7) k) at e in cc f
last_of_many signed bits b h k e =
    let m : min (bits - 1) 6 ≡ 6 = min-eq_right (omega arith) in
    elim (cases_lt b 64) [
      | inl l ↦ (let f = rw (m, lt-ltb b (2 ^ 6) l) at e in cc f)
      | inr l ↦ (let f = rw (m, le-ltb b (2 ^ 6) l, le-leb (128 - 2 ^ 6) b l) at e in cc f)
    ]

onto_err : (d w : ℕ) (r : Result Found LebFault) (e : LebFault) → onto d w r ≡ Err e → r ≡ Err e
onto_err d w (Ok f) e h = cc h
onto_err d w (Err x) e h = h

before_err : (rest : List ℕ) (r : Result ℤ LebFault) (e : LebFault) → before rest r ≡ Err e → r ≡ Err e
before_err rest (Ok f) e h = cc h
before_err rest (Err x) e h = cc h

longest_more : (bits : ℕ) → 7 < bits → longest bits ≡ suc (longest (bits - 7))
longest_more bits k = omega arith

longest_one : (bits : ℕ) → 1 ≤ bits → bits ≤ 7 → longest bits ≡ 1
longest_one bits k m = omega arith

-- a fault after a byte that says that another follows
stands_after : (e : LebFault) (s : Sign) (bits b : ℕ) (bytes : List ℕ) → 128 ≤ b → 7 < bits → Stands e s (bits - 7) bytes → Stands e s bits (b ∷ bytes)
stands_after Truncated s bits b bytes h k f = (omega (arith, f.0), All-cons GoesOn b bytes h f.1)
stands_after TooLong s bits b bytes h k f =
    let P : ℕ → Type 0 = λ n. All GoesOn (take n (b ∷ bytes)) in
    (omega (arith, f.0), subst P (sym (longest_more bits k)) (All-cons GoesOn b (take (longest (bits - 7)) bytes) h f.1))
stands_after BadLastByte s bits b bytes h k f =
    let e : bits - 7 * suc (length f.0) ≡ bits - 7 - 7 * length f.0 = omega arith in
    (b ∷ f.0, f.1, f.2, ap (λ l. b ∷ l) f.3, omega (arith, f.4), All-cons GoesOn b f.0 h f.5, f.6, λ v x. f.7 v (subst (λ n. IsLast s n f.1 v) e x))

bad_before : (s : Sign) (bits b : ℕ) (bytes front : List ℕ) (c : ℕ) (rest : List ℕ) → 7 < bits → b ∷ bytes ≡ front ++ c ∷ rest → suc (length front) ≡ longest bits
    → All GoesOn front → c < 128 → ((v : ℤ) → IsLast s (bits - 7 * length front) c v → ⊥) → HasBadLastByte s (bits - 7) bytes
bad_before s bits b bytes [] c rest k e l a lo none = absurd (omega arith)
bad_before s bits b bytes (d ∷ front) c rest k e l a lo none =
    let f : bytes ≡ front ++ c ∷ rest = cc e in
    let g : bits - 7 - 7 * length front ≡ bits - 7 * suc (length front) = omega arith in
    (front, c, rest, f, omega arith, All-tail GoesOn d front a, lo, λ v x. none v (subst (λ n. IsLast s n c v) g x))

stands_before : (e : LebFault) (s : Sign) (bits b : ℕ) (bytes : List ℕ) → 7 < bits → Stands e s bits (b ∷ bytes) → Stands e s (bits - 7) bytes
stands_before Truncated s bits b bytes k f = (omega (arith, f.0), All-tail GoesOn b bytes f.1)
stands_before TooLong s bits b bytes k f =
    let P : ℕ → Type 0 = λ n. All GoesOn (take n (b ∷ bytes)) in
    (omega (arith, f.0), All-tail GoesOn b (take (longest (bits - 7)) bytes) (subst P (longest_more bits k) f.1))
stands_before BadLastByte s bits b bytes k f = bad_before s bits b bytes f.0 f.1 f.2 k f.3 f.4 f.5 f.6 f.7

-- the last byte that there may be
bad_here : (s : Sign) (bits b : ℕ) (bytes : List ℕ) → 1 ≤ bits → b < 128 → last_at s bits b ≡ Err BadLastByte → HasBadLastByte s bits (b ∷ bytes)
bad_here s bits b bytes some h e = elim (cases_lt 7 bits) [
  | inl k ↦ absurd (last_of_many s bits b k h e)
  | inr k ↦ (
      let f : bits - 7 * 0 ≡ bits = omega arith in (
        [],
        b,
        bytes,
        refl,
        sym (longest_one bits some k),
        All-nil GoesOn,
        h,
        λ v x. (let r = (last_reads s bits b v (subst (λ n. IsLast s n b v) f x)).1 in cc (e, r)),
      ))
]

too_long_here : (bits b : ℕ) (bytes : List ℕ) → 1 ≤ bits → bits ≤ 7 → 128 ≤ b → IsTooLong bits (b ∷ bytes)
too_long_here bits b bytes some k h =
    let P : ℕ → Type 0 = λ n. All GoesOn (take n (b ∷ bytes)) in
    (omega arith, subst P (sym (longest_one bits some k)) (All-cons GoesOn b [] h (All-nil GoesOn)))

-- a fault that is read stands in the bytes
pub fault_stands : (s : Sign) (bits : ℕ) (bytes : List ℕ) (e : LebFault) → 1 ≤ bits → reading s bits bytes ≡ Err e → Stands e s bits bytes
unfolding reading
fault_stands s bits [] e some h = let g : Truncated ≡ e = cc h in subst (λ x. Stands x s bits []) g (omega arith, All-nil GoesOn)
fault_stands s bits (b ∷ bytes) e some h = elim (cases_lt b 128) [
  | inl lo ↦ (
      let f = before_err bytes (last_at s bits b) e (sym (ends s bits b bytes lo) ∙ h) in
      elim (last_cases s bits b) [
        | inl ok ↦ cc (ok.1, f)
        | inr bad ↦ (let g : BadLastByte ≡ e = cc (bad, f) in subst (λ x. Stands x s bits (b ∷ bytes)) g (bad_here s bits b bytes some lo bad))
      ])
  | inr hi ↦ elim (cases_lt 7 bits) [
    | inl k ↦ stands_after e s bits b bytes hi k
        (fault_stands s (bits - 7) bytes e (omega arith) (onto_err (b - 128) 128 (reading s (bits - 7) bytes) e (sym (goes_on s bits b bytes hi k) ∙ h)))
    | inr k ↦ (
        let g : TooLong ≡ e = cc (sym (too_long s bits b bytes hi k) ∙ h) in
        subst (λ x. Stands x s bits (b ∷ bytes)) g (too_long_here bits b bytes some k hi))
  ]
]

-- where the first byte ends the number, its last byte is at fault
bad_ends : (s : Sign) (bits b : ℕ) (bytes front : List ℕ) (c : ℕ) (rest : List ℕ) → b < 128 → b ∷ bytes ≡ front ++ c ∷ rest
    → All GoesOn front → ((v : ℤ) → IsLast s (bits - 7 * length front) c v → ⊥) → last_at s bits b ≡ Err BadLastByte
bad_ends s bits b bytes [] c rest lo e a none =
    let f : b ≡ c = cc e in
    let g : bits ≡ bits - 7 * 0 = omega arith in
    elim (last_cases s bits b) [
      | inl ok ↦ absurd (none ok.0 (subst (λ n. IsLast s n c ok.0) g (subst (λ x. IsLast s bits x ok.0) f (last_spelled s bits b ok.0 lo ok.1))))
      | inr bad ↦ bad
    ]
bad_ends s bits b bytes (d ∷ front) c rest lo e a none =
    let f : b ≡ d = cc e in let g = All-head GoesOn d front a in absurd (omega arith)

fault_ends : (e : LebFault) (s : Sign) (bits b : ℕ) (bytes : List ℕ) → 1 ≤ bits → b < 128 → Stands e s bits (b ∷ bytes) → last_at s bits b ≡ Err e
fault_ends Truncated s bits b bytes some lo h = let g = All-head GoesOn b bytes h.1 in absurd (omega arith)
fault_ends TooLong s bits b bytes some lo h =
    let P : ℕ → Type 0 = λ n. All GoesOn (take n (b ∷ bytes)) in
    let f : longest bits ≡ suc (longest bits - 1) = omega arith in
    let g = All-head GoesOn b (take (longest bits - 1) bytes) (subst P f h.1) in absurd (omega arith)
fault_ends BadLastByte s bits b bytes some lo h = bad_ends s bits b bytes h.0 h.1 h.2 lo h.3 h.5 h.7

bad_first : (b : ℕ) (bytes front : List ℕ) (c : ℕ) (rest : List ℕ) → 128 ≤ b → c < 128 → b ∷ bytes ≡ front ++ c ∷ rest → suc (length front) ≡ 1 → ⊥
bad_first b bytes [] c rest hi lo e l = let f : b ≡ c = cc e in omega arith
bad_first b bytes (d ∷ front) c rest hi lo e l = omega arith

fault_first : (e : LebFault) (s : Sign) (bits b : ℕ) (bytes : List ℕ) → 1 ≤ bits → bits ≤ 7 → 128 ≤ b → Stands e s bits (b ∷ bytes) → e ≡ TooLong
fault_first Truncated s bits b bytes some k hi h = absurd (omega (arith, h.0))
fault_first TooLong s bits b bytes some k hi h = refl
fault_first BadLastByte s bits b bytes some k hi h = absurd (bad_first b bytes h.0 h.1 h.2 hi h.6 h.3 (h.4 ∙ longest_one bits some k))

none_first : (front : List ℕ) (c : ℕ) (rest : List ℕ) → [] ≡ front ++ c ∷ rest → ⊥
none_first [] c rest e = cc e
none_first (d ∷ front) c rest e = cc e

fault_none : (e : LebFault) (s : Sign) (bits : ℕ) → 1 ≤ bits → Stands e s bits [] → Truncated ≡ e
fault_none Truncated s bits some h = refl
fault_none TooLong s bits some h = absurd (omega (arith, h.0))
fault_none BadLastByte s bits some h = absurd (none_first h.0 h.1 h.2 h.3)

-- a fault that stands in the bytes is read
pub fault_reads : (s : Sign) (bits : ℕ) (bytes : List ℕ) (e : LebFault) → 1 ≤ bits → Stands e s bits bytes → reading s bits bytes ≡ Err e
unfolding reading
fault_reads s bits [] e some h = ap Err (fault_none e s bits some h)
fault_reads s bits (b ∷ bytes) e some h = elim (cases_lt b 128) [
  | inl lo ↦ ends s bits b bytes lo ∙ ap (before bytes) (fault_ends e s bits b bytes some lo h)
  | inr hi ↦ elim (cases_lt 7 bits) [
    | inl k ↦ goes_on s bits b bytes hi k ∙ ap (onto (b - 128) 128) (fault_reads s (bits - 7) bytes e (omega arith) (stands_before e s bits b bytes k h))
    | inr k ↦ too_long s bits b bytes hi k ∙ ap Err (sym (fault_first e s bits b bytes some k hi h))
  ]
]

-- the clauses of the reader, from what it gives
pub fault_iff : (s : Sign) (bits : ℕ) (bytes : List ℕ) (e f : LebFault) → 1 ≤ bits → reading s bits bytes ≡ Err e → (e ≡ f) ↔ Stands f s bits bytes
fault_iff s bits bytes e f some h =
    ((λ g. fault_stands s bits bytes f some (h ∙ ap Err g)), (λ p. let r = fault_reads s bits bytes f some p in cc (h, r)))

pub no_fault : (s : Sign) (bits : ℕ) (bytes : List ℕ) (x : Found) (f : LebFault) → 1 ≤ bits → reading s bits bytes ≡ Ok x → Stands f s bits bytes → ⊥
no_fault s bits bytes x f some h p = let r = fault_reads s bits bytes f some p in cc (h, r)
