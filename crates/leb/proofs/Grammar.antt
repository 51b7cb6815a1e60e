-- The grammar, and reading as a function.
use Rattle.std.proofs.Common.{◌≡◌, ℕ, suc, ◌+◌, ◌-◌, ◌^◌, ◌<◌, ◌≤◌, inl, inr, min, List, [], ◌∷◌, get_or, length, ℤ, pos, negsuc, Ok, Err, Result, refl, ap, sym, ◌∙◌, arith}
use Rattle.std.proofs.Math.Pow.{pow_mono}
use Rattle.std.proofs.Math.Nat.{min-eq_left, min-eq_right, min-le_left, min-le_right}
use Rattle.std.proofs.lemmas.Int.{ints}
use Rattle.std.proofs.lemmas.Bool.{lt-ltb, le-ltb, le-leb, lt-leb, cases_lt}
use Rattle.leb.specs.Number.{Sign, unsigned, signed, IsLast, Spells}
use Rattle.leb.specs.Reading.{join, onto, before, reading, last_at, Found}
use Rattle.leb.specs.declared.LebFault.{LebFault}
use Rattle.leb.proofs.Digits.{join_is, ends, too_long, goes_on}

-- below both of two ends, where each is a power of 2
min_end : (bits k b : ℕ) → b < 2 ^ k → b < 2 ^ bits → b < 2 ^ min bits k
min_end bits k b lo hi = elim (cases_lt bits k) [
  | inl h ↦ (let e : bits ≤ k = omega arith in rw (min-eq_left e) hi)
  | inr h ↦ rw (min-eq_right h) lo
]

end_min : (bits k b : ℕ) → b < 2 ^ min bits k → (b < 2 ^ k) × (b < 2 ^ bits)
end_min bits k b h =
    let p : 2 ^ min bits k ≤ 2 ^ k = pow_mono (min-le_right bits k) in
    let q : 2 ^ min bits k ≤ 2 ^ bits = pow_mono (min-le_left bits k) in
    (omega arith, omega arith)

-- the same from above
min_start : (bits k b n : ℕ) → n ≤ b + 2 ^ k → n ≤ b + 2 ^ bits → n ≤ b + 2 ^ min bits k
min_start bits k b n lo hi = elim (cases_lt bits k) [
  | inl h ↦ (let e : bits ≤ k = omega arith in rw (min-eq_left e) hi)
  | inr h ↦ rw (min-eq_right h) lo
]

-- what a last byte stands for is what is read
pub last_reads : (s : Sign) (bits b : ℕ) (v : ℤ) → IsLast s bits b v → (b < 128) × (last_at s bits b ≡ Ok v)
unfolding last_at
last_reads unsigned bits b v h = (h.0, rw (lt-ltb b (2 ^ min bits 7) (min_end bits 7 b h.0 h.1)) (ap Ok (sym h.2)))
last_reads signed bits b v (inl h) =
    (omega arith, rw (lt-ltb b (2 ^ min (bits - 1) 6) (min_end (bits - 1) 6 b h.0 h.1)) (ap Ok (sym h.2)))
last_reads signed bits b v (inr h) =
    let p : 2 ^ min (bits - 1) 6 ≤ 2 ^ 6 = pow_mono (min-le_right (bits - 1) 6) in
    let q : 128 ≤ b + 2 ^ min (bits - 1) 6 = min_start (bits - 1) 6 b 128 (omega arith) h.2 in
    let e : v ≡ negsuc (127 - b) = h.3 ∙ omega (arith, ints) in
    (h.1, rw (le-ltb b (2 ^ min (bits - 1) 6) (omega arith), le-leb (128 - 2 ^ min (bits - 1) 6) b (omega arith)) (ap Ok (sym e)))

signed_spelled : (bits b : ℕ) (v : ℤ) → b < 128 → last_at signed bits b ≡ Ok v → IsLast signed bits b v
unfolding last_at
signed_spelled bits b v h e = elim (cases_lt b (2 ^ min (bits - 1) 6)) [
  | inl k ↦ (
      let p = end_min (bits - 1) 6 b k in
      let f = rw (lt-ltb b (2 ^ min (bits - 1) 6) k) at e in
      let g : v ≡ pos b = cc f in
      inl (p.0, p.1, g))
  | inr k ↦ elim (cases_lt b (128 - 2 ^ min (bits - 1) 6)) [
    | inl m ↦ (let f = rw (le-ltb b (2 ^ min (bits - 1) 6) k, lt-leb (128 - 2 ^ min (bits - 1) 6) b m) at e in cc f)
    | inr m ↦ (
        let p : 2 ^ min (bits - 1) 6 ≤ 2 ^ 6 = pow_mono (min-le_right (bits - 1) 6) in
        let q : 2 ^ min (bits - 1) 6 ≤ 2 ^ (bits - 1) = pow_mono (min-le_left (bits - 1) 6) in
        let f = rw (le-ltb b (2 ^ min (bits - 1) 6) k, le-leb (128 - 2 ^ min (bits - 1) 6) b m) at e in
        let g : v ≡ negsuc (127 - b) = cc f in
        inr (omega arith, h, omega arith, g ∙ omega (arith, ints)))
  ]
]

-- what is read of a last byte is what it stands for
pub last_spelled : (s : Sign) (bits b : ℕ) (v : ℤ) → b < 128 → last_at s bits b ≡ Ok v → IsLast s bits b v
unfolding last_at
last_spelled unsigned bits b v h e = elim (cases_lt b (2 ^ min bits 7)) [
  | inl k ↦ (let f = rw (lt-ltb b (2 ^ min bits 7) k) at e in let g : v ≡ pos b = cc f in (h, (end_min bits 7 b k).1, g))
  | inr k ↦ (let f = rw (le-ltb b (2 ^ min bits 7) k) at e in cc f)
]
last_spelled signed bits b v h e = signed_spelled bits b v h e

-- a spelling is read
pub reads : (s : Sign) (bits : ℕ) (bytes : List ℕ) (v : ℤ) (rest : List ℕ) → Spells s bits bytes v rest → reading s bits bytes ≡ Ok (v, rest)
unfolding Spells
reads s bits [] v rest h = absurd h
reads s bits (b ∷ bytes) v rest (inl h) =
    let p = last_reads s bits b v h.0 in
    ends s bits b bytes p.0 ∙ ap (before bytes) p.1 ∙ ap (λ l. Ok (v, l)) h.1
reads s bits (b ∷ bytes) v rest (inr h) =
    let high : ℤ = h.3 in
    goes_on s bits b bytes h.0 h.2 ∙ ap (onto (b - 128) 128) (reads s (bits - 7) bytes high rest h.5)
    ∙ ap (λ x. Ok (x, rest)) (sym (join_is (b - 128) high (omega arith)) ∙ sym h.4)

-- two answers that are equal have equal parts
pub ok_parts : {v w : ℤ} {rest more : List ℕ} (r : Result Found LebFault) → r ≡ Ok (v, rest) → r ≡ Ok (w, more) → (v ≡ w) × (rest ≡ more)
ok_parts {v} {w} {rest} {more} r d e =
    let f : ◌≡◌ {A = Found} (v, rest) (w, more) = cc in (ap (λ p. p.0) f, ap (λ p. p.1) f)

before_ok : (rest more : List ℕ) (v : ℤ) (r : Result ℤ LebFault) → before rest r ≡ Ok (v, more) → (r ≡ Ok v) × (rest ≡ more)
before_ok rest more v (Ok w) e = let p = ok_parts _ refl e in (ap Ok p.0, p.1)
before_ok rest more v (Err x) e = cc e

onto_ok : (d w : ℕ) (v : ℤ) (rest : List ℕ) (r : Result Found LebFault) → onto d w r ≡ Ok (v, rest)
    → (high : ℤ) × (r ≡ Ok (high, rest)) × (join d w high ≡ v)
onto_ok d w v rest (Ok f) e =
    let p = ok_parts _ refl e in
    (f.0, ap (λ l. Ok (f.0, l)) p.1, p.0)
onto_ok d w v rest (Err x) e = cc e

-- what is read is spelled
pub spelled : (s : Sign) (bits : ℕ) (bytes : List ℕ) (v : ℤ) (rest : List ℕ) → ((i : ℕ) → get_or bytes i 0 < 256) → reading s bits bytes ≡ Ok (v, rest) → Spells s bits bytes v rest
unfolding Spells reading
spelled s bits [] v rest fits e = cc e
spelled s bits (b ∷ bytes) v rest fits e = elim (cases_lt b 128) [
  | inl h ↦ (
      let p = before_ok bytes rest v (last_at s bits b) (sym (ends s bits b bytes h) ∙ e) in
      inl (last_spelled s bits b v h p.0, p.1))
  | inr h ↦ elim (cases_lt 7 bits) [
    | inl k ↦ (
        let p = onto_ok (b - 128) 128 v rest (reading s (bits - 7) bytes) (sym (goes_on s bits b bytes h k) ∙ e) in
        inr (h, fits 0, k, p.0, sym p.2 ∙ sym (join_is (b - 128) p.0 (omega (arith, fits 0))), spelled s (bits - 7) bytes p.0 rest (λ i. fits (suc i)) p.1))
    | inr k ↦ cc (sym (too_long s bits b bytes h k) ∙ e)
  ]
]

-- bytes begin with one number at most, which ends at one place
pub one_spelling : (s : Sign) (bits : ℕ) (bytes : List ℕ) (v w : ℤ) (rest more : List ℕ) → Spells s bits bytes v rest → Spells s bits bytes w more → (v ≡ w) × (rest ≡ more)
one_spelling s bits bytes v w rest more h k = ok_parts _ (reads s bits bytes v rest h) (reads s bits bytes w more k)

-- a number has a byte at least
pub spelling_shorter : (s : Sign) (bits : ℕ) (bytes : List ℕ) (v : ℤ) (rest : List ℕ) → Spells s bits bytes v rest → length rest < length bytes
unfolding Spells
spelling_shorter s bits [] v rest h = absurd h
spelling_shorter s bits (b ∷ bytes) v rest (inl h) = let e : length bytes ≡ length rest = ap length h.1 in omega arith
spelling_shorter s bits (b ∷ bytes) v rest (inr h) = omega (arith, spelling_shorter s (bits - 7) bytes h.3 rest h.5)
