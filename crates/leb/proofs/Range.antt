-- A number that is spelled is one of its bits.
use Rattle.std.proofs.Common.{◌≡◌, ℕ, suc, ◌+◌, ◌-◌, ◌*◌, ◌^◌, ◌<◌, inl, inr, List, [], ◌∷◌, ℤ, pos, negsuc, ap, sym, subst, ◌∙◌, arith}
use Rattle.std.proofs.lemmas.Int.{ints}
use Rattle.std.proofs.lemmas.Nat.{pow-add}
use Rattle.leb.specs.Number.{Sign, unsigned, signed, Spells}
use Rattle.leb.specs.inside.Number.{InRange}
use Rattle.leb.specs.Reading.{join}
use Rattle.leb.proofs.Digits.{join_is}

-- seven bits more
seven_more : (k n h d : ℕ) → n ≡ k + 7 → h < 2 ^ k → d < 128 → d + 128 * h < 2 ^ n
seven_more k n h d e a b = let f : 2 ^ n ≡ 2 ^ k * 2 ^ 7 = ap (λ m. 2 ^ m) e ∙ pow-add 2 k 7 in omega (arith, f)

seven_less : (k n h d : ℕ) → n ≡ k + 7 → h < 2 ^ k → 128 * suc h - suc d < 2 ^ n
seven_less k n h d e a = let f : 2 ^ n ≡ 2 ^ k * 2 ^ 7 = ap (λ m. 2 ^ m) e ∙ pow-add 2 k 7 in omega (arith, f)

range_more : (s : Sign) (bits d : ℕ) (high : ℤ) → 7 < bits → d < 128 → InRange s (bits - 7) high → InRange s bits (join d 128 high)
range_more unsigned bits d (pos h) k b r = seven_more (bits - 7) bits h d (omega arith) r b
range_more unsigned bits d (negsuc h) k b r = absurd r
range_more signed bits d (pos h) k b r = seven_more (bits - 7 - 1) (bits - 1) h d (omega arith) r b
range_more signed bits d (negsuc h) k b r = seven_less (bits - 7 - 1) (bits - 1) h d (omega arith) r

pub in_range : (s : Sign) (bits : ℕ) (bytes : List ℕ) (v : ℤ) (rest : List ℕ) → Spells s bits bytes v rest → InRange s bits v
unfolding Spells
in_range s bits [] v rest h = absurd h
in_range unsigned bits (b ∷ bytes) v rest (inl h) = subst (InRange unsigned bits) (sym h.0.2) h.0.1
in_range signed bits (b ∷ bytes) v rest (inl h) = elim h.0 [
  | inl k ↦ subst (InRange signed bits) (sym k.2) k.1
  | inr k ↦ (
      let e : negsuc (127 - b) ≡ v = sym (k.3 ∙ omega (arith, ints)) in
      let f : 127 - b < 2 ^ (bits - 1) = omega arith in
      subst (InRange signed bits) e f)
]
in_range s bits (b ∷ bytes) v rest (inr h) =
    let high : ℤ = h.3 in
    subst (InRange s bits) (sym (join_is (b - 128) high (omega arith)) ∙ sym h.4)
    (range_more s bits (b - 128) high h.2 (omega arith) (in_range s (bits - 7) bytes high rest h.5))
