-- Which alignments a load or store can have.
use Rattle.std.proofs.Common.{◌≡◌, ℕ, ◌^◌, ◌<◌, ◌≤◌, Bool, true, false, refl, arith}
use Rattle.std.specs.Prelude.{nat_le}
use Rattle.std.proofs.Math.Nat.{pow-le-pow_right}
use Rattle.std.proofs.lemmas.Bool.{leb-true}

on_true : (b : Bool) → (b ≡ true → ⊥) → b ≡ false
on_true true f = absurd (f refl)
on_true false f = refl

pub not_at_most : (a b : ℕ) → b < a → nat_le a b ≡ false
not_at_most a b far = on_true (nat_le a b) (λ e. let least : a ≤ b = leb-true a b e in absurd (omega arith))

-- one of 16 bytes or more is greater than any access
pub too_wide : (align bytes : ℕ) → 3 < align → bytes ≤ 8 → nat_le (2 ^ align) bytes ≡ false
too_wide align bytes far small =
    let some : 0 < 2 = omega arith in
    let least : 4 ≤ align = omega arith in
    let wide : 2 ^ 4 ≤ 2 ^ align = pow-le-pow_right some least in
    let more : bytes < 2 ^ align = omega arith in
    not_at_most (2 ^ align) bytes more
