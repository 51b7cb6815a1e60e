-- What a quantity is worth, by the digits in front of a point and those behind it.
use Rattle.std.proofs.Common.{◌≡◌, ℕ, ◌+◌, ◌-◌, ◌*◌, ◌^◌, ◌<◌, ◌≤◌, inl, inr, min, true, false, nat_le, cond, List, ◌++◌, length, Ok, Err, arith, sym, ◌∙◌, ap, length-append}
use Rattle.std.proofs.Math.Nat.{mul_comm, mul_assoc, mul_left_comm, mul-le-mul_right}
use Rattle.std.proofs.lemmas.Nat.{pow-add, pow_pos}
use Rattle.std.proofs.lemmas.Bool.{cases_lt}
use Rattle.std.proofs.lemmas.Bool.Decides.{nat_tests}
use Rattle.quant.specs.Amount.{number}
use Rattle.objects.specs.declared.fault.QuantityFault.TheVariants.{TooLarge}
use Rattle.objects.specs.declared.quantity.Rounding.{Rounding}
use Rattle.objects.specs.declared.suffix.Suffix.{Suffix}
use Rattle.objects.specs.declared.digits.TheConstants.{BEYOND}
use Rattle.objects.specs.Ratio.{rounded}
use Rattle.objects.specs.inside.Digits.{front, back}
use Rattle.objects.specs.Quantity.{worth, at_most}
use Rattle.objects.proofs.Places.{in_parts}

-- the digits of a quantity, in parts
worth_in_parts : (rounding : Rounding) (places : ℕ) (whole fraction : List ℕ) (suffix : Suffix)
    → let digits = whole ++ fraction in
    let up = suffix.tens + places in
    let down = length fraction + suffix.tenths in
    rounded rounding (worth places whole fraction suffix)
    ≡ front digits (length whole + length fraction + up - down) * 2 ^ suffix.twos
    + rounded rounding (record { over = back digits (down - up) * 2 ^ suffix.twos; under = 10 ^ (down - up) })
worth_in_parts rounding places whole fraction suffix =
    let digits = whole ++ fraction in
    let up = suffix.tens + places in
    let down = length fraction + suffix.tenths in
    let over : number digits * (10 ^ suffix.tens * 2 ^ suffix.twos) * 10 ^ places ≡ number digits * 2 ^ suffix.twos * 10 ^ up
    = simp (mul_assoc, mul_comm, mul_left_comm, pow-add) in
    let under : 10 ^ length fraction * 10 ^ suffix.tenths ≡ 10 ^ down = sym (pow-add 10 (length fraction) suffix.tenths) in
    (λ j. rounded rounding (record { over = over j; under = under j }))
    ∙ in_parts rounding digits (2 ^ suffix.twos) up down
    ∙ ap (λ n. front digits (n + up - down) * 2 ^ suffix.twos
    + rounded rounding (record { over = back digits (down - up) * 2 ^ suffix.twos; under = 10 ^ (down - up) })) (length-append whole fraction)

-- a number that is more than it may be, and one that isn't
at_most_less : (most n : ℕ) → n ≤ most → at_most most n ≡ Ok n
at_most_less most n h = let e : nat_le n most ≡ true = grind (arith, nat_tests) in ap (λ b. cond b (Ok n) (Err TooLarge)) e

at_most_more : (most n : ℕ) → most < n → at_most most n ≡ Err TooLarge
at_most_more most n h = let e : nat_le n most ≡ false = grind (arith, nat_tests) in ap (λ b. cond b (Ok n) (Err TooLarge)) e

-- a number that was counted no further than to `BEYOND` is the whole number wherever it counts
counted_enough : (n number units part most : ℕ) → number ≡ min n BEYOND → 0 < units → most < BEYOND
    → at_most most (number * units + part) ≡ at_most most (n * units + part)
counted_enough n number units part most is some small =
    elim (cases_lt most (number * units + part)) as (λ _. at_most most (number * units + part) ≡ at_most most (n * units + part)) [
      | inl more ↦
          let less : number * units ≤ n * units = mul-le-mul_right units (let e : number ≤ n = omega arith in e) in
          at_most_more most (number * units + part) more ∙ sym (at_most_more most (n * units + part) (omega arith))
      | inr within ↦
          let one : number ≤ number * units = omega (arith, mul_comm number units, mul-le-mul_right number (let e : 1 ≤ units = omega arith in e)) in
          let same : number ≡ n = omega arith in
          ap (λ k. at_most most (k * units + part)) same
    ]

-- what is counted and rounded comes to what the quantity is worth
pub amount_told : (rounding : Rounding) (places most : ℕ) (whole fraction : List ℕ) (suffix : Suffix) (units in_front behind number part : ℕ)
    → units ≡ 2 ^ suffix.twos
    → in_front ≡ length whole + length fraction + (suffix.tens + places) - (length fraction + suffix.tenths)
    → behind ≡ length fraction + suffix.tenths - (suffix.tens + places)
    → number ≡ min (front (whole ++ fraction) in_front) BEYOND
    → part ≡ rounded rounding (record { over = back (whole ++ fraction) behind * units; under = 10 ^ behind })
    → most < BEYOND
    → at_most most (number * units + part) ≡ at_most most (rounded rounding (worth places whole fraction suffix))
amount_told rounding places most whole fraction suffix units in_front behind number part units_are in_front_are behind_are number_is part_is small =
    let digits = whole ++ fraction in
    let some : 0 < units = omega (arith, pow_pos suffix.twos) in
    counted_enough (front digits in_front) number units part most number_is some small
    ∙ ap (at_most most) (
    ap (λ n. front digits in_front * units + n) part_is
    ∙ (λ j. front digits (in_front_are j) * units_are j
    + rounded rounding (record { over = back digits (behind_are j) * units_are j; under = 10 ^ behind_are j }))
    ∙ sym (worth_in_parts rounding places whole fraction suffix)
    )
