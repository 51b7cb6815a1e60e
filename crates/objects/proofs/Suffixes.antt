-- The powers of a suffix are small.
use Rattle.std.proofs.Common.{◌≡◌, ℕ, ◌<◌, ◌≤◌, Bool, true, false, nat_le, ◌-◌, ◌&&◌, ◌||◌, ◌==◌, cond, List, [], ◌∷◌, take, drop, codes, length, get_or, bytes_eq, Result, Ok, Err, refl, sym, ap, subst, ◌∙◌, arith, leb-true}
use Rattle.std.proofs.lemmas.Bool.{and_parts}
use Rattle.std.proofs.lemmas.Bool.Decides.{nat_tests}
use Rattle.std.proofs.lemmas.Slice.Eq.{bytes_eq-Decides}
use Rattle.std.specs.List.{list_all, prefix_len}
use Rattle.quant.specs.Amount.{is_digit, number}
use Rattle.objects.specs.declared.fault.QuantityFault.{QuantityFault}
use Rattle.objects.specs.declared.fault.QuantityFault.TheVariants.{NotAQuantity, FarExponent, Negative, TooLarge}
use Rattle.objects.specs.declared.suffix.Suffix.{Suffix}
use Rattle.objects.specs.Suffix.{power_of_ten, power_of_two, has_minus, after_sign, is_0, behind_zeros, exponent_number, exponent, suffix_named}
use Rattle.objects.specs.Quantity.{of_nothing}
use Rattle.objects.proofs.OkIs.{OkIs, last_ok, no_ok, either_is, tested}
use Rattle.objects.proofs.Passing.{back_passes}

pub record IsSmall (suffix : Suffix) : Type 0 where
  pub tens : suffix.tens ≤ 99
  pub tenths : suffix.tenths ≤ 99
  pub twos : suffix.twos ≤ 60

abbrev AreSmall : Result Suffix QuantityFault → Type 0
AreSmall suffix = OkIs IsSmall suffix

ten_small : (below_one : Bool) (n : ℕ) → n ≤ 99 → AreSmall (Ok (power_of_ten below_one n))
ten_small true n h = last_ok (power_of_ten true n) (record { tens = omega arith; tenths = h; twos = omega arith })
ten_small false n h = last_ok (power_of_ten false n) (record { tens = h; tenths = omega arith; twos = omega arith })

two_small : (n : ℕ) → n ≤ 60 → AreSmall (Ok (power_of_two n))
two_small n h = last_ok (power_of_two n) (record { tens = omega arith; tenths = omega arith; twos = h })

-- two digits spell a number below a hundred
digit_small : (digit : ℕ) → is_digit digit ≡ true → digit ≤ 57
digit_small digit h = leb-true digit 57 (and_parts (nat_le 48 digit) (nat_le digit 57) h).1

digits_small : (digits : List ℕ) → list_all is_digit digits ≡ true → length digits ≤ 2 → number digits ≤ 99
digits_small [] h few = omega arith
digits_small (a ∷ []) h few = omega (arith, digit_small a (and_parts (is_digit a) true h).0)
digits_small (a ∷ b ∷ []) h few =
    let parts = and_parts (is_digit a) (list_all is_digit (b ∷ [])) h in
    omega (arith, digit_small a parts.0, digit_small b (and_parts (is_digit b) true parts.1).0)
digits_small (a ∷ b ∷ c ∷ more) h few = absurd (omega (arith, few))

number_small : (below_one : Bool) (digits : List ℕ) → list_all is_digit digits ≡ true → AreSmall (exponent_number below_one digits)
number_small below_one digits h =
    tested (nat_le (length digits) 2) (Ok (power_of_ten below_one (number digits))) (Err FarExponent)
    (λ few. ten_small below_one (number digits) (digits_small digits h (leb-true (length digits) 2 few))) (no_ok FarExponent)

exponent_small : (text : List ℕ) → AreSmall (exponent text)
exponent_small text =
    let digits = after_sign text in
    tested (nat_le 1 (length digits) && list_all is_digit digits) (exponent_number (has_minus text) (behind_zeros digits)) (Err NotAQuantity)
    (λ h. number_small (has_minus text) (behind_zeros digits) (back_passes is_digit (prefix_len is_0 digits) digits (and_parts (nat_le 1 (length digits)) (list_all is_digit digits) h).1))
    (no_ok NotAQuantity)

suffix_small : (text : List ℕ) → AreSmall (suffix_named text)
unfolding suffix_named
suffix_small text =
    either_is (bytes_eq text (codes "n")) _ _ (ten_small true 9 (omega arith))
    (either_is (bytes_eq text (codes "u")) _ _ (ten_small true 6 (omega arith))
    (either_is (bytes_eq text (codes "m")) _ _ (ten_small true 3 (omega arith))
    (either_is (bytes_eq text []) _ _ (ten_small false 0 (omega arith))
    (either_is (bytes_eq text (codes "k")) _ _ (ten_small false 3 (omega arith))
    (either_is (bytes_eq text (codes "M")) _ _ (ten_small false 6 (omega arith))
    (either_is (bytes_eq text (codes "G")) _ _ (ten_small false 9 (omega arith))
    (either_is (bytes_eq text (codes "T")) _ _ (ten_small false 12 (omega arith))
    (either_is (bytes_eq text (codes "P")) _ _ (ten_small false 15 (omega arith))
    (either_is (bytes_eq text (codes "E")) _ _ (ten_small false 18 (omega arith))
    (either_is (bytes_eq text (codes "Ki")) _ _ (two_small 10 (omega arith))
    (either_is (bytes_eq text (codes "Mi")) _ _ (two_small 20 (omega arith))
    (either_is (bytes_eq text (codes "Gi")) _ _ (two_small 30 (omega arith))
    (either_is (bytes_eq text (codes "Ti")) _ _ (two_small 40 (omega arith))
    (either_is (bytes_eq text (codes "Pi")) _ _ (two_small 50 (omega arith))
    (either_is (bytes_eq text (codes "Ei")) _ _ (two_small 60 (omega arith))
    (either_is (bytes_eq (take 1 text) (codes "e") || bytes_eq (take 1 text) (codes "E")) _ _ (exponent_small (drop 1 text)) (no_ok NotAQuantity)))))))))))))))))

-- where nothing is told, too
of_nothing_small : (is_nothing : Bool) (suffix : Result Suffix QuantityFault) → AreSmall suffix → AreSmall (of_nothing is_nothing suffix)
of_nothing_small true (Err FarExponent) h = ten_small false 0 (omega arith)
of_nothing_small true (Err NotAQuantity) h = h
of_nothing_small true (Err Negative) h = h
of_nothing_small true (Err TooLarge) h = h
of_nothing_small true (Ok suffix) h = h
of_nothing_small false suffix h = h

-- what was read
was_small : (suffix : Result Suffix QuantityFault) (s : Suffix) → AreSmall suffix → suffix ≡ Ok s → IsSmall s
was_small (Ok x) s h e = subst IsSmall (let same : x ≡ s = cc in same) h.is
was_small (Err fault) s h e = absurd (cc)

pub read_small : (is_nothing : Bool) (text : List ℕ) (named whole : Result Suffix QuantityFault) (s : Suffix)
    → named ≡ suffix_named text → whole ≡ of_nothing is_nothing named → whole ≡ Ok s → IsSmall s
read_small is_nothing text named whole s is told e =
    was_small (of_nothing is_nothing (suffix_named text)) s (of_nothing_small is_nothing (suffix_named text) (suffix_small text)) (ap (of_nothing is_nothing) (sym is) ∙ sym told ∙ e)

-- ---- what the letters of a suffix are

by_length : (xs ys : List ℕ) (b : Bool) → (b ≡ true → xs ≡ ys) → length ys < length xs → b ≡ false
by_length xs ys true same h = absurd (omega (arith, h, ap length (same refl)))
by_length xs ys false same h = refl

differs : (xs ys : List ℕ) → length ys < length xs → bytes_eq xs ys ≡ false
differs xs ys h = by_length xs ys (bytes_eq xs ys) (bytes_eq-Decides xs ys).0 h

and_false : (b : Bool) → (b && false) ≡ false
and_false true = refl
and_false false = refl

and_true : (b : Bool) → (b && true) ≡ b
and_true true = refl
and_true false = refl

-- no text is the suffix of one
pub none_is_one : (text : List ℕ) → length text < 1 → Ok (power_of_ten false 0) ≡ suffix_named text
unfolding suffix_named
none_is_one [] h = refl
none_is_one (x ∷ text) h = absurd (omega (arith, h))

-- a text that is neither a letter nor one in front of an `i` may be an exponent
longer : (x : ℕ) (rest : List ℕ) → 1 ≤ length rest → bytes_eq rest (codes "i") ≡ false
    → suffix_named (x ∷ rest) ≡ cond (x == 101 || x == 69) (exponent rest) (Err NotAQuantity)
unfolding suffix_named
longer x [] some other = absurd (omega (arith, some))
longer x (y ∷ rest) some other =
    let text = x ∷ y ∷ rest in
    let one : (letter : ℕ) → bytes_eq text (letter ∷ []) ≡ false = λ letter. differs text (letter ∷ []) (omega arith) in
    let two : (letter : ℕ) → bytes_eq text (letter ∷ 105 ∷ []) ≡ false = λ letter. rw other (and_false (x == letter)) in
    rw (
      one 110,
      one 117,
      one 109,
      one 107,
      one 77,
      one 71,
      one 84,
      one 80,
      one 69,
      two 75,
      two 77,
      two 71,
      two 84,
      two 80,
      two 69,
      and_true (x == 101),
      and_true (x == 69),
    ) refl

all_taken : (xs : List ℕ) → take (length xs) xs ≡ xs
all_taken [] = refl
all_taken (x ∷ xs) = ap (λ ys. x ∷ ys) (all_taken xs)

pub longer_text : (text : List ℕ) → 1 ≤ length text → false ≡ (length (take (length text - 1) (drop 1 text)) == 0)
    → bytes_eq (take (length text - 1) (drop 1 text)) (codes "i") ≡ false
    → suffix_named text ≡ cond (get_or text 0 0 == 101 || get_or text 0 0 == 69) (exponent (take (length text - 1) (drop 1 text))) (Err NotAQuantity)
longer_text [] h some other = absurd (omega (arith, h))
longer_text (x ∷ xs) h some other =
    let count : length (x ∷ xs) - 1 ≡ length xs = omega arith in
    let same : take (length (x ∷ xs) - 1) xs ≡ xs = ap (λ n. take n xs) count ∙ all_taken xs in
    subst (λ rest. false ≡ (length rest == 0) → bytes_eq rest (codes "i") ≡ false
    → suffix_named (x ∷ xs) ≡ cond (x == 101 || x == 69) (exponent rest) (Err NotAQuantity))
    (sym same) (λ s o. longer x xs (grind (arith, nat_tests)) o) some other
