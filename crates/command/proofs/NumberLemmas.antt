-- Which number a word spells.
use Rattle.std.proofs.Common.{◌≡◌, ◌≤◌, ◌<◌, ◌^◌, ◌&&◌, arith, is_some, sym, ℕ, Bool, true, false, List, [], ◌∷◌, length, Some, None, cond, refl, nat_lt}
use Rattle.std.specs.Prelude.{nat_le}
use Rattle.std.specs.List.{list_all}
use Rattle.std.specs.Char.{digit_value}
use Rattle.std.specs.Str.Parse.{AllDigits, IsNumeral, digits_value, without_leading_plus}
use Rattle.std.proofs.lemmas.Bool.{lt-ltb, le-leb, leb-true, ltb-true, true≢false}
use Rattle.clap.specs.ValueTests.{is_numeral, is_unsigned_in}
use Rattle.clap.proofs.WalkLemmas.{both}
use Rattle.command.specs.Count.{most_of, number_for, number_up_to}
use Rattle.command.specs.declared.count.Count.{Count}
use Rattle.command.specs.declared.count.Count.TheVariants.{Workers, Cycles, Binders}

digits_pass : (ds : List ℕ) → AllDigits 10 ds → list_all (λ d. nat_lt (digit_value d) 10) ds ≡ true
digits_pass [] h = refl
digits_pass (d ∷ ds) h = rw (lt-ltb (digit_value d) 10 h.0) (digits_pass ds h.1)

are_digits : (ds : List ℕ) → list_all (λ d. nat_lt (digit_value d) 10) ds ≡ true → AllDigits 10 ds
are_digits [] e = tt
are_digits (d ∷ ds) e =
    let parts = both _ _ e in
    (ltb-true _ _ parts.0, are_digits ds parts.1)

numeral_passes : (ds : List ℕ) → IsNumeral 10 ds → is_numeral ds ≡ true
numeral_passes ds h = rw (lt-ltb 0 (length ds) h.0) (digits_pass ds h.1)

is_a_numeral : (ds : List ℕ) → is_numeral ds ≡ true → IsNumeral 10 ds
is_a_numeral ds e =
    let parts = both _ _ e in
    (ltb-true _ _ parts.0, are_digits ds parts.1)

-- a numeral within the limits spells its number
pub number_is : (most : ℕ) (ds : List ℕ) → IsNumeral 10 ds → 1 ≤ digits_value 10 ds → digits_value 10 ds ≤ most
    → number_up_to most ds ≡ Some (digits_value 10 ds)
number_is most ds numeral least limit =
    rw (numeral_passes ds numeral, le-leb 1 (digits_value 10 ds) least, le-leb (digits_value 10 ds) most limit) refl

-- what is no numeral within the limits spells no number
pub no_number : (most : ℕ) (ds : List ℕ) → (IsNumeral 10 ds → 1 ≤ digits_value 10 ds → digits_value 10 ds ≤ most → ⊥)
    → number_up_to most ds ≡ None
no_number most ds none = go (is_numeral ds && nat_le 1 (digits_value 10 ds) && nat_le (digits_value 10 ds) most) refl
  where
    go : (b : Bool) → (is_numeral ds && nat_le 1 (digits_value 10 ds) && nat_le (digits_value 10 ds) most) ≡ b
        → cond b (Some (digits_value 10 ds)) None ≡ None
    go true e =
        let parts = both _ _ e in
        let front = both _ _ parts.0 in
        absurd (none (is_a_numeral ds front.0) (leb-true _ _ front.1) (leb-true _ _ parts.1))
    go false e = refl

-- a number up to a limit that fits 64 bits fits them too, so that a test of it says nothing more
same_tests : (n : ℕ) (numeral least limit fits : Bool) → (limit ≡ true → fits ≡ true)
    → is_some (cond (numeral && least && limit) (Some n) None) ≡ (numeral && (fits && (least && limit)))
same_tests n false least limit fits small = refl
same_tests n true false limit true small = refl
same_tests n true false limit false small = refl
same_tests n true true false true small = refl
same_tests n true true false false small = refl
same_tests n true true true true small = refl
same_tests n true true true false small = absurd (true≢false (sym (small refl)))

read_up_to : (most : ℕ) (word : List ℕ) → most < 2 ^ 64
    → is_some (number_up_to most (without_leading_plus word)) ≡ is_unsigned_in 1 most word
read_up_to most word small =
    let n = digits_value 10 (without_leading_plus word) in
    same_tests n (is_numeral (without_leading_plus word)) (nat_le 1 n) (nat_le n most) (nat_lt n (2 ^ 64))
    (λ e. lt-ltb n (2 ^ 64) (omega (arith, leb-true n most e)))

-- an option's number is one that `clap` reads as a whole number of its range
pub read_as_by_clap : (count : Count) (word : List ℕ) → is_some (number_for count (Some word)) ≡ is_unsigned_in 1 (most_of count) word
read_as_by_clap Workers word = read_up_to 64 word (omega arith)
read_as_by_clap Cycles word = read_up_to 8 word (omega arith)
read_as_by_clap Binders word = read_up_to 8 word (omega arith)
