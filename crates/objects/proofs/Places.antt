-- The number that digits spell, cut at a place.
use Rattle.std.proofs.Common.{◌≡◌, ℕ, suc, ◌+◌, ◌-◌, ◌*◌, ◌^◌, ◌<◌, ◌≤◌, inl, inr, List, [], ◌∷◌, ◌++◌, length, get_or, take, drop, arith, sym, ◌∙◌, ap, length-append, length-drop, add-one}
use Rattle.std.proofs.Math.Nat.{pow-suc, mul_assoc, mul_right_comm, add-mul, one-le-pow}
use Rattle.std.proofs.Math.Seq.{drop-cons, drop-length}
use Rattle.std.proofs.lemmas.Nat.{pow-add}
use Rattle.std.proofs.lemmas.List.{take_all, take-append-drop, get_or_past}
use Rattle.std.proofs.lemmas.Grind.{get_or_default_zero}
use Rattle.std.proofs.lemmas.Bool.{cases_lt}
use Rattle.quant.specs.Amount.{number}
use Rattle.quant.proofs.Decimal.{number_more}
use Rattle.objects.specs.declared.quantity.Rounding.{Rounding}
use Rattle.objects.specs.Ratio.{rounded}
use Rattle.objects.specs.inside.Digits.{digit, front, back}
use Rattle.objects.proofs.RatioLemmas.{rounded_sum, rounded_whole, rounded_lower, rounded_tenth}

-- a power of ten isn't 0
pub ten_pos : (k : ℕ) → 0 < 10 ^ k
ten_pos k = omega (arith, one-le-pow k 10 (omega arith))

-- the number that digits spell with others behind them
number-append : (xs ys : List ℕ) → number (xs ++ ys) ≡ number xs * 10 ^ length ys + number ys
number-append [] ys = omega arith
number-append (d ∷ xs) ys =
    let e : 10 ^ length (xs ++ ys) ≡ 10 ^ length xs * 10 ^ length ys = ap (λ n. 10 ^ n) (length-append xs ys) ∙ pow-add 10 (length xs) (length ys) in
    let f : (d - 48) * 10 ^ length (xs ++ ys) ≡ (d - 48) * 10 ^ length xs * 10 ^ length ys
    = ap (λ n. (d - 48) * n) e ∙ sym (mul_assoc (d - 48) (10 ^ length xs) (10 ^ length ys)) in
    let g : ((d - 48) * 10 ^ length xs + number xs) * 10 ^ length ys ≡ (d - 48) * 10 ^ length xs * 10 ^ length ys + number xs * 10 ^ length ys
    = add-mul ((d - 48) * 10 ^ length xs) (number xs) (10 ^ length ys) in
    omega (arith, f, g, number-append xs ys)

-- one place more in front
pub front_more : (ds : List ℕ) (i : ℕ) → front ds (i + 1) ≡ front ds i * 10 + digit ds i
front_more ds i =
    elim (cases_lt i (length ds)) as (λ _. front ds (i + 1) ≡ front ds i * 10 + digit ds i) [
      | inl within ↦
          let none : i + 1 - length ds ≡ 0 = omega arith in
          let none_before : i - length ds ≡ 0 = omega arith in
          let same : get_or ds i 48 ≡ get_or ds i 0 = get_or_default_zero ds i 48 within in
          rw (none, none_before, same) (omega (arith, number_more ds i within))
      | inr past ↦
          let all : take (i + 1) ds ≡ ds = take_all (i + 1) ds (omega arith) in
          let all_before : take i ds ≡ ds = take_all i ds past in
          let zero_digit : get_or ds i 48 ≡ 48 = get_or_past ds i 48 past in
          let more : i + 1 - length ds ≡ suc (i - length ds) = omega arith in
          rw (all, all_before, zero_digit, more, pow-suc) (sym (mul_assoc (number ds) (10 ^ (i - length ds)) 10) ∙ omega arith)
    ]

-- one place more behind, where there is a digit, and where there is none
pub back_more : (ds : List ℕ) (i : ℕ) → i < length ds → back ds (i + 1) ≡ digit ds (length ds - 1 - i) * 10 ^ i + back ds i
back_more ds i h =
    let at : length ds - (i + 1) ≡ length ds - 1 - i = omega arith in
    let next : suc (length ds - 1 - i) ≡ length ds - i = omega arith in
    let behind : length (drop (length ds - i) ds) ≡ i = length-drop (length ds - i) ds ∙ omega arith in
    let cut : drop (length ds - 1 - i) ds ≡ get_or ds (length ds - 1 - i) 48 ∷ drop (length ds - i) ds
    = drop-cons ds (length ds - 1 - i) 48 (omega arith) ∙ ap (λ n. get_or ds (length ds - 1 - i) 48 ∷ drop n ds) next in
    ap (λ n. number (drop n ds)) at ∙ ap number cut
    ∙ ap (λ n. (get_or ds (length ds - 1 - i) 48 - 48) * 10 ^ n + number (drop (length ds - i) ds)) behind

pub back_past : (ds : List ℕ) (i : ℕ) → length ds ≤ i → back ds (i + 1) ≡ back ds i
back_past ds i h = ap (λ n. number (drop n ds)) (let e : length ds - (i + 1) ≡ length ds - i = omega arith in e)

pub back_digit : (ws fs : List ℕ) (i d : ℕ) → i < length ws + length fs → d ≡ digit (ws ++ fs) (length ws + length fs - 1 - i)
    → back (ws ++ fs) (i + 1) ≡ d * 10 ^ i + back (ws ++ fs) i
back_digit ws fs i d h is =
    let both : length (ws ++ fs) ≡ length ws + length fs = length-append ws fs in
    let at : digit (ws ++ fs) (length (ws ++ fs) - 1 - i) ≡ d = ap (λ n. digit (ws ++ fs) (n - 1 - i)) both ∙ sym is in
    back_more (ws ++ fs) i (omega arith) ∙ ap (λ n. n * 10 ^ i + back (ws ++ fs) i) at

pub back_no_digit : (ws fs : List ℕ) (i d : ℕ) → length ws + length fs ≤ i → d ≡ 0
    → back (ws ++ fs) (i + 1) ≡ d * 10 ^ i + back (ws ++ fs) i
back_no_digit ws fs i d h is =
    let both : length (ws ++ fs) ≡ length ws + length fs = length-append ws fs in
    back_past (ws ++ fs) i (omega arith) ∙ sym (ap (λ n. n * 10 ^ i + back (ws ++ fs) i) is ∙ omega arith)

-- one place more of what is rounded behind a point
pub behind_more : (rounding : Rounding) (ds : List ℕ) (units i d amount : ℕ)
    → back ds (i + 1) ≡ d * 10 ^ i + back ds i
    → amount ≡ rounded rounding (record { over = back ds i * units; under = 10 ^ i })
    → rounded rounding (record { over = d * units + amount; under = 10 })
    ≡ rounded rounding (record { over = back ds (i + 1) * units; under = 10 ^ (i + 1) })
behind_more rounding ds units i d amount more is =
    let over : d * units * 10 ^ i + back ds i * units ≡ back ds (i + 1) * units
    = ap (λ n. n + back ds i * units) (mul_right_comm d units (10 ^ i)) ∙ sym (add-mul (d * 10 ^ i) (back ds i) units) ∙ sym (ap (λ n. n * units) more) in
    let under : 10 ^ i * 10 ≡ 10 ^ (i + 1) = sym (ap (λ n. 10 ^ n) (add-one i) ∙ pow-suc 10 i) in
    ap (λ n. rounded rounding (record { over = d * units + n; under = 10 })) is
    ∙ rounded_tenth rounding (d * units) (back ds i * units) (10 ^ i) (ten_pos i)
    ∙ (λ j. rounded rounding (record { over = over j; under = under j }))

-- nothing behind a point is nothing
pub behind_none : (rounding : Rounding) (ds : List ℕ) (units : ℕ) → rounded rounding (record { over = back ds 0 * units; under = 10 ^ 0 }) ≡ 0
behind_none rounding ds units =
    let none : back ds 0 ≡ 0 = ap (λ n. number (drop n ds)) (let e : length ds - 0 ≡ length ds = omega arith in e) ∙ ap number (drop-length ds) in
    ap (λ n. rounded rounding (record { over = n * units; under = 1 })) none ∙ rounded_whole rounding (0 * units) ∙ omega arith

-- all digits stand in front of a point
all_in_front : (rounding : Rounding) (ds : List ℕ) (m up down : ℕ) → down ≤ up
    → rounded rounding (record { over = number ds * m * 10 ^ up; under = 10 ^ down })
    ≡ front ds (length ds + up - down) * m + rounded rounding (record { over = back ds (down - up) * m; under = 10 ^ (down - up) })
all_in_front rounding ds m up down h =
    let zeros = up - down in
    let apart : 10 ^ up ≡ 10 ^ zeros * 10 ^ down = ap (λ n. 10 ^ n) (let e : up ≡ zeros + down = omega arith in e) ∙ pow-add 10 zeros down in
    let over : number ds * m * 10 ^ up ≡ number ds * m * 10 ^ zeros * 10 ^ down
    = ap (λ n. number ds * m * n) apart ∙ sym (mul_assoc (number ds * m) (10 ^ zeros) (10 ^ down)) in
    let under : 10 ^ down ≡ 1 * 10 ^ down = omega arith in
    let places : length ds + up - down ≡ length ds + zeros = omega arith in
    let none : down - up ≡ 0 = omega arith in
    let in_front : front ds (length ds + up - down) ≡ number ds * 10 ^ zeros
    = ap (front ds) places ∙ ap (λ t. number t * 10 ^ (length ds + zeros - length ds)) (take_all (length ds + zeros) ds (omega arith))
    ∙ ap (λ n. number ds * 10 ^ n) (let e : length ds + zeros - length ds ≡ zeros = omega arith in e) in
    let behind : rounded rounding (record { over = back ds (down - up) * m; under = 10 ^ (down - up) }) ≡ 0
    = ap (λ n. rounded rounding (record { over = back ds n * m; under = 10 ^ n })) none ∙ behind_none rounding ds m in
    (λ j. rounded rounding (record { over = over j; under = under j }))
    ∙ rounded_lower rounding (number ds * m * 10 ^ zeros) 1 (10 ^ down) (omega arith) (ten_pos down)
    ∙ rounded_whole rounding (number ds * m * 10 ^ zeros)
    ∙ mul_right_comm (number ds) m (10 ^ zeros)
    ∙ sym (ap (λ n. n * m + rounded rounding (record { over = back ds (down - up) * m; under = 10 ^ (down - up) })) in_front
    ∙ ap (λ n. number ds * 10 ^ zeros * m + n) behind ∙ omega arith)

-- a number cut so many places before its end
cut_behind : (ds : List ℕ) (q : ℕ) → number ds ≡ front ds (length ds - q) * 10 ^ q + back ds q
cut_behind ds q =
    elim (cases_lt (length ds) q) as (λ _. number ds ≡ front ds (length ds - q) * 10 ^ q + back ds q) [
      | inl short ↦
          let none : length ds - q ≡ 0 = omega arith in
          sym (ap (λ n. front ds n * 10 ^ q + number (drop n ds)) none ∙ omega arith)
      | inr long ↦
          let behind : length (drop (length ds - q) ds) ≡ q = length-drop (length ds - q) ds ∙ omega arith in
          let no_zeros : length ds - q - length ds ≡ 0 = omega arith in
          let in_front : front ds (length ds - q) ≡ number (take (length ds - q) ds) = ap (λ n. number (take (length ds - q) ds) * 10 ^ n) no_zeros ∙ omega arith in
          ap number (sym (take-append-drop (length ds - q) ds))
          ∙ number-append (take (length ds - q) ds) (drop (length ds - q) ds)
          ∙ ap (λ n. number (take (length ds - q) ds) * 10 ^ n + back ds q) behind
          ∙ ap (λ n. n * 10 ^ q + back ds q) (sym in_front)
    ]

-- some digits stand behind the point, with zeros in front of them where there are too few
some_behind : (rounding : Rounding) (ds : List ℕ) (m up down : ℕ) → up ≤ down
    → rounded rounding (record { over = number ds * m * 10 ^ up; under = 10 ^ down })
    ≡ front ds (length ds + up - down) * m + rounded rounding (record { over = back ds (down - up) * m; under = 10 ^ (down - up) })
some_behind rounding ds m up down h =
    let q = down - up in
    let under : 10 ^ down ≡ 10 ^ q * 10 ^ up = ap (λ n. 10 ^ n) (let e : down ≡ q + up = omega arith in e) ∙ pow-add 10 q up in
    let places : length ds + up - down ≡ length ds - q = omega arith in
    let a = front ds (length ds - q) in
    let over : number ds * m ≡ a * m * 10 ^ q + back ds q * m
    = ap (λ n. n * m) (cut_behind ds q) ∙ add-mul (a * 10 ^ q) (back ds q) m ∙ ap (λ n. n + back ds q * m) (mul_right_comm a (10 ^ q) m) in
    ap (λ n. rounded rounding (record { over = number ds * m * 10 ^ up; under = n })) under
    ∙ rounded_lower rounding (number ds * m) (10 ^ q) (10 ^ up) (ten_pos q) (ten_pos up)
    ∙ ap (λ n. rounded rounding (record { over = n; under = 10 ^ q })) over
    ∙ rounded_sum rounding (a * m) (back ds q * m) (10 ^ q) (ten_pos q)
    ∙ ap (λ n. front ds n * m + rounded rounding (record { over = back ds q * m; under = 10 ^ q })) (sym places)

-- digits, times a number and over powers of ten, are the digits in front of a point and what is
-- rounded behind it
pub in_parts : (rounding : Rounding) (ds : List ℕ) (m up down : ℕ)
    → rounded rounding (record { over = number ds * m * 10 ^ up; under = 10 ^ down })
    ≡ front ds (length ds + up - down) * m + rounded rounding (record { over = back ds (down - up) * m; under = 10 ^ (down - up) })
in_parts rounding ds m up down =
    elim (cases_lt up down) as (λ _. rounded rounding (record { over = number ds * m * 10 ^ up; under = 10 ^ down })
    ≡ front ds (length ds + up - down) * m + rounded rounding (record { over = back ds (down - up) * m; under = 10 ^ (down - up) })) [
      | inl more ↦ some_behind rounding ds m up down (omega arith)
      | inr less ↦ all_in_front rounding ds m up down less
    ]
