-- What a line spells of an amount is read back as that amount.
use Rattle.std.proofs.Common.{◌≡◌, ℕ, ◌+◌, ◌*◌, ◌^◌, ◌%◌, ◌<◌, ◌≤◌, true, cond, List, [], ◌∷◌, ◌++◌, length, take, drop, Ok, decimal, codes, refl, sym, ap, ◌∙◌, arith, append-nil, le-leb}
use Rattle.std.proofs.lemmas.Bool.{and_parts, and_from}
use Rattle.std.proofs.lemmas.Bool.Decides.{nat_tests}
use Rattle.std.proofs.lemmas.Fmt.{decimal_by_steps, decimal_nonempty, length-decimal-le}
use Rattle.std.proofs.lemmas.List.{take_at, drop_at}
use Rattle.std.proofs.lemmas.List.Folds.{list_all-append}
use Rattle.std.specs.List.{list_all, prefix_len}
use Rattle.quant.specs.Amount.{is_digit, is_digits, number, leading_digits, after_digits, cpu_read, bytes_read}
use Rattle.quant.specs.declared.amount.Cpu.{Cpu}
use Rattle.quant.specs.declared.amount.Bytes.{Bytes}
use Rattle.quant.proofs.Decimal.{number_push}
use Rattle.objects.specs.inside.Line.{cpu_text, memory_text}

one_digit : (n : ℕ) → n < 10 → is_digit (48 + n) ≡ true
one_digit n h = grind (arith, nat_tests)

-- a number's digits are digits
pub decimal_digits : (n : ℕ) → n < 2 ^ 64 → list_all is_digit (decimal n) ≡ true
decimal_digits =
    decimal_by_steps (λ n ds. list_all is_digit ds ≡ true)
    (λ n h. and_from _ _ (one_digit n h) refl)
    (λ n ds h k. list_all-append is_digit ds ((48 + n % 10) ∷ []) ∙ and_from _ _ k (and_from _ _ (one_digit (n % 10) (omega arith)) refl))

-- and spell it
decimal_number : (n : ℕ) → n < 2 ^ 64 → number (decimal n) ≡ n
decimal_number =
    decimal_by_steps (λ n ds. number ds ≡ n)
    (λ n h. omega arith)
    (λ n ds h k. number_push ds (48 + n % 10) ∙ omega (arith, k))

-- the digits in front of what begins with none
prefix_digits : (ds rest : List ℕ) → list_all is_digit ds ≡ true → prefix_len is_digit rest ≡ 0 → prefix_len is_digit (ds ++ rest) ≡ length ds
prefix_digits [] rest all none = none
prefix_digits (d ∷ ds) rest all none =
    let parts = and_parts _ _ all in
    ap (λ b. cond b (1 + prefix_len is_digit (ds ++ rest)) 0) parts.0 ∙ omega (arith, prefix_digits ds rest parts.1 none)

front_digits : (ds rest : List ℕ) → list_all is_digit ds ≡ true → prefix_len is_digit rest ≡ 0 → leading_digits (ds ++ rest) ≡ ds
front_digits ds rest all none = ap (λ n. take n (ds ++ rest)) (prefix_digits ds rest all none) ∙ take_at ds rest _ refl

behind_digits : (ds rest : List ℕ) → list_all is_digit ds ≡ true → prefix_len is_digit rest ≡ 0 → after_digits (ds ++ rest) ≡ rest
behind_digits ds rest all none = ap (λ n. drop n (ds ++ rest)) (prefix_digits ds rest all none) ∙ drop_at ds rest _ refl

-- a number below 10^15 has 1 to 15 digits
few_digits : (n : ℕ) → n < 10 ^ 15 → is_digits 15 (decimal n) ≡ true
few_digits n h =
    let small : n < 2 ^ 64 = omega arith in
    and_from _ _ (and_from _ _ (le-leb 1 _ (decimal_nonempty n small)) (le-leb _ 15 (length-decimal-le 15 n (omega arith) h small))) (decimal_digits n small)

pub cpu_back : (cpu : Cpu) → cpu.0 ≤ 2 ^ 30 → cpu_read (cpu_text cpu) ≡ Ok cpu
unfolding cpu_read
cpu_back cpu h =
    let n = cpu.0 in
    let small : n < 2 ^ 64 = omega arith in
    let all = decimal_digits n small in
    rw (
      front_digits (decimal n) (codes "m") all refl,
      behind_digits (decimal n) (codes "m") all refl,
      few_digits n (omega arith),
      decimal_number n small,
      le-leb n (2 ^ 30) h,
    ) refl

pub memory_back : (mem : Bytes) → mem.0 ≤ 2 ^ 44 → bytes_read (memory_text mem) ≡ Ok mem
unfolding bytes_read
memory_back mem h =
    let n = mem.0 in
    let small : n < 2 ^ 64 = omega arith in
    let all = decimal_digits n small in
    let front : leading_digits (decimal n) ≡ decimal n = ap leading_digits (sym (append-nil (decimal n))) ∙ front_digits (decimal n) [] all refl in
    let behind : after_digits (decimal n) ≡ [] = ap after_digits (sym (append-nil (decimal n))) ∙ behind_digits (decimal n) [] all refl in
    let one : n * 1 ≡ n = omega arith in
    rw (front, behind, few_digits n (omega arith), decimal_number n small, one, le-leb n (2 ^ 44) h) refl
