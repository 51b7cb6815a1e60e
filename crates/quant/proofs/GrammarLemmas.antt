-- What the grammar of amounts derives is what the definitions find.
use Rattle.std.proofs.Common.{◌≡◌, ℕ, ◌+◌, ◌*◌, ◌<◌, Bool, true, false, ◌&&◌, cond, ◌⊎◌, inl, inr, List, [], ◌∷◌, ◌++◌, length, take, drop, Some, None, Option, refl, arith, sym, ◌∙◌, ap, subst, codes, bytes_eq, option_map, append-nil, ◌≤◌, eqb, nat_le, lit<}
use Rattle.std.specs.List.{list_all, prefix_len}
use Rattle.std.proofs.lemmas.List.{take-append-drop}
use Rattle.std.proofs.Math.Seq.{take-append_seam, drop-append_seam}
use Rattle.std.proofs.lemmas.Slice.Eq.{bytes_eq-Decides}
use Rattle.std.proofs.lemmas.Bool.{leb-true}
use Rattle.std.proofs.lemmas.Bool.Decides.{nat_tests}
use Rattle.quant.specs.Amount.{is_digit, is_digits, number, leading_digits, after_digits, thousandths, cpu_with, cpu_spelled, unit_of, bytes_spelled}
use Rattle.quant.specs.Grammar.{SpellsCpu, cores, fraction, thousandth, SpellsBytes, units}

-- nothing, or a byte that is no digit
abbrev no_digit_first : List ℕ → Bool
no_digit_first [] = true
no_digit_first (c ∷ cs) = cond (is_digit c) false true

-- a choice that gave a value gave it on one of its sides
by_test : (b : Bool) (x y : Option ℕ) (n : ℕ) → cond b x y ≡ Some n → ((b ≡ true) × (x ≡ Some n)) ⊎ ((b ≡ false) × (y ≡ Some n))
by_test true x y n e = inl (refl, e)
by_test false x y n e = inr (refl, e)

-- two tests that both passed
both_passed : (a b : Bool) → (a && b) ≡ true → (a ≡ true) × (b ≡ true)
both_passed true b e = (refl, e)
both_passed false b e = absurd (cc)

-- digits with no further digit behind them are the digits in front
front_is : (d rest : List ℕ) → list_all is_digit d ≡ true → no_digit_first rest ≡ true → prefix_len is_digit (d ++ rest) ≡ length d
front_is [] [] all stop = refl
front_is [] (c ∷ cs) all stop =
    (elim (is_digit c) as (λ b. cond b false true ≡ true → cond b (1 + prefix_len is_digit cs) 0 ≡ 0) [
      | true ↦ λ wrong. absurd (cc)
      | false ↦ λ _. refl
    ]) stop
front_is (x ∷ d) rest all stop =
    let parts = both_passed (is_digit x) (list_all is_digit d) all in
    ap (λ b. cond b (1 + prefix_len is_digit (d ++ rest)) 0) parts.0 ∙ omega (arith, front_is d rest parts.1 stop)

leading_is : (d rest : List ℕ) → list_all is_digit d ≡ true → no_digit_first rest ≡ true → leading_digits (d ++ rest) ≡ d
leading_is d rest all stop = ap (λ n. take n (d ++ rest)) (front_is d rest all stop) ∙ take-append_seam d rest

after_is : (d rest : List ℕ) → list_all is_digit d ≡ true → no_digit_first rest ≡ true → after_digits (d ++ rest) ≡ rest
after_is d rest all stop = ap (λ n. drop n (d ++ rest)) (front_is d rest all stop) ∙ drop-append_seam d rest

all_digits : (most : ℕ) (d : List ℕ) → is_digits most d ≡ true → list_all is_digit d ≡ true
all_digits most d h = (both_passed _ (list_all is_digit d) h).1

-- what the digits in front and the rest spell
abbrev cpu_parts : List ℕ → List ℕ → Option ℕ
cpu_parts d rest = cond (is_digits 15 d) (cpu_with (number d) rest) None

abbrev bytes_parts : List ℕ → List ℕ → Option ℕ
bytes_parts d rest = cond (is_digits 15 d) (option_map (λ unit. number d * unit) (unit_of rest)) None

cpu_is : (d rest : List ℕ) → is_digits 15 d ≡ true → no_digit_first rest ≡ true → cpu_spelled (d ++ rest) ≡ cpu_with (number d) rest
cpu_is d rest h stop =
    let all = all_digits 15 d h in
    (λ i. cpu_parts (leading_is d rest all stop i) (after_is d rest all stop i))
    ∙ ap (λ b. cond b (cpu_with (number d) rest) None) h

bytes_is : (d rest : List ℕ) → is_digits 15 d ≡ true → no_digit_first rest ≡ true
    → bytes_spelled (d ++ rest) ≡ option_map (λ unit. number d * unit) (unit_of rest)
bytes_is d rest h stop =
    let all = all_digits 15 d h in
    (λ i. bytes_parts (leading_is d rest all stop i) (after_is d rest all stop i))
    ∙ ap (λ b. cond b (option_map (λ unit. number d * unit) (unit_of rest)) None) h

-- what the grammar derives is found
cpu_from : (text : List ℕ) (n : ℕ) → SpellsCpu text n → cpu_spelled text ≡ Some n
cpu_from text n (cores d h) = ap cpu_spelled (sym (append-nil d)) ∙ cpu_is d [] h refl
cpu_from text n (fraction d f h g) =
    cpu_is d (46 ∷ f) h refl ∙ ap (λ b. cond b (Some (number d * 1000 + thousandths f)) None) g
cpu_from text n (thousandth d h) = cpu_is d (109 ∷ []) h refl

-- what is found is derived
cpu_with_to : (d rest : List ℕ) (n : ℕ) → is_digits 15 d ≡ true → cpu_with (number d) rest ≡ Some n → SpellsCpu (d ++ rest) n
cpu_with_to d rest n h e =
    elim (by_test (bytes_eq rest []) _ _ n e) as (λ _. SpellsCpu (d ++ rest) n) [
      | inl whole ↦
          let empty : [] ≡ rest = sym ((bytes_eq-Decides rest []).0 whole.0) in
          let value : number d * 1000 ≡ n = let is = whole.1 in cc in
          subst (λ m. SpellsCpu (d ++ rest) m) value
          (subst (λ t. SpellsCpu (d ++ t) (number d * 1000)) empty
          (subst (λ t. SpellsCpu t (number d * 1000)) (sym (append-nil d)) (cores d h)))
      | inr more ↦ elim (by_test (bytes_eq rest (codes "m")) _ _ n more.1) as (λ _. SpellsCpu (d ++ rest) n) [
        | inl small ↦
            let suffix : codes "m" ≡ rest = sym ((bytes_eq-Decides rest (codes "m")).0 small.0) in
            let value : number d ≡ n = let is = small.1 in cc in
            subst (λ m. SpellsCpu (d ++ rest) m) value
            (subst (λ t. SpellsCpu (d ++ t) (number d)) suffix (thousandth d h))
        | inr other ↦ elim (by_test (bytes_eq (take 1 rest) (codes ".") && is_digits 3 (drop 1 rest)) _ _ n other.1) as (λ _. SpellsCpu (d ++ rest) n) [
          | inl point ↦
              let parts = both_passed (bytes_eq (take 1 rest) (codes ".")) (is_digits 3 (drop 1 rest)) point.0 in
              let dot : codes "." ≡ take 1 rest = sym ((bytes_eq-Decides (take 1 rest) (codes ".")).0 parts.0) in
              let whole : codes "." ++ drop 1 rest ≡ rest = ap (λ t. t ++ drop 1 rest) dot ∙ take-append-drop 1 rest in
              let value : number d * 1000 + thousandths (drop 1 rest) ≡ n = let is = point.1 in cc in
              subst (λ m. SpellsCpu (d ++ rest) m) value
              (subst (λ t. SpellsCpu (d ++ t) (number d * 1000 + thousandths (drop 1 rest))) whole
              (fraction d (drop 1 rest) h parts.1))
          | inr nothing ↦ absurd (let wrong = nothing.1 in cc)
        ]
      ]
    ]

cpu_parts_to : (d rest : List ℕ) (n : ℕ) → cpu_parts d rest ≡ Some n → SpellsCpu (d ++ rest) n
cpu_parts_to d rest n e =
    elim (by_test (is_digits 15 d) _ _ n e) as (λ _. SpellsCpu (d ++ rest) n) [
      | inl p ↦ cpu_with_to d rest n p.0 p.1
      | inr q ↦ absurd (let wrong = q.1 in cc)
    ]

cpu_to : (text : List ℕ) (n : ℕ) → cpu_spelled text ≡ Some n → SpellsCpu text n
cpu_to text n e =
    subst (λ t. SpellsCpu t n) (take-append-drop (prefix_len is_digit text) text)
    (cpu_parts_to (leading_digits text) (after_digits text) n e)

pub cpu_grammar : (text : List ℕ) (n : ℕ) → (SpellsCpu text n → cpu_spelled text ≡ Some n) × (cpu_spelled text ≡ Some n → SpellsCpu text n)
cpu_grammar text n = (cpu_from text n, cpu_to text n)

-- no unit begins with a digit
no_unit : (c k : ℕ) (cs ks : List ℕ) → is_digit c ≡ true → 57 < k → bytes_eq (c ∷ cs) (k ∷ ks) ≡ false
no_unit c k cs ks h big =
    let small : c ≤ 57 = leb-true c 57 (both_passed (nat_le 48 c) (nat_le c 57) h).1 in
    let apart : eqb c k ≡ false = grind (arith, nat_tests) in
    ap (λ b. b && bytes_eq cs ks) apart

no_digit_unit : (c : ℕ) (cs : List ℕ) → is_digit c ≡ true → unit_of (c ∷ cs) ≡ None
no_digit_unit c cs h =
    rw (
      no_unit c 107 cs [] h (lit< tt),
      no_unit c 77 cs [] h (lit< tt),
      no_unit c 71 cs [] h (lit< tt),
      no_unit c 84 cs [] h (lit< tt),
      no_unit c 75 cs (105 ∷ []) h (lit< tt),
      no_unit c 77 cs (105 ∷ []) h (lit< tt),
      no_unit c 71 cs (105 ∷ []) h (lit< tt),
      no_unit c 84 cs (105 ∷ []) h (lit< tt),
    ) refl

unit_stops : (suffix : List ℕ) (unit : ℕ) → unit_of suffix ≡ Some unit → no_digit_first suffix ≡ true
unit_stops [] unit e = refl
unit_stops (c ∷ cs) unit e =
    (elim (is_digit c) as (λ b. is_digit c ≡ b → cond b false true ≡ true) [
      | true ↦ λ digit. absurd (let wrong = sym (no_digit_unit c cs digit) ∙ e in cc)
      | false ↦ λ _. refl
    ]) refl

bytes_from : (text : List ℕ) (n : ℕ) → SpellsBytes text n → bytes_spelled text ≡ Some n
bytes_from text n (units d suffix unit h e) =
    bytes_is d suffix h (unit_stops suffix unit e) ∙ ap (option_map (λ u. number d * u)) e

mapped : (f : ℕ → ℕ) (o : Option ℕ) (n : ℕ) → option_map f o ≡ Some n → (u : ℕ) × (o ≡ Some u) × (f u ≡ n)
mapped f None n e = absurd (cc)
mapped f (Some u) n e = (u, refl, cc)

bytes_parts_to : (d rest : List ℕ) (n : ℕ) → bytes_parts d rest ≡ Some n → SpellsBytes (d ++ rest) n
bytes_parts_to d rest n e =
    elim (by_test (is_digits 15 d) _ _ n e) as (λ _. SpellsBytes (d ++ rest) n) [
      | inl p ↦
          let m = mapped (λ u. number d * u) (unit_of rest) n p.1 in
          subst (λ k. SpellsBytes (d ++ rest) k) m.2 (units d rest m.0 p.0 m.1)
      | inr q ↦ absurd (let wrong = q.1 in cc)
    ]

bytes_to : (text : List ℕ) (n : ℕ) → bytes_spelled text ≡ Some n → SpellsBytes text n
bytes_to text n e =
    subst (λ t. SpellsBytes t n) (take-append-drop (prefix_len is_digit text) text)
    (bytes_parts_to (leading_digits text) (after_digits text) n e)

pub bytes_grammar : (text : List ℕ) (n : ℕ) → (SpellsBytes text n → bytes_spelled text ≡ Some n) × (bytes_spelled text ≡ Some n → SpellsBytes text n)
bytes_grammar text n = (bytes_from text n, bytes_to text n)
