-- Fractions that are rounded: of a sum with a whole number, in lower terms, and digit by digit.
use Rattle.std.proofs.Common.{◌≡◌, ℕ, zero, suc, add-one, ◌+◌, ◌-◌, ◌*◌, ◌/◌, ◌<◌, ◌≤◌, arith, sym, ◌∙◌, ap}
use Rattle.std.proofs.Math.Nat.{mul-add-div_right, div-div-eq-div-mul, mul_comm, add-mul, mul-div_cancel, mul-le-mul_right}
use Rattle.std.proofs.lemmas.Nat.{div-mul-add}
use Rattle.objects.specs.declared.quantity.Rounding.{Rounding}
use Rattle.objects.specs.declared.quantity.Rounding.TheVariants.{Up, Down}
use Rattle.objects.specs.Ratio.{rounded}

-- a whole number more is a whole number more when rounded
pub rounded_sum : (rounding : Rounding) (a x u : ℕ) → 0 < u
    → rounded rounding (record { over = a * u + x; under = u }) ≡ a + rounded rounding (record { over = x; under = u })
rounded_sum Down a x u h = mul-add-div_right h a x
rounded_sum Up a x u h =
    let e : a * u + x + (u - 1) ≡ a * u + (x + (u - 1)) = omega arith in
    ap (λ n. n / u) e ∙ mul-add-div_right h a (x + (u - 1))

-- a whole number rounded is itself
pub rounded_whole : (rounding : Rounding) (n : ℕ) → rounded rounding (record { over = n; under = 1 }) ≡ n
rounded_whole Down n = omega arith
rounded_whole Up n = omega arith

-- one less than a product
less_one : (x u k : ℕ) → 0 < k → x * k + (suc u * k - 1) ≡ (x + u) * k + (k - 1)
less_one x u k h =
    let e : suc u * k ≡ u * k + k = ap (λ n. n * k) (sym (add-one u)) ∙ add-mul u 1 k ∙ omega arith in
    let d : (x + u) * k ≡ x * k + u * k = add-mul x u k in
    omega (arith, e, d)

-- a factor of both numbers of a fraction counts for nothing
pub rounded_lower : (rounding : Rounding) (x u k : ℕ) → 0 < u → 0 < k
    → rounded rounding (record { over = x * k; under = u * k }) ≡ rounded rounding (record { over = x; under = u })
rounded_lower Down x u k hu h =
    ap (λ n. x * k / n) (mul_comm u k) ∙ sym (div-div-eq-div-mul (x * k) k u) ∙ ap (λ n. n / u) (mul-div_cancel x h)
rounded_lower Up x zero k hu h = absurd (omega arith)
rounded_lower Up x (suc u) k hu h =
    ap (λ n. (x * k + (suc u * k - 1)) / n) (mul_comm (suc u) k)
    ∙ sym (div-div-eq-div-mul (x * k + (suc u * k - 1)) k (suc u))
    ∙ ap (λ n. n / k / suc u) (less_one x u k h)
    ∙ ap (λ n. n / suc u) (div-mul-add (x + u) k (k - 1) (omega arith))
    ∙ ap (λ n. (x + n) / suc u) (omega arith)

-- ten times a number, less one
nine_more : (d x c : ℕ) → 0 < c → d * c + x + (c * 10 - 1) ≡ (d + 9) * c + (x + (c - 1))
nine_more d x c h = let e : (d + 9) * c ≡ d * c + 9 * c = add-mul d 9 c in omega (arith, e)

-- a digit more in front of what is rounded already
pub rounded_tenth : (rounding : Rounding) (d x c : ℕ) → 0 < c
    → rounded rounding (record { over = d + rounded rounding (record { over = x; under = c }); under = 10 })
    ≡ rounded rounding (record { over = d * c + x; under = c * 10 })
rounded_tenth Down d x c h =
    sym (sym (div-div-eq-div-mul (d * c + x) c 10) ∙ ap (λ n. n / 10) (mul-add-div_right h d x))
rounded_tenth Up d x c h =
    sym (
    sym (div-div-eq-div-mul (d * c + x + (c * 10 - 1)) c 10)
    ∙ ap (λ n. n / c / 10) (nine_more d x c h)
    ∙ ap (λ n. n / 10) (mul-add-div_right h (d + 9) (x + (c - 1)))
    ∙ ap (λ n. n / 10) (let e : d + 9 + (x + (c - 1)) / c ≡ d + (x + (c - 1)) / c + 9 = omega arith in e)
    )

-- a tenth of nine units and one more is no more than a unit
pub tenth_within : (rounding : Rounding) (digit units amount : ℕ) → digit ≤ 9 → amount ≤ units
    → rounded rounding (record { over = digit * units + amount; under = 10 }) ≤ units
tenth_within Down digit units amount h k =
    let most : digit * units ≤ 9 * units = mul-le-mul_right units h in omega (arith, most)
tenth_within Up digit units amount h k =
    let most : digit * units ≤ 9 * units = mul-le-mul_right units h in omega (arith, most)
