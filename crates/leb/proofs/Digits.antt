-- Digits put together.
use Rattle.std.proofs.Common.{◌≡◌, ◌∷◌, get_or, add-one, true, false, cond, min, ℕ, suc, ◌+◌, ◌-◌, ◌*◌, ◌^◌, ◌<◌, ◌≤◌, ℤ, pos, negsuc, Ok, Err, Result, Bool, List, drop, length, refl, ap, ◌∙◌, arith}
use Rattle.std.proofs.Math.IntN.{◌+ℤ◌, ◌*ℤ◌}
use Rattle.std.proofs.lemmas.Int.{ints}
use Rattle.std.proofs.lemmas.Bool.{lt-ltb, le-ltb, le-leb, lt-leb}
use Rattle.std.proofs.lemmas.Nat.{pow-add, pow_pos}
use Rattle.std.proofs.Math.Nat.{mul-le-mul_left, min-eq_right}
use Rattle.std.proofs.Math.Pow.{pow_mono}
use Rattle.std.proofs.Math.Seq.{drop-cons}
use Rattle.std.proofs.Math.ListN.{drop_of_length-le}
use Rattle.leb.specs.Number.{Sign, unsigned, signed}
use Rattle.leb.specs.declared.LebFault.TheVariants.{Truncated, TooLong}
use Rattle.leb.specs.Reading.{before, last_at, join, onto, Found, reading}
use Rattle.leb.specs.inside.Reading.{sign_of}
use Rattle.leb.specs.declared.LebFault.{LebFault}

-- t is 128 * (h + 1) - (d + 1)
below_weight : (low w d h : ℕ) → low < w → d < 128 → w * suc (128 * suc h - suc d) - suc low ≡ w * 128 * suc h - suc (low + w * d)
below_weight low w d h a b =
    let e : 128 * suc h - suc d + suc d ≡ 128 * suc h = omega arith in
    let f : w * (128 * suc h - suc d + suc d) ≡ w * (128 * suc h) = ap (λ n. w * n) e in
    omega arith

-- a digit joins the digits below it
pub join_step : (low w d : ℕ) (x : ℤ) → low < w → d < 128 → join low w (join d 128 x) ≡ join (low + w * d) (w * 128) x
join_step low w d (pos h) a b = ap pos (omega arith)
join_step low w d (negsuc h) a b = ap negsuc (below_weight low w d h a b)

pub onto_step : (low w d : ℕ) (r : Result Found LebFault) → low < w → d < 128 → onto low w (onto d 128 r) ≡ onto (low + w * d) (w * 128) r
onto_step low w d (Ok found) a b = ap (λ v. Ok (v, found.1)) (join_step low w d found.0 a b)
onto_step low w d (Err e) a b = refl

-- the grammar's sum is that of the digits
pub join_is : (d : ℕ) (x : ℤ) → d < 128 → pos 128 *ℤ x +ℤ pos d ≡ join d 128 x
join_is d (pos h) a = ap pos (omega arith)
join_is d (negsuc h) a = omega (arith, ints)

-- one byte of what is read: it ends the number
pub ends : (s : Sign) (left b : ℕ) (rest : List ℕ) → b < 128 → reading s left (b ∷ rest) ≡ before rest (last_at s left b)
unfolding reading
ends s left b rest h = rw (lt-ltb b 128 h) refl

-- it says that another follows, where none may
pub too_long : (s : Sign) (left b : ℕ) (rest : List ℕ) → 128 ≤ b → left ≤ 7 → reading s left (b ∷ rest) ≡ Err TooLong
unfolding reading
too_long s left b rest h k = rw (le-ltb b 128 h, le-leb left 7 k) refl

-- it says that another follows
pub goes_on : (s : Sign) (left b : ℕ) (rest : List ℕ) → 128 ≤ b → 7 < left → reading s left (b ∷ rest) ≡ onto (b - 128) 128 (reading s (left - 7) rest)
unfolding reading
goes_on s left b rest h k = rw (le-ltb b 128 h, lt-leb left 7 k) refl

-- the byte at a place, and those after it
pub at_place : (bytes : List ℕ) (next : ℕ) → next < length bytes → drop next bytes ≡ get_or bytes next 0 ∷ drop (next + 1) bytes
at_place bytes next h = rw add-one (drop-cons bytes next 0 h)

-- what the code makes of a last byte that is negative
pub negative_is : (negative : Bool) (low w high : ℕ) (rest : List ℕ) (r : Result ℤ LebFault) → negative ≡ true → r ≡ Ok (cond negative (negsuc high) (pos high))
    → onto low w (before rest r) ≡ Ok (cond negative (negsuc ((high + 1) * w - (low + 1))) (pos ((high + 1) * w - (low + 1))), rest)
negative_is true low w high rest r t e = ap (λ x. onto low w (before rest x)) e ∙ ap (λ n. Ok (negsuc n, rest)) (omega arith)
negative_is false low w high rest r t e = cc

-- and of one that isn't
pub positive_is : (negative : Bool) (low w high : ℕ) (rest : List ℕ) (r : Result ℤ LebFault) → negative ≡ false → r ≡ Ok (cond negative (negsuc high) (pos high))
    → onto low w (before rest r) ≡ Ok (cond negative (negsuc (low + w * high)) (pos (low + w * high)), rest)
positive_is false low w high rest r t e = ap (λ x. onto low w (before rest x)) e
positive_is true low w high rest r t e = cc

-- a last byte that is refused
pub refused_is : (low w : ℕ) (rest : List ℕ) (r : Result ℤ LebFault) (e : LebFault) → r ≡ Err e → onto low w (before rest r) ≡ Err e
refused_is low w rest r e h = ap (λ x. onto low w (before rest x)) h

-- a byte below 64 is a number of its own, with a sign or without
last_small : (s : Sign) (bits b : ℕ) → 7 ≤ bits → b < 64 → last_at s bits b ≡ Ok (pos b)
unfolding last_at
last_small unsigned bits b k h = let m : min bits 7 ≡ 7 = min-eq_right k in rw (m, lt-ltb b (2 ^ 7) (omega arith)) refl
last_small signed bits b k h = let p : 6 ≤ bits - 1 = omega arith in let m : min (bits - 1) 6 ≡ 6 = min-eq_right p in rw (m, lt-ltb b (2 ^ 6) h) refl

pub small_is : (s : Sign) (bits : ℕ) (bytes : List ℕ) (at : ℕ) → 7 ≤ bits → at < length bytes → get_or bytes at 0 < 64
    → reading s bits (drop at bytes) ≡ Ok (pos (get_or bytes at 0), drop (at + 1) bytes)
small_is s bits bytes at k p h =
    ap (reading s bits) (at_place bytes at p) ∙ ends s bits (get_or bytes at 0) (drop (at + 1) bytes) (omega arith)
    ∙ ap (before (drop (at + 1) bytes)) (last_small s bits (get_or bytes at 0) k h)

-- The bits below the weight are read, the others are left. What is read from the start is that,
-- joined to what is read from here on.
pub record HasRead (bytes : List ℕ) (at : ℕ) (sign : Bool) (bits low weight left next : ℕ) : Type 0 where
  pub rest : reading (sign_of sign) bits (drop at bytes) ≡ onto low weight (reading (sign_of sign) left (drop next bytes))
  pub below : low < weight
  pub all : weight * 2 ^ left ≡ 2 ^ bits
  pub some : 1 ≤ left
  pub fits : left ≤ 64
  pub place : next ≤ length bytes

module _ {bytes : List ℕ} {at : ℕ} {sign : Bool} {bits low weight left next : ℕ} (h : HasRead bytes at sign bits low weight left next) where
  -- the weight and a digit more stay within the bits
  pub step_fits : bits ≤ 64 → 7 < left → weight * 128 < 2 ^ 64
  step_fits m k =
      let e : left ≡ left - 8 + 8 = omega arith in
      let f : 2 ^ left ≡ 2 ^ (left - 8) * 2 ^ 8 = ap (λ n. 2 ^ n) e ∙ pow-add 2 (left - 8) 8 in
      let p : 0 < 2 ^ (left - 8) = pow_pos (left - 8) in
      let i : weight * 2 ^ left ≡ weight * (2 ^ (left - 8) * 2 ^ 8) = ap (λ n. weight * n) f in
      let g : weight * 256 * 2 ^ (left - 8) ≡ 2 ^ bits = omega (arith, i, h.all) in
      let q : weight * 256 * 1 ≤ weight * 256 * 2 ^ (left - 8) = mul-le-mul_left (weight * 256) p in
      let r : 2 ^ bits ≤ 2 ^ 64 = pow_mono m in
      omega (arith, h.below)

  pub step_all : 7 < left → weight * 128 * 2 ^ (left - 7) ≡ 2 ^ bits
  step_all k =
      let e : left ≡ left - 7 + 7 = omega arith in
      let f : 2 ^ left ≡ 2 ^ (left - 7) * 2 ^ 7 = ap (λ n. 2 ^ n) e ∙ pow-add 2 (left - 7) 7 in
      let i : weight * 2 ^ left ≡ weight * (2 ^ (left - 7) * 2 ^ 7) = ap (λ n. weight * n) f in
      omega (arith, i, h.all)

  -- the digits with one more
  pub digit_below : (d : ℕ) → d < 128 → low + weight * d < weight * 128
  digit_below d k =
      let q : weight * (d + 1) ≤ weight * 128 = mul-le-mul_left weight (omega arith) in
      omega (arith, h.below)

  pub add_fits : bits ≤ 64 → 7 < left → (d : ℕ) → d < 128 → low + weight * d < 2 ^ 64
  add_fits m k d b = omega (arith, digit_below d b, step_fits m k)

  -- a last digit stays within the bits
  pub last_fits : (high : ℕ) → bits ≤ 64 → high < 2 ^ left → low + weight * high < 2 ^ 64
  last_fits high m k =
      let q : weight * (high + 1) ≤ weight * 2 ^ left = mul-le-mul_left weight (omega arith) in
      let r : 2 ^ bits ≤ 2 ^ 64 = pow_mono m in
      omega (arith, h.below, h.all)

  pub negative_fits : (high : ℕ) → bits ≤ 64 → high < 2 ^ (left - 1) → (high + 1) * weight < 2 ^ 64
  negative_fits high m k =
      let e : left ≡ left - 1 + 1 = omega (arith, h.some) in
      let f : 2 ^ left ≡ 2 ^ (left - 1) * 2 = ap (λ n. 2 ^ n) e ∙ pow-add 2 (left - 1) 1 in
      let q : weight * (high + 1) ≤ weight * 2 ^ (left - 1) = mul-le-mul_left weight (omega arith) in
      let i : weight * 2 ^ left ≡ weight * (2 ^ (left - 1) * 2) = ap (λ n. weight * n) f in
      let g : weight * 2 ^ (left - 1) * 2 ≡ 2 ^ bits = omega (arith, i, h.all) in
      let r : 2 ^ bits ≤ 2 ^ 64 = pow_mono m in
      let t : 0 < weight = omega (arith, h.below) in
      omega arith

  -- the last byte of what is read
  pub last_is : next < length bytes → get_or bytes next 0 < 128
      → reading (sign_of sign) bits (drop at bytes) ≡ onto low weight (before (drop (next + 1) bytes) (last_at (sign_of sign) left (get_or bytes next 0)))
  last_is p b = h.rest ∙ ap (λ l. onto low weight (reading (sign_of sign) left l)) (at_place bytes next p) ∙ ap (onto low weight) (ends (sign_of sign) left _ _ b)

  pub too_long_is : next < length bytes → 128 ≤ get_or bytes next 0 → left ≤ 7 → reading (sign_of sign) bits (drop at bytes) ≡ Err TooLong
  too_long_is p b k = h.rest ∙ ap (λ l. onto low weight (reading (sign_of sign) left l)) (at_place bytes next p) ∙ ap (onto low weight) (too_long (sign_of sign) left _ _ b k)

  pub truncated_is : length bytes ≤ next → reading (sign_of sign) bits (drop at bytes) ≡ Err Truncated
  unfolding reading
  truncated_is p = h.rest ∙ ap (λ l. onto low weight (reading (sign_of sign) left l)) (drop_of_length-le bytes p)

  -- one more byte
  pub more : next < length bytes → 128 ≤ get_or bytes next 0 → get_or bytes next 0 < 256 → 7 < left
      → HasRead bytes at sign bits (low + weight * (get_or bytes next 0 - 128)) (weight * 128) (left - 7) (next + 1)
  more p b c k = record {
    rest = h.rest ∙ ap (λ l. onto low weight (reading (sign_of sign) left l)) (at_place bytes next p) ∙ ap (onto low weight) (goes_on (sign_of sign) left _ _ b k)
        ∙ onto_step low weight _ _ h.below (omega arith);
    below = digit_below _ (omega arith);
    all = step_all k;
    some = omega arith;
    fits = omega (arith, h.fits);
    place = omega arith;
  }
