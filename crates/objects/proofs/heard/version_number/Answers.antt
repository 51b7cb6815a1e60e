use Rattle.std.proofs.Common.{arith, ℕ, ◌≤◌, ◌<◌, ◌^◌, length}
use Rattle.std.proofs.Math.Nat.{pow-le-pow_right}
use Rattle.quant.proofs.Decimal.{digit_at, digit_more, number_more}
use Rattle.objects.proofs.heard.version_number.Goals as goal

-- fewer than 18 digits spell a number below 10 to the 17
fewer_than_eighteen : (v i n : ℕ) → v < 10 ^ i → i < n → n < 19 → v < 10 ^ 17
fewer_than_eighteen v i n h k few =
    let most : 10 ^ i ≤ 10 ^ 17 = pow-le-pow_right {n = 10} (omega arith) (let j : i ≤ 17 = omega arith in j) in omega arith

pub overflow_mul-value : goal.overflow_mul-value
overflow_mul-value c =
    let small : c.loop-digit.value < 10 ^ 17 = fewer_than_eighteen c.loop-digit.value c.loop-digit.digit-index (length c.args.digits.now) c.loop-digit.invariant.small (omega arith) (omega (arith, c.requires.few)) in
    omega arith

pub overflow_add-value : goal.overflow_add-value
overflow_add-value c =
    let small : c.loop-digit.value < 10 ^ 17 = fewer_than_eighteen c.loop-digit.value c.loop-digit.digit-index (length c.args.digits.now) c.loop-digit.invariant.small (omega arith) (omega (arith, c.requires.few)) in
    let digit = digit_at c.args.digits.now c.loop-digit.digit-index c.requires.digits c.loop-digit-test.true in
    omega arith

pub loop-digit-preserved : goal.loop-digit-preserved
loop-digit-preserved c =
    let digit = digit_at c.args.digits.now c.loop-digit.digit-index c.requires.digits c.loop-digit-test.true in
    record {
      value = omega (arith, number_more c.args.digits.now c.loop-digit.digit-index c.loop-digit-test.true);
      small = digit_more c.loop-digit.value c.from.result c.loop-digit.digit-index c.loop-digit.invariant.small (omega arith);
    }
