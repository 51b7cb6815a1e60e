use Rattle.std.proofs.Common.{arith, ◌<◌, ◌^◌, ◌≡◌, length}
use Rattle.quant.proofs.Decimal.{digit_at, digit_more, fewer_than_fifteen, up_to_fifteen, number_more}
use Rattle.quant.proofs.spelling.read_number.Goals as goal

pub overflow_mul-value : goal.overflow_mul-value
overflow_mul-value c =
    let small : c.loop-digit.value < 10 ^ 14 = fewer_than_fifteen c.loop-digit.value c.loop-digit.digit-index c.args.most c.loop-digit.invariant.small (omega arith) (omega arith) in
    omega arith

pub overflow_add-value : goal.overflow_add-value
overflow_add-value c =
    let small : c.loop-digit.value < 10 ^ 14 = fewer_than_fifteen c.loop-digit.value c.loop-digit.digit-index c.args.most c.loop-digit.invariant.small (omega arith) (omega arith) in
    let digit = digit_at c.args.digits.now c.loop-digit.digit-index c.requires.digits c.loop-digit-test.true in
    omega arith

pub loop-digit-preserved : goal.loop-digit-preserved
loop-digit-preserved c =
    let digit = digit_at c.args.digits.now c.loop-digit.digit-index c.requires.digits c.loop-digit-test.true in
    record {
      value = omega (arith, number_more c.args.digits.now c.loop-digit.digit-index c.loop-digit-test.true);
      small = digit_more c.loop-digit.value c.from.result c.loop-digit.digit-index c.loop-digit.invariant.small (omega arith);
    }

pub returns-clause-bounded : goal.returns-clause-bounded
returns-clause-bounded c =
    let whole : c.loop-digit.digit-index ≡ length c.args.digits.now = omega arith in rw (← whole) c.loop-digit.invariant.small

pub returns-clause-most : goal.returns-clause-most
returns-clause-most c =
    up_to_fifteen c.loop-digit.value c.loop-digit.digit-index c.loop-digit.invariant.small (omega arith)
