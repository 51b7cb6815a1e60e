use Rattle.std.proofs.Common.{◌-◌, ◌<◌, arith, ◌∙◌, get_or}
use Rattle.std.proofs.lemmas.Result.{err_from_is_err_and}
use Rattle.leb.proofs.Digits.{step_fits, add_fits, last_fits, negative_fits, last_is, negative_is, positive_is, refused_is, too_long_is, truncated_is, more}
use Rattle.leb.proofs.scan.Goals as goal

pub returns-in_err-negative : goal.returns-in_err-negative
returns-in_err-negative c =
    let p = err_from_is_err_and c.from_residual.result c.from_residual.ensures.1 in
    rw (p.1, p.2) (last_is c.loop-next.invariant c.loop-next-test.true c.if-byte-lt128.true
    ∙ refused_is _ _ _ _ _ c.in_err-negative.ensures.value)

pub overflow_mul-low : goal.overflow_mul-low
overflow_mul-low c = omega (arith, negative_fits c.loop-next.invariant c.in_ok-negative.high c.requires.most (c.in_ok-negative.ensures.below c.if-negative.true))

pub overflow_mul-low-else-negative : goal.overflow_mul-low-else-negative
overflow_mul-low-else-negative c = omega (arith, last_fits c.loop-next.invariant c.in_ok-negative.high c.requires.most c.in_ok-negative.ensures.within)

pub overflow_add-low-else-negative : goal.overflow_add-low-else-negative
overflow_add-low-else-negative c = omega (arith, last_fits c.loop-next.invariant c.in_ok-negative.high c.requires.most c.in_ok-negative.ensures.within)

pub returns-then-negative : goal.returns-then-negative
returns-then-negative c = (
  omega arith,
  last_is c.loop-next.invariant c.loop-next-test.true c.if-byte-lt128.true
      ∙ negative_is c.in_ok-negative.negative _ _ c.in_ok-negative.high _ _ c.if-negative.true c.in_ok-negative.ensures.value,
)

pub returns-else-negative : goal.returns-else-negative
returns-else-negative c = (
  omega arith,
  last_is c.loop-next.invariant c.loop-next-test.true c.if-byte-lt128.true
      ∙ positive_is c.in_ok-negative.negative _ _ c.in_ok-negative.high _ _ c.if-negative.false c.in_ok-negative.ensures.value,
)

pub returns-then-left-le7 : goal.returns-then-left-le7
returns-then-left-le7 c = too_long_is c.loop-next.invariant c.loop-next-test.true c.if-byte-lt128.false c.if-left-le7.true

pub overflow_mul-low-in-loop-next : goal.overflow_mul-low-in-loop-next
overflow_mul-low-in-loop-next c =
    let b : get_or c.args.bytes.now c.loop-next.next 0 - 128 < 128 = omega (arith, c.type_inv.bytes c.loop-next.next) in
    omega (arith, add_fits c.loop-next.invariant c.requires.most c.if-left-le7.false _ b)

pub overflow_add-low-in-loop-next : goal.overflow_add-low-in-loop-next
overflow_add-low-in-loop-next c =
    let b : get_or c.args.bytes.now c.loop-next.next 0 - 128 < 128 = omega (arith, c.type_inv.bytes c.loop-next.next) in
    omega (arith, add_fits c.loop-next.invariant c.requires.most c.if-left-le7.false _ b)

pub overflow_mul-weight : goal.overflow_mul-weight
overflow_mul-weight c = omega (arith, step_fits c.loop-next.invariant c.requires.most c.if-left-le7.false)

pub loop-next-preserved : goal.loop-next-preserved
loop-next-preserved c = more c.loop-next.invariant c.loop-next-test.true c.if-byte-lt128.false (omega (arith, c.type_inv.bytes c.loop-next.next)) c.if-left-le7.false

pub returns : goal.returns
returns c = truncated_is c.loop-next.invariant c.loop-next-test.false
