use Rattle.std.proofs.Common.{◌++◌, arith}
use Rattle.objects.proofs.Places.{front_more}
use Rattle.objects.proofs.digits.number_in_front.Goals as goal

pub loop-place-preserved : goal.loop-place-preserved
loop-place-preserved c =
    omega (arith, c.min-number.ensures, c.loop-place.invariant, c.digit_at.ensures.value, front_more (c.args.whole.now ++ c.args.fraction.now) c.loop-place.place)
