use Rattle.std.proofs.Common.{◌++◌, ◌*◌, ◌∙◌, arith, subst, sym, ◌≤◌, ℕ}
use Rattle.std.proofs.Math.Nat.{mul-le-mul_right}
use Rattle.objects.proofs.RatioLemmas.{tenth_within}
use Rattle.objects.proofs.Places.{behind_more, behind_none}
use Rattle.objects.proofs.digits.rounded_behind.Goals as goal

-- what a digit comes to is at most nine times the units
at_most_nine_times : (digit units : ℕ) → digit ≤ 9 → digit * units ≤ 9 * units
at_most_nine_times digit units few = mul-le-mul_right units few

pub overflow_mul-digit : goal.overflow_mul-digit
overflow_mul-digit c = omega (arith, c.requires.units, at_most_nine_times c.digit_from_end-digit.result c.args.units c.digit_from_end-digit.ensures.bounded)

pub overflow_add-digit : goal.overflow_add-digit
overflow_add-digit c =
    omega (arith, c.requires.units, c.loop-place.invariant.within, at_most_nine_times c.digit_from_end-digit.result c.args.units c.digit_from_end-digit.ensures.bounded)

pub loop-place-init : goal.loop-place-init
loop-place-init c = record {
  value = sym (behind_none c.args.rounding (c.args.whole.now ++ c.args.fraction.now) c.args.units);
  within = omega arith;
}

pub loop-place-preserved : goal.loop-place-preserved
loop-place-preserved c = record {
  value =
      c.tenth-amount.ensures
      ∙ behind_more c.args.rounding (c.args.whole.now ++ c.args.fraction.now) c.args.units c.loop-place.place
      c.digit_from_end-digit.result c.loop-place.amount c.digit_from_end-digit.ensures.value c.loop-place.invariant.value;
  within =
      let small : ℕ → Type 0 = λ n. n ≤ c.args.units in
      subst small (sym c.tenth-amount.ensures)
      (tenth_within c.args.rounding c.digit_from_end-digit.result c.args.units c.loop-place.amount
      c.digit_from_end-digit.ensures.bounded c.loop-place.invariant.within);
}
