use Rattle.std.proofs.Common.{◌∙◌, ◌^◌, ◌≤◌, arith}
use Rattle.std.proofs.Math.Nat.{pow-le-pow_right}
use Rattle.objects.proofs.Worth.{amount_told}
use Rattle.objects.proofs.quantity.amount.Goals as goal

pub returns : goal.returns
returns c =
    c.total.ensures
    ∙ amount_told c.args.rounding c.args.places c.args.most c.args.whole.now c.args.fraction.now c.args.suffix
    c.pow-units.result c.saturating_sub-in_front.result c.saturating_sub-behind.result
    c.number_in_front-number.result c.rounded_behind-part.result
    c.pow-units.ensures c.saturating_sub-in_front.ensures c.saturating_sub-behind.ensures
    c.number_in_front-number.ensures c.rounded_behind-part.ensures.value c.requires.most

pub rounded_behind-part-requires-clause-units : goal.rounded_behind-part-requires-clause-units
rounded_behind-part-requires-clause-units c =
    let most : 2 ^ c.args.suffix.twos ≤ 2 ^ 60 = pow-le-pow_right {n = 2} (omega arith) c.requires.twos in
    omega (arith, c.pow-units.ensures, most)
