use Rattle.std.proofs.Common.{◌≡◌, ◌+◌, take, refl, sym, ap, ◌∙◌, arith}
use Rattle.std.proofs.lemmas.List.{append-nil}
use Rattle.wmach.proofs.Zeros.{one_more}
use Rattle.wmach.proofs.calls.push_zeros.Goals as goal

pub loop-i-init : goal.loop-i-init
loop-i-init c = record {
  zeros = ap (λ n. take n c.args.slots.now) (let e : c.args.top + 0 ≡ c.args.top = omega arith in e) ∙ sym (append-nil (take c.args.top c.args.slots.now));
  long = refl;
}

pub loop-i-preserved : goal.loop-i-preserved
loop-i-preserved c =
    let m = one_more c.args.slots.now c.args.top c.loop-i.i c.loop-i.slots c.loop-i.invariant.zeros c.loop-i.invariant.long (omega (arith, c.loop-i.invariant.long)) in
    record { zeros = m.zeros; long = m.long }
