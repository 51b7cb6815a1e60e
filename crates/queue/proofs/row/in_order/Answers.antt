use Rattle.std.proofs.Common.{length, refl, ap, arith}
use Rattle.std.proofs.lemmas.List.{length_push}
use Rattle.queue.proofs.Rows.{numbered}
use Rattle.queue.proofs.row.in_order.Goals as goal

-- one number more
pub loop-number-preserved : goal.loop-number-preserved
loop-number-preserved c =
    let xs = c.loop-number.row.items in
    let put = c.in-Ok-push.ensures.items in
    record {
      len = omega (arith, ap length put, length_push xs c.loop-number.number, c.loop-number.invariant.len);
      each = numbered xs c.push.new.self.items c.loop-number.number _ c.loop-number.invariant.len c.loop-number.invariant.each put refl;
    }
