use Rattle.std.proofs.Common.{◌≡◌, ◌∙◌, ◌+◌, ◌++◌, ◌∷◌, [], ap, arith, length, refl}
use Rattle.std.proofs.lemmas.List.{length_push}
use Rattle.manifest.proofs.Filled.{all_filled, one_fails, one_read, where_ok}
use Rattle.manifest.proofs.item.fill.Goals as goal

pub loop-item-init : goal.loop-item-init
loop-item-init g c = record {
  room = omega (arith, ap length c.reserve.ensures, c.requires);
  same = refl;
}

pub loop-item-preserved : goal.loop-item-preserved
loop-item-preserved g c =
    let row = c.loop-item.row in
    let read = g.T.Item.reading c.args.field in
    let pushed : c.push.new.self ≡ row ++ c.in-Ok.next ∷ [] = where_ok c.push.result c.if-is_err-2.ensures.value c.push.ensures.put in
    let long : length c.push.new.self ≡ length row + 1 = ap length pushed ∙ length_push row c.in-Ok.next in
    let room = c.loop-item.invariant.room in record {
      room = omega (arith, long, room);
      same = c.loop-item.invariant.same
          ∙ one_read (g.T.Item.reading c.args.field) row c.as_slice.result.now c.push.new.self c.args.found.now c.loop-item.item-index c.item-item.result c.in-Ok.next
          c.loop-item-test.true c.item-item.is c.as_slice.ensures.value c.in-Ok.ensures pushed;
    }

pub returns : goal.returns
returns g c =
    all_filled (g.T.Item.reading c.args.field) c.args.row.now c.reserve.new.self c.loop-item.row c.args.found.now c.loop-item.item-index c.reserve.ensures
    c.loop-item-test.false c.loop-item.invariant.same

pub returns-in-Err : goal.returns-in-Err
returns-in-Err g c =
    one_fails (g.T.Item.reading c.args.field) c.args.row.now c.reserve.new.self c.loop-item.row c.as_slice.result.now c.args.found.now c.loop-item.item-index c.item-item.result c.in-Err.fault
    c.reserve.ensures c.loop-item-test.true c.item-item.is c.as_slice.ensures.value c.loop-item.invariant.same c.in-Err.ensures
