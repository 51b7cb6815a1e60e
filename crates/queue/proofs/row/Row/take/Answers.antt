use Rattle.std.proofs.Common.{◌≡◌, ◌-◌, arith, refl, subst}
use Rattle.queue.specs.inside.Row.{IsWithout}
use Rattle.queue.proofs.Rows.{popped_slot, same_swapped, without}
use Rattle.queue.proofs.row.Row.take.Goals as goal

-- the slot that goes is the last one, once it has changed places with it
pub returns-clause-without : goal.returns-clause-without
returns-clause-without c =
    let xs = c.args.self.now.slots in let ys = c.swap.new.self.slots in let zs = c.pop.new.self.slots in
    let place = c.place_of-place.result in
    let last = c.len-last.result - 1 in
    let swapped = c.swap.ensures.swapped in
    let is : c.pop.result ≡ c.args.slot = popped_slot xs ys zs place last c.pop.result c.args.slot swapped c.pop.ensures.popped (omega (arith, c.len-last.ensures.len, c.place_of-place.ensures.within)) c.place_of-place.ensures.is in
    subst (IsWithout xs zs) is
    (without xs ys zs zs c.pop.result
    (same_swapped xs ys place last swapped c.place_of-place.ensures.within (omega (arith, c.len-last.ensures.len, c.place_of-place.ensures.within)))
    c.pop.ensures.popped c.pop.ensures.gone record { len = refl; there = λ s there. there; back = λ s there. there })
