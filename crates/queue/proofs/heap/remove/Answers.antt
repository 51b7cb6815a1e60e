use Rattle.std.proofs.Common.{◌≡◌, ◌+◌, ◌-◌, ◌≤◌, arith, refl, ◌∙◌, subst}
use Rattle.queue.specs.inside.Row.{IsWithout}
use Rattle.queue.proofs.Rows.{popped_slot, same_again, same_swapped, without}
use Rattle.queue.proofs.Heaps.{replaced, all_popped}
use Rattle.queue.proofs.Powers.{at_most_13, power_alone}
use Rattle.queue.proofs.heap.remove.Goals as goal

pub place_of-place-requires : goal.place_of-place-requires
place_of-place-requires c = c.requires.here

pub swap-requires-clause-first : goal.swap-requires-clause-first
swap-requires-clause-first c = c.place_of-place.ensures.within

pub swap-requires-clause-second : goal.swap-requires-clause-second
swap-requires-clause-second c = omega (arith, c.len-last.ensures.len, c.place_of-place.ensures.within)

pub pop-requires : goal.pop-requires
pop-requires c = omega (arith, c.swap.ensures.swapped.len, c.place_of-place.ensures.within)

pub fall-leaf-requires-clause-inside : goal.fall-leaf-requires-clause-inside
fall-leaf-requires-clause-inside c = omega (arith, c.if-place-last.true, c.swap.ensures.swapped.len, c.pop.ensures.popped.len, c.len-last.ensures.len)

pub fall-leaf-requires-clause-short : goal.fall-leaf-requires-clause-short
fall-leaf-requires-clause-short c = omega (arith, c.swap.ensures.swapped.len, c.pop.ensures.popped.len, c.len-last.ensures.len, c.len-last.ensures.few)

pub fall-leaf-requires-clause-there : goal.fall-leaf-requires-clause-there
fall-leaf-requires-clause-there c =
    let xs = c.args.row.now.slots in let ys = c.swap.new.self.slots in
    all_popped c.args.pods.now xs ys c.pop.new.self.slots c.pop.result
    (same_swapped xs ys c.place_of-place.result (c.len-last.result - 1) c.swap.ensures.swapped c.place_of-place.ensures.within (omega (arith, c.len-last.ensures.len, c.place_of-place.ensures.within))) c.pop.ensures.popped c.requires.there

pub fall-leaf-requires-clause-hole : goal.fall-leaf-requires-clause-hole
fall-leaf-requires-clause-hole c =
    replaced c.args.pods.now c.args.row.now.slots c.swap.new.self.slots c.pop.new.self.slots c.place_of-place.result (c.len-last.result - 1) c.pop.result (omega arith) c.if-place-last.true c.requires.heap c.swap.ensures.swapped c.pop.ensures.popped

pub rise-requires-clause-inside : goal.rise-requires-clause-inside
rise-requires-clause-inside c = c.fall-leaf.ensures.inside

pub rise-requires-clause-hole : goal.rise-requires-clause-hole
rise-requires-clause-hole c = c.fall-leaf.ensures.hole

pub rise-requires-clause-first : goal.rise-requires-clause-first
rise-requires-clause-first c k low high lt = absurd (omega (arith, c.fall-leaf.ensures.last))

pub rise-requires-clause-there : goal.rise-requires-clause-there
rise-requires-clause-there c = λ s is.
    let xs = c.args.row.now.slots in let ys = c.swap.new.self.slots in let zs = c.pop.new.self.slots in
    c.requires.there s ((without xs ys zs c.fall-leaf.new.row.slots c.pop.result
    (same_swapped xs ys c.place_of-place.result (c.len-last.result - 1) c.swap.ensures.swapped c.place_of-place.ensures.within (omega arith))
    c.pop.ensures.popped c.pop.ensures.gone c.fall-leaf.ensures.same).back s is)

pub rise-requires-clause-few : goal.rise-requires-clause-few
rise-requires-clause-few c =
    omega (
      arith,
      at_most_13 c.fall-leaf.new.count c.args.count.now (c.fall-leaf.result + 1)
          (power_alone (c.fall-leaf.new.count - c.args.count.now) c.place_of-place.result (c.fall-leaf.result + 1) c.fall-leaf.ensures.counted)
          (omega (arith, c.fall-leaf.ensures.inside, c.fall-leaf.ensures.same.len, c.pop.ensures.popped.len, c.swap.ensures.swapped.len, c.len-last.ensures.few)),
    )

pub returns-then-place-last-clause-heap : goal.returns-then-place-last-clause-heap
returns-then-place-last-clause-heap c = c.rise.ensures.heap

pub returns-then-place-last-clause-room : goal.returns-then-place-last-clause-room
returns-then-place-last-clause-room c = c.rise.ensures.room ∙ c.fall-leaf.ensures.room ∙ c.pop.ensures.room ∙ c.swap.ensures.room

pub returns-then-place-last-clause-without : goal.returns-then-place-last-clause-without
returns-then-place-last-clause-without c =
    let xs = c.args.row.now.slots in let ys = c.swap.new.self.slots in let zs = c.pop.new.self.slots in
    let swapped = c.swap.ensures.swapped in
    let is : c.pop.result ≡ c.args.slot = popped_slot xs ys zs c.place_of-place.result (c.len-last.result - 1) c.pop.result c.args.slot swapped c.pop.ensures.popped (omega arith) c.place_of-place.ensures.is in
    subst (IsWithout xs c.rise.new.row.slots) is
    (without xs ys zs c.rise.new.row.slots c.pop.result
    (same_swapped xs ys c.place_of-place.result (c.len-last.result - 1) swapped c.place_of-place.ensures.within (omega arith))
    c.pop.ensures.popped c.pop.ensures.gone (same_again zs c.fall-leaf.new.row.slots c.rise.new.row.slots c.fall-leaf.ensures.same c.rise.ensures.same))

pub returns-then-place-last-clause-counted : goal.returns-then-place-last-clause-counted
returns-then-place-last-clause-counted c =
    let leaf : c.fall-leaf.result + 1 ≤ 10000 = omega (arith, c.fall-leaf.ensures.inside, c.fall-leaf.ensures.same.len, c.pop.ensures.popped.len, c.swap.ensures.swapped.len, c.len-last.ensures.few) in
    let down : c.fall-leaf.new.count ≤ c.args.count.now + 13 = at_most_13 c.fall-leaf.new.count c.args.count.now (c.fall-leaf.result + 1)
    (power_alone (c.fall-leaf.new.count - c.args.count.now) c.place_of-place.result (c.fall-leaf.result + 1) c.fall-leaf.ensures.counted) leaf in
    let up : c.rise.new.count ≤ c.fall-leaf.new.count + 13 = at_most_13 c.rise.new.count c.fall-leaf.new.count _ c.rise.ensures.counted (omega (arith, leaf)) in
    omega (arith, down, up)

pub returns-else-place-last-clause-without : goal.returns-else-place-last-clause-without
returns-else-place-last-clause-without c =
    let xs = c.args.row.now.slots in let ys = c.swap.new.self.slots in let zs = c.pop.new.self.slots in
    let swapped = c.swap.ensures.swapped in
    let is : c.pop.result ≡ c.args.slot = popped_slot xs ys zs c.place_of-place.result (c.len-last.result - 1) c.pop.result c.args.slot swapped c.pop.ensures.popped (omega arith) c.place_of-place.ensures.is in
    subst (IsWithout xs zs) is
    (without xs ys zs zs c.pop.result
    (same_swapped xs ys c.place_of-place.result (c.len-last.result - 1) swapped c.place_of-place.ensures.within (omega arith))
    c.pop.ensures.popped c.pop.ensures.gone record { len = refl; there = λ s is_in. is_in; back = λ s is_in. is_in })
