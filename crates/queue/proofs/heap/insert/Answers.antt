use Rattle.std.proofs.Common.{◌≡◌, ◌+◌, ◌-◌, length, ◌∙◌, arith}
use Rattle.queue.proofs.Heaps.{added, all_pushed}
use Rattle.queue.proofs.Powers.{at_most_13}
use Rattle.queue.proofs.Rows.{with_pushed, with_same}
use Rattle.queue.proofs.heap.insert.Goals as goal

pub push-requires-clause-a_slot : goal.push-requires-clause-a_slot
push-requires-clause-a_slot c = c.requires.a_slot

pub push-requires-clause-new : goal.push-requires-clause-new
push-requires-clause-new c = c.requires.new

-- the slot comes last, and has no child
pub rise-requires-clause-inside : goal.rise-requires-clause-inside
rise-requires-clause-inside c = omega (arith, c.len-len.ensures.len, c.push.ensures.pushed.len)

pub rise-requires-clause-short : goal.rise-requires-clause-short
rise-requires-clause-short c = omega (arith, c.len-len.ensures.len, c.len-len.ensures.few)

pub rise-requires-clause-there : goal.rise-requires-clause-there
rise-requires-clause-there c = all_pushed c.args.pods.now c.args.row.now.slots c.push.new.self.slots c.args.slot c.push.ensures.pushed c.requires.there c.requires.filled

pub rise-requires-clause-hole : goal.rise-requires-clause-hole
rise-requires-clause-hole c =
    let end : c.len-len.result - 1 ≡ length c.args.row.now.slots = omega (arith, c.len-len.ensures.len, c.push.ensures.pushed.len) in
    rw end (added c.args.pods.now c.args.row.now.slots c.push.new.self.slots c.args.slot c.push.ensures.pushed c.requires.heap)

pub rise-requires-clause-first : goal.rise-requires-clause-first
rise-requires-clause-first c k low high lt = absurd (omega (arith, c.len-len.ensures.len, c.push.ensures.pushed.len))

pub returns-clause-heap : goal.returns-clause-heap
returns-clause-heap c = c.rise.ensures.heap

pub returns-clause-with : goal.returns-clause-with
returns-clause-with c =
    let xs = c.args.row.now.slots in let ys = c.push.new.self.slots in
    with_same xs ys c.rise.new.row.slots c.args.slot (with_pushed xs ys c.args.slot c.push.ensures.pushed) c.rise.ensures.same

pub returns-clause-room : goal.returns-clause-room
returns-clause-room c = c.rise.ensures.room ∙ c.push.ensures.room

pub returns-clause-counted : goal.returns-clause-counted
returns-clause-counted c =
    at_most_13 c.rise.new.count c.args.count.now (c.len-len.result - 1 + 1) c.rise.ensures.counted (omega (arith, c.len-len.ensures.few))
