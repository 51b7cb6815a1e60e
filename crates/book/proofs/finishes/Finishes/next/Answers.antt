use Rattle.std.proofs.Common.{length, ap, arith}
use Rattle.book.proofs.Earliest.{late_more, one_later, block_later, blocks_later}
use Rattle.book.proofs.finishes.Finishes.next.Goals as goal

-- a block of blocks is passed over
pub loop-slot-preserved-then-index-limit : goal.loop-slot-preserved-then-index-limit
loop-slot-preserved-then-index-limit c =
    let at = c.loop-slot.slot in
    let f = c.self.inside in
    record {
      on = omega (arith, c.loop-slot.invariant.on);
      late = late_more f.each.items c.args.self.now c.args.limit c.args.from at 4096 c.self.view_is c.loop-slot.invariant.late
          (blocks_later f.each.items f.earliest.items f.first.items c.args.limit at c.index.result.now c.self.invariant.0 c.self.invariant.1 c.if-slot-eq0.true
          (omega (arith, c.loop-slot-test.true, c.len.ensures, f.each.ok.0)) c.index.ensures c.if-index-limit.true);
    }

-- a block
pub loop-slot-preserved-then-index-limit-2 : goal.loop-slot-preserved-then-index-limit-2
loop-slot-preserved-then-index-limit-2 c =
    let at = c.loop-slot.slot in
    let f = c.self.inside in
    record {
      on = omega (arith, c.loop-slot.invariant.on);
      late = late_more f.each.items c.args.self.now c.args.limit c.args.from at 64 c.self.view_is c.loop-slot.invariant.late
          (block_later f.each.items f.earliest.items c.args.limit at c.index-then-slot-eq0-2.result.now c.self.invariant.0 c.if-slot-eq0-2.true
          (omega (arith, c.loop-slot-test.true, c.len.ensures, f.each.ok.0)) c.index-then-slot-eq0-2.ensures c.if-index-limit-2.true);
    }

-- a slot
pub loop-slot-preserved : goal.loop-slot-preserved
loop-slot-preserved c =
    let at = c.loop-slot.slot in
    let f = c.self.inside in
    record {
      on = omega (arith, c.loop-slot.invariant.on);
      late = late_more f.each.items c.args.self.now c.args.limit c.args.from at 1 c.self.view_is c.loop-slot.invariant.late
          (one_later f.each.items c.args.limit at c.index-else-slot-eq0-2.result.now
          (omega (arith, c.loop-slot-test.true, c.len.ensures, f.each.ok.0)) c.index-else-slot-eq0-2.ensures c.if-index-limit-3.false);
    }

-- there are fewer left
pub loop-slot-smaller-then-index-limit : goal.loop-slot-smaller-then-index-limit
loop-slot-smaller-then-index-limit c = omega (arith, c.loop-slot-test.true, c.len.ensures, c.self.inside.each.ok.0, ap length c.self.view_is)

pub loop-slot-smaller-then-index-limit-2 : goal.loop-slot-smaller-then-index-limit-2
loop-slot-smaller-then-index-limit-2 c = omega (arith, c.loop-slot-test.true, c.len.ensures, c.self.inside.each.ok.0, ap length c.self.view_is)

pub loop-slot-smaller : goal.loop-slot-smaller
loop-slot-smaller c = omega (arith, c.loop-slot-test.true, c.len.ensures, c.self.inside.each.ok.0, ap length c.self.view_is)

-- the first slot that isn't later
pub returns-then-index-limit-3-clause-a_slot : goal.returns-then-index-limit-3-clause-a_slot
returns-then-index-limit-3-clause-a_slot c = omega (arith, c.loop-slot-test.true, c.len.ensures, c.self.inside.each.ok.0, ap length c.self.view_is)

pub returns-then-index-limit-3-clause-first : goal.returns-then-index-limit-3-clause-first
returns-then-index-limit-3-clause-first c i from before =
    c.loop-slot.invariant.late i from before (omega (arith, before, c.loop-slot-test.true, c.len.ensures, c.self.inside.each.ok.0, ap length c.self.view_is))

pub returns-clause-none : goal.returns-clause-none
returns-clause-none c i from within =
    c.loop-slot.invariant.late i from (omega (arith, within, c.loop-slot-test.false, c.len.ensures, c.self.inside.each.ok.0, ap length c.self.view_is)) within
