use Rattle.std.proofs.Common.{arith}
use Rattle.ledger.proofs.Sweeps.{begun, one_more, swept}
use Rattle.ledger.specs.Lists.{of_pods}
use Rattle.ledger.proofs.swept.sweep_pods.Goals as goal

pub loop-slot-init : goal.loop-slot-init
loop-slot-init c = begun of_pods c.args.lists c.args.pods.now c.args.book.now c.len-once.ensures.once

pub sweep_pod_slot-requires : goal.sweep_pod_slot-requires
sweep_pod_slot-requires c = let before = c.loop-slot.invariant.version in omega (arith, c.requires, before, c.loop-slot-test.true, c.room-slot-end.ensures)

pub loop-slot-preserved : goal.loop-slot-preserved
loop-slot-preserved c = one_more of_pods c.args.lists c.loop-slot.slot c.args.pods.now c.loop-slot.pods _ c.args.book.now c.loop-slot.book _ c.loop-slot.invariant c.sweep_pod_slot.ensures.out c.sweep_pod_slot.ensures.room c.sweep_pod_slot.ensures.once c.sweep_pod_slot.ensures.version c.sweep_pod_slot.ensures.counted

pub returns-clause-swept : goal.returns-clause-swept
returns-clause-swept c = swept of_pods c.args.lists c.loop-slot.slot c.args.pods.now c.loop-slot.pods c.args.book.now c.loop-slot.book (omega (arith, c.loop-slot-test.false, c.room-slot-end.ensures, c.loop-slot.invariant.room)) c.loop-slot.invariant

pub returns-clause-room : goal.returns-clause-room
returns-clause-room c = c.loop-slot.invariant.room
