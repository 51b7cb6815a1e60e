use Rattle.std.proofs.Common.{arith}
use Rattle.ledger.proofs.Sweeps.{begun, one_more, swept}
use Rattle.ledger.specs.Lists.{of_nodes}
use Rattle.ledger.proofs.swept.sweep_nodes.Goals as goal

pub loop-slot-init : goal.loop-slot-init
loop-slot-init c = begun of_nodes c.args.lists c.args.nodes.now c.args.book.now c.len-once.ensures.once

pub sweep_node_slot-requires : goal.sweep_node_slot-requires
sweep_node_slot-requires c = let before = c.loop-slot.invariant.version in omega (arith, c.requires, before, c.loop-slot-test.true, c.room-slot-end.ensures)

pub loop-slot-preserved : goal.loop-slot-preserved
loop-slot-preserved c = one_more of_nodes c.args.lists c.loop-slot.slot c.args.nodes.now c.loop-slot.nodes _ c.args.book.now c.loop-slot.book _ c.loop-slot.invariant c.sweep_node_slot.ensures.out c.sweep_node_slot.ensures.room c.sweep_node_slot.ensures.once c.sweep_node_slot.ensures.version c.sweep_node_slot.ensures.counted

pub returns-clause-swept : goal.returns-clause-swept
returns-clause-swept c = swept of_nodes c.args.lists c.loop-slot.slot c.args.nodes.now c.loop-slot.nodes c.args.book.now c.loop-slot.book (omega (arith, c.loop-slot-test.false, c.room-slot-end.ensures, c.loop-slot.invariant.room)) c.loop-slot.invariant

pub returns-clause-room : goal.returns-clause-room
returns-clause-room c = c.loop-slot.invariant.room
