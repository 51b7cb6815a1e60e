use Rattle.std.proofs.Common.{arith}
use Rattle.audit.proofs.Summing.{room_of_slots}
use Rattle.audit.proofs.sums.sums_of.Goals as goal

-- so few slots leave room for one more
pub add_slot-requires : goal.add_slot-requires
add_slot-requires c = λ node. room_of_slots c.args.slots.now c.loop-slot.slot-index node _ (c.loop-slot.invariant node) (omega arith)
