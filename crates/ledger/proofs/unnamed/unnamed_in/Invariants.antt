use Rattle.std.proofs.Common.{◌≡◌, take}
use Rattle.ledger.proofs.Omitted.{omitted}
use Rattle.ledger.proofs.unnamed.unnamed_in.Given as goal

-- the names in the slots so far are there
abbrev pub invariant-loop-slot : goal.invariant-loop-slot
invariant-loop-slot g l = l.names.items ≡ omitted g.V.Listed.list l.lists (take l.slot-index l.slot-items)
