use Rattle.std.proofs.Common.{◌+◌, ◌≤◌, length, arith, sym, subst}
use Rattle.pieces.specs.Pieces.{ArePieces}
use Rattle.pool.proofs.lent_kit.send_all.Goals as goal

pub places_of-places-requires-clause-few : goal.places_of-places-requires-clause-few
places_of-places-requires-clause-few g c = subst (λ a. a.pieces ≤ 64) (sym c.deref.ensures) (omega (arith, c.requires.pieces))

pub places_of-places-requires-clause-there : goal.places_of-places-requires-clause-there
places_of-places-requires-clause-there g c = subst (λ a. c.loop-at.at + 1 + 1 ≤ a.pieces) (sym c.deref.ensures) (omega (arith, c.requires.pieces))

pub send-requires : goal.send-requires
send-requires g c = subst (λ a. ArePieces (length a.snapshot) a.pieces (c.loop-at.at + 1) 1 c.places_of-places.result) c.deref.ensures c.places_of-places.ensures
