use Rattle.audit.proofs.Summing.{audited}
use Rattle.audit.proofs.rows.audit.Goals as goal

-- what the pieces add up to is what the book's places use
pub returns : goal.returns
returns g c =
    audited c.are_used.result c.rows.result.now c.args.snapshot.now c.in_ok-pieces.pieces.items c.places.result.now c.args.book.now.places c.rows.ensures
    c.places.ensures.once c.places.ensures.map c.in_ok-pieces.ensures (rw c.deref.ensures.value at c.are_used.ensures)
