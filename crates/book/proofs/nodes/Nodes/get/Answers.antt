use Rattle.std.proofs.Common.{Some, ap, sym, ◌∙◌}
use Rattle.book.specs.Rows.{IsRowOf, IsGapFor}
use Rattle.book.proofs.RowLemmas.{get_row, get_no_row}
use Rattle.book.proofs.nodes.Nodes.get.Goals as goal

-- the row is found
pub returns-in-Ok : goal.returns-in-Ok
returns-in-Ok c =
    let found : IsRowOf c.self.inside.rows.items c.args.name.now c.in-Ok.at = rw (← c.deref.ensures.value) c.in-Ok.ensures.found in
    rw (← c.self.view_is) (sym (get_row _ c.self.invariant.in_order c.args.name.now c.in-Ok.at c.index.result.now found ∙ ap Some (sym c.index.ensures)))

-- there is a gap
pub returns-in-Err : goal.returns-in-Err
returns-in-Err c =
    let gap : IsGapFor c.self.inside.rows.items c.args.name.now c.in-Err.field-0 = rw (← c.deref.ensures.value) c.in-Err.ensures.absent in
    rw (← c.self.view_is) (sym (get_no_row _ c.self.invariant.in_order c.args.name.now c.in-Err.field-0 gap))
