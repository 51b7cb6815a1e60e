use Rattle.std.proofs.Common.{ap, sym, ◌∙◌, arith}
use Rattle.std.specs.FinMap as fin
use Rattle.std.specs.List.{remove}
use Rattle.book.specs.Rows.{IsRowOf, IsGapFor}
use Rattle.book.specs.inside.Tables.{NodeTable}
use Rattle.book.proofs.Beside.{opened, closed, beside_gone}
use Rattle.book.proofs.RowLemmas.{remove_row, has_row, has_no_row}
use Rattle.book.proofs.nodes.Nodes.remove.Goals as goal

pub invariant_of-self : goal.invariant_of-self
invariant_of-self c =
    let found : IsRowOf c.self.inside.rows.items c.args.name.now c.in-Ok.at = rw (← c.deref.ensures.value) c.in-Ok.ensures.found in
    record {
      in_order = rw c.remove.ensures.items (remove_row _ c.self.invariant.in_order c.in-Ok.at c.args.name.now found).0;
      in_room = omega (arith, c.remove.ensures.len, c.self.invariant.in_room);
      reserved = omega (arith, c.remove.ensures.capacity, c.self.invariant.reserved);
      beside = omega (arith, c.remove.ensures.len, c.remove-in-Ok.ensures.len, c.self.invariant.beside);
      reserved_beside = omega (arith, c.remove-in-Ok.ensures.capacity, c.self.invariant.reserved_beside);
    }

pub returns-in-Ok-clause-gone : goal.returns-in-Ok-clause-gone
returns-in-Ok-clause-gone c =
    let found : IsRowOf c.self.inside.rows.items c.args.name.now c.in-Ok.at = rw (← c.deref.ensures.value) c.in-Ok.ensures.found in
    rw c.remove.ensures.items ((remove_row _ c.self.invariant.in_order c.in-Ok.at c.args.name.now found).1 ∙ ap (λ (t : NodeTable). fin.remove t.map c.args.name.now) c.self.view_is)

-- the amounts go on beside the rows
pub returns-in-Ok-clause-shown : goal.returns-in-Ok-clause-shown
returns-in-Ok-clause-shown c f shown =
    let found : IsRowOf c.self.inside.rows.items c.args.name.now c.in-Ok.at = rw (← c.deref.ensures.value) c.in-Ok.ensures.found in
    let had = opened f c.self.inside.rows.items c.self.inside.room c.self.inside.used.items c.args.self.now c.self.invariant.in_order c.self.view_is shown in
    rw c.remove.ensures.items (closed f (remove c.self.inside.rows.items c.in-Ok.at) c.self.inside.room _ (remove_row _ c.self.invariant.in_order c.in-Ok.at c.args.name.now found).0
    (c.remove-in-Ok.ensures.items ∙ ap (λ l. remove l c.in-Ok.at) had ∙ sym (beside_gone f c.self.inside.rows.items c.in-Ok.at)))

pub returns-in-Ok-clause-there : goal.returns-in-Ok-clause-there
returns-in-Ok-clause-there c =
    let found : IsRowOf c.self.inside.rows.items c.args.name.now c.in-Ok.at = rw (← c.deref.ensures.value) c.in-Ok.ensures.found in
    rw (← c.self.view_is) (has_row _ c.self.invariant.in_order _ _ found)

pub returns-in-Err-clause-missing : goal.returns-in-Err-clause-missing
returns-in-Err-clause-missing c =
    let gap : IsGapFor c.self.inside.rows.items c.args.name.now c.in-Err.field-0 = rw (← c.deref.ensures.value) c.in-Err.ensures.absent in
    rw (← c.self.view_is) (has_no_row _ c.self.invariant.in_order _ _ gap)
