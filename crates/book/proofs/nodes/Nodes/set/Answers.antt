use Rattle.std.proofs.Common.{ap, sym, ◌∙◌, arith, true, false, length, set, ◌<◌, ◌≤◌}
use Rattle.std.proofs.lemmas.Bool.{le-leb, lt-leb}
use Rattle.std.specs.FinMap as fin
use Rattle.std.specs.List.{insert}
use Rattle.book.specs.Rows.{IsRowOf, IsGapFor}
use Rattle.book.specs.inside.Tables.{NodeTable}
use Rattle.book.proofs.Beside.{opened, closed, beside_come, beside_again}
use Rattle.book.proofs.RowLemmas.{set_row, insert_row, has_row, has_no_row, len_rows, no_gap, in_gap}
use Rattle.book.proofs.nodes.Nodes.set.Goals as goal

pub invariant_of-self : goal.invariant_of-self
invariant_of-self c =
    let found : IsRowOf c.self.inside.rows.items c.args.node.name c.in-Ok.at = rw (← c.deref.ensures.value, ← c.deref-2.ensures) c.in-Ok.ensures.found in
    record {
      in_order = (set_row _ c.self.invariant.in_order _ c.args.node found).0;
      in_room = c.self.invariant.in_room;
      reserved = c.self.invariant.reserved;
      beside = c.self.invariant.beside;
      reserved_beside = c.self.invariant.reserved_beside;
    }

pub returns-in-Ok-clause-set : goal.returns-in-Ok-clause-set
returns-in-Ok-clause-set c =
    let found : IsRowOf c.self.inside.rows.items c.args.node.name c.in-Ok.at = rw (← c.deref.ensures.value, ← c.deref-2.ensures) c.in-Ok.ensures.found in
    (set_row _ c.self.invariant.in_order _ c.args.node found).1 ∙ ap (λ (t : NodeTable). fin.insert t.map c.args.node.name c.args.node) c.self.view_is

-- the amount stays, since the row has the same name
pub returns-in-Ok-clause-shown : goal.returns-in-Ok-clause-shown
returns-in-Ok-clause-shown c f shown used =
    let found : IsRowOf c.self.inside.rows.items c.args.node.name c.in-Ok.at = rw (← c.deref.ensures.value, ← c.deref-2.ensures) c.in-Ok.ensures.found in
    let had = opened f c.self.inside.rows.items c.self.inside.room c.self.inside.used.items c.args.self.now c.self.invariant.in_order c.self.view_is shown in
    closed f (set c.self.inside.rows.items c.in-Ok.at c.args.node) c.self.inside.room _ (set_row _ c.self.invariant.in_order _ c.args.node found).0 (had ∙ sym (beside_again f c.self.inside.rows.items c.in-Ok.at c.args.node found))

pub returns-in-Ok-clause-room : goal.returns-in-Ok-clause-room
returns-in-Ok-clause-room c =
    let found : IsRowOf c.self.inside.rows.items c.args.node.name c.in-Ok.at = rw (← c.deref.ensures.value, ← c.deref-2.ensures) c.in-Ok.ensures.found in
    rw (← c.self.view_is) (no_gap _ _ (has_row _ c.self.invariant.in_order _ _ found))

pub returns-then-len-self-clause-full : goal.returns-then-len-self-clause-full
returns-then-len-self-clause-full c =
    let gap : IsGapFor c.self.inside.rows.items c.args.node.name c.in-Err.at = rw (← c.deref.ensures.value, ← c.deref-2.ensures) c.in-Err.ensures.absent in
    let full : c.self.inside.room ≤ length c.self.inside.rows.items = omega (arith, c.self.inside.rows.ok.0) in
    rw (← c.self.view_is) (in_gap _ _ true (has_no_row _ c.self.invariant.in_order _ _ gap) (rw (len_rows _ c.self.invariant.in_order c.args.node.name) (le-leb _ _ full)))

pub invariant_of-self-in-Err : goal.invariant_of-self-in-Err
invariant_of-self-in-Err c =
    let gap : IsGapFor c.self.inside.rows.items c.args.node.name c.in-Err.at = rw (← c.deref.ensures.value, ← c.deref-2.ensures) c.in-Err.ensures.absent in
    let at : c.in-Err.at ≤ length c.self.inside.rows.items = rw (← c.deref.ensures.value) c.in-Err.ensures.in_range in
    let items = rw c.unwrap.ensures at c.insert.ensures.items in
    record {
      in_order = rw items (insert_row _ c.self.invariant.in_order _ c.args.node at gap).0;
      in_room = grind (arith, c.insert.ensures.len, c.unwrap.ensures);
      reserved = omega (arith, c.self.invariant.reserved);
      beside = grind (arith, c.insert.ensures.len, c.unwrap.ensures, c.insert-in-Err.ensures.len, c.unwrap-in-Err.ensures, c.self.invariant.beside);
      reserved_beside = omega (arith, c.self.invariant.reserved_beside);
    }

pub returns-else-len-self-clause-set : goal.returns-else-len-self-clause-set
returns-else-len-self-clause-set c =
    let gap : IsGapFor c.self.inside.rows.items c.args.node.name c.in-Err.at = rw (← c.deref.ensures.value, ← c.deref-2.ensures) c.in-Err.ensures.absent in
    let at : c.in-Err.at ≤ length c.self.inside.rows.items = rw (← c.deref.ensures.value) c.in-Err.ensures.in_range in
    let items = rw c.unwrap.ensures at c.insert.ensures.items in
    rw items ((insert_row _ c.self.invariant.in_order _ c.args.node at gap).1 ∙ ap (λ (t : NodeTable). fin.insert t.map c.args.node.name c.args.node) c.self.view_is)

-- the amount comes beside its row
pub returns-else-len-self-clause-shown : goal.returns-else-len-self-clause-shown
returns-else-len-self-clause-shown c f shown used =
    let gap : IsGapFor c.self.inside.rows.items c.args.node.name c.in-Err.at = rw (← c.deref.ensures.value, ← c.deref-2.ensures) c.in-Err.ensures.absent in
    let at : c.in-Err.at ≤ length c.self.inside.rows.items = rw (← c.deref.ensures.value) c.in-Err.ensures.in_range in
    let items = rw c.unwrap.ensures at c.insert.ensures.items in
    let amounts = rw c.unwrap-in-Err.ensures at c.insert-in-Err.ensures.items in
    let had = opened f c.self.inside.rows.items c.self.inside.room c.self.inside.used.items c.args.self.now c.self.invariant.in_order c.self.view_is shown in
    rw items (closed f (insert c.self.inside.rows.items c.in-Err.at c.args.node) c.self.inside.room _ (insert_row _ c.self.invariant.in_order _ c.args.node at gap).0
    (amounts ∙ ap (λ l. insert l c.in-Err.at c.args.used) had ∙ ap (insert _ c.in-Err.at) used ∙ sym (beside_come f c.self.inside.rows.items c.in-Err.at c.args.node)))

pub returns-else-len-self-clause-room : goal.returns-else-len-self-clause-room
returns-else-len-self-clause-room c =
    let gap : IsGapFor c.self.inside.rows.items c.args.node.name c.in-Err.at = rw (← c.deref.ensures.value, ← c.deref-2.ensures) c.in-Err.ensures.absent in
    let room : length c.self.inside.rows.items < c.self.inside.room = omega (arith, c.self.inside.rows.ok.0) in
    rw (← c.self.view_is) (in_gap _ _ false (has_no_row _ c.self.invariant.in_order _ _ gap) (rw (len_rows _ c.self.invariant.in_order c.args.node.name) (lt-leb _ _ room)))

-- there is room for as many rows as before
pub returns-in-Ok-clause-same : goal.returns-in-Ok-clause-same
returns-in-Ok-clause-same c = ap (λ (t : NodeTable). t.room) c.self.view_is

pub returns-else-len-self-clause-same : goal.returns-else-len-self-clause-same
returns-else-len-self-clause-same c = ap (λ (t : NodeTable). t.room) c.self.view_is
