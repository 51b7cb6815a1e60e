use Rattle.std.proofs.Common.{ap, subst, ◌∙◌, set}
use Rattle.book.specs.Rows.{IsRowOf, IsGapFor}
use Rattle.book.specs.inside.Tables.{NodeTable, IsShown}
use Rattle.book.proofs.Beside.{opened, closed, beside_kept, beside_missing}
use Rattle.book.proofs.nodes.Nodes.keep.Goals as goal

-- no row has the name
pub returns-in_default-clause-shown : goal.returns-in_default-clause-shown
returns-in_default-clause-shown c f g shown now alike =
    let gap : IsGapFor c.self.inside.rows.items c.args.name.now c.in_default.field-0 = rw (← c.deref.ensures.value) c.in_default.ensures.absent in
    let had = opened f c.self.inside.rows.items c.self.inside.room c.self.inside.used.items c.args.self.now c.self.invariant.in_order c.self.view_is shown in
    subst (IsShown g) c.self.view_is (closed g c.self.inside.rows.items c.self.inside.room _ c.self.invariant.in_order (had ∙ beside_missing f g c.args.name.now alike c.self.inside.rows.items c.in_default.field-0 gap))

-- the amount beside the row changes
pub returns-then-slot-len-clause-shown : goal.returns-then-slot-len-clause-shown
returns-then-slot-len-clause-shown c f g shown now alike =
    let found : IsRowOf c.self.inside.rows.items c.args.name.now c.in-Ok.at = rw (← c.deref.ensures.value) c.in-Ok.ensures.found in
    let had = opened f c.self.inside.rows.items c.self.inside.room c.self.inside.used.items c.args.self.now c.self.invariant.in_order c.self.view_is shown in
    closed g c.self.inside.rows.items c.self.inside.room _ c.self.invariant.in_order (ap (λ l. set l c.in-Ok.at c.args.used) had ∙ beside_kept f g c.args.name.now alike c.self.inside.rows.items c.in-Ok.at c.args.used c.self.invariant.in_order found now)

pub returns-else-slot-len-clause-shown : goal.returns-else-slot-len-clause-shown
returns-else-slot-len-clause-shown c f g shown now alike =
    let found : IsRowOf c.self.inside.rows.items c.args.name.now c.in-Ok.at = rw (← c.deref.ensures.value) c.in-Ok.ensures.found in
    let had = opened f c.self.inside.rows.items c.self.inside.room c.self.inside.used.items c.args.self.now c.self.invariant.in_order c.self.view_is shown in
    closed g c.self.inside.rows.items c.self.inside.room _ c.self.invariant.in_order (ap (λ l. set l c.in-Ok.at c.args.used) had ∙ beside_kept f g c.args.name.now alike c.self.inside.rows.items c.in-Ok.at c.args.used c.self.invariant.in_order found now)

-- the rows stay, and the room for them
pub returns-then-slot-len-clause-map : goal.returns-then-slot-len-clause-map
returns-then-slot-len-clause-map c = ap (λ (t : NodeTable). t.map) c.self.view_is

pub returns-then-slot-len-clause-room : goal.returns-then-slot-len-clause-room
returns-then-slot-len-clause-room c = ap (λ (t : NodeTable). t.room) c.self.view_is

pub returns-else-slot-len-clause-map : goal.returns-else-slot-len-clause-map
returns-else-slot-len-clause-map c = ap (λ (t : NodeTable). t.map) c.self.view_is

pub returns-else-slot-len-clause-room : goal.returns-else-slot-len-clause-room
returns-else-slot-len-clause-room c = ap (λ (t : NodeTable). t.room) c.self.view_is
