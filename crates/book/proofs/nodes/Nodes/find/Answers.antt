use Rattle.std.proofs.Common.{◌≡◌, ◌≤◌, length, IfOk, IfErr, sym, ap, subst, ◌∙◌}
use Rattle.std.specs.FinMap.{entries}
use Rattle.quant.specs.declared.objects.Node.{Node}
use Rattle.std.specs.Prelude.{List}
use Rattle.book.specs.Rows.{rows_in, named, IsRowOf, IsGapFor}
use Rattle.book.proofs.RowLemmas.{rows_are, rows_listed}
use Rattle.book.proofs.nodes.Nodes.find.Goals as goal

-- the rows are those of the map that they stand for
pub returns-clause-found : goal.returns-clause-found
returns-clause-found c =
    let same = c.deref.ensures.value ∙ sym (rows_are c.self.inside.rows.items c.self.invariant.in_order) ∙ ap (λ t. rows_in t.map) c.self.view_is in
    subst (λ (rows : List Node). IfOk c.place_near.result (IsRowOf rows c.args.name.now)) same c.place_near.ensures.found

pub returns-clause-absent : goal.returns-clause-absent
returns-clause-absent c =
    let same = c.deref.ensures.value ∙ sym (rows_are c.self.inside.rows.items c.self.invariant.in_order) ∙ ap (λ t. rows_in t.map) c.self.view_is in
    subst (λ (rows : List Node). IfErr c.place_near.result (IsGapFor rows c.args.name.now)) same c.place_near.ensures.absent

pub returns-clause-in_range : goal.returns-clause-in_range
returns-clause-in_range c =
    let same = c.deref.ensures.value ∙ sym (rows_are c.self.inside.rows.items c.self.invariant.in_order) ∙ ap (λ t. rows_in t.map) c.self.view_is in
    subst (λ (rows : List Node). IfErr c.place_near.result (λ at. at ≤ length rows)) same c.place_near.ensures.in_range

pub returns-clause-listed : goal.returns-clause-listed
returns-clause-listed c =
    subst (λ t. named (rows_in t.map) ≡ entries t.map) c.self.view_is (rows_listed c.self.inside.rows.items c.self.invariant.in_order)
