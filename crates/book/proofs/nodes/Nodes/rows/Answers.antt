use Rattle.std.proofs.Common.{ap, sym, ◌∙◌, []}
use Rattle.std.specs.FinMap.{entries}
use Rattle.book.specs.Rows.{named}
use Rattle.book.proofs.RowLemmas.{entries_rows}
use Rattle.book.proofs.nodes.Nodes.rows.Goals as goal

-- the map that the rows stand for lists them
pub returns : goal.returns
returns c = ap named c.deref.ensures.value ∙ sym (entries_rows c.self.inside.rows.items c.self.invariant.in_order []) ∙ ap (λ t. entries t.map) c.self.view_is
