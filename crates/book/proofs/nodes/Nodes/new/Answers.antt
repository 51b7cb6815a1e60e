use Rattle.std.proofs.Common.{[], ap, ◌∙◌}
use Rattle.std.specs.FinMap.{from_sorted}
use Rattle.book.specs.Rows.{named}
use Rattle.book.proofs.Beside.{table}
use Rattle.book.proofs.RowLemmas.{no_rows}
use Rattle.book.proofs.nodes.Nodes.new.Goals as goal

-- no rows stand for the empty map
pub returns : goal.returns
returns c =
    ap (λ rows. table (from_sorted (named rows)) c.args.room c.in-Ok-with_capacity.used.items) c.in-Ok.ensures.items
    ∙ ap (λ used. table (from_sorted (named [])) c.args.room used) c.in-Ok-with_capacity.ensures.items
    ∙ ap (λ m. table m c.args.room []) no_rows
