use Rattle.std.proofs.Common.{rules}
use Rattle.std.proofs.lemmas.Fn.{always_returns_same}
use Rattle.book.specs.Rows.{compared}
use Rattle.book.proofs.RowLemmas.{searched}
use Rattle.book.proofs.nodes.place_of.Goals as goal

-- the closure compares a row's name with the name
pub returns : goal.returns
returns c =
    let facts = c.binary_search_by.ensures in
    let by_name = facts.position (compared c.args.name.now) (always_returns_same _ _ _ (λ a r g called. search rules)) in
    let found = searched _ c.requires c.args.name.now _ facts.bound by_name in
    record { found = found.found; absent = found.absent; in_range = search rules }
