-- What a pass keeps of its last look.
use Rattle.std.specs.Prelude.{◌≡◌, List, fold, map}
use Rattle.logbook.specs.Pages.{Book}
use Rattle.quant.specs.declared.amount.Res.{Res}
use Rattle.book.specs.declared.limits.Limits.{Limits}
use Rattle.desk.specs.declared.change.Totals.{Totals}
use Rattle.desk.specs.declared.snapshot.Row.{Row}
use Rattle.desk.specs.Machine.{opening}
use Rattle.desk.specs.History.{Call, state_after}
use Rattle.desk.specs.inside.Board.{used_in, with_totals}
use Rattle.desk.specs.inside.NodeCalls.{nodes_in, nodes_of}
use Rattle.desk.specs.inside.Shared.{Prefix}

-- what rows show to be used
abbrev pub uses_of : List Row → List Res
uses_of rows = map (λ row. row.used) rows

-- rows that were shown of a beginning of a history, and what calls since then changed of what is
-- used: with that they show what this beginning leaves
pub record WereShown (book : Book) (limits : Limits) (prefix : Prefix) (rows : List Row) (since : List Totals) : Type 0 where
  pub book_is : prefix.book ≡ book
  pub nodes_are : nodes_of rows ≡ nodes_in (state_after (opening limits) prefix.list).cluster
  pub used_are : fold with_totals (uses_of rows) since ≡ used_in (state_after (opening limits) prefix.list).cluster

-- calls changed of what a history leaves just these totals, whichever rows that are
pub record Changed (limits : Limits) (before : List Call) (totals : Totals) (now : List Call) : Type 0 where
  pub nodes : nodes_in (state_after (opening limits) now).cluster ≡ nodes_in (state_after (opening limits) before).cluster
  pub used : used_in (state_after (opening limits) now).cluster ≡ with_totals (used_in (state_after (opening limits) before).cluster) totals

-- rows have the same nodes, and what is used of them as calls changed it
pub record IsWritten (rows : List Row) (since : List Totals) (new : List Row) : Type 0 where
  pub nodes : nodes_of new ≡ nodes_of rows
  pub used : uses_of new ≡ fold with_totals (uses_of rows) since
