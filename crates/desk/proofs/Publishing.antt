-- What is published next, by what was published and what is to be.
use Rattle.std.proofs.Common.{◌≡◌, List, fold, sym, subst, ◌∙◌}
use Rattle.logbook.specs.Pages.{Book}
use Rattle.book.specs.declared.limits.Limits.{Limits}
use Rattle.desk.specs.declared.board.Order.{Order}
use Rattle.desk.specs.inside.Board.{Board, IsBoard, board_after}

-- it stands where what was to be published stood before the calls came back
pub next_stands : (book : Book) (limits : Limits) (next shown first : Board) (log orders : List Order) → IsBoard book limits (fold board_after first orders)
    → shown ≡ first → log ≡ orders → next ≡ fold board_after shown log → IsBoard book limits next
next_stands book limits next shown first log orders stands same rest is =
    subst (IsBoard book limits) (sym (is ∙ λ i. fold board_after (same i) (rest i))) stands
