use Rattle.std.proofs.Common.{◌≡◌, map, take}
use Rattle.desk.specs.inside.Board.{rows_shown}
use Rattle.desk.specs.Shown.{shown}
use Rattle.desk.proofs.board.Board.show_anew.Given as goal

-- the rows so far show the nodes so far
abbrev pub invariant-loop-at : goal.invariant-loop-at
invariant-loop-at l = map shown l.rows.items ≡ take l.at (rows_shown l.self)
