use Rattle.std.proofs.Common.{◌≡◌, ◌≤◌, false, length, map, take}
use Rattle.std.specs.Vec.{vec_len, vec_capacity}
use Rattle.command.specs.inside.Built.{command_by, shape_and_reach}
use Rattle.command.proofs.command_line.commands_of.Given as goal

abbrev pub invariant-loop-row : goal.invariant-loop-row
invariant-loop-row l = record {
  room : length l.rows ≤ vec_capacity l.made;
  many : vec_len l.made ≡ l.row-index;
  made : map shape_and_reach l.made.items ≡ take l.row-index (map (λ row. ((command_by row).top, false)) l.rows);
}
