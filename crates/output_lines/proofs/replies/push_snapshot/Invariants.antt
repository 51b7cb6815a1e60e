use Rattle.std.proofs.Common.{false, take}
use Rattle.std.specs.List.{flat_map}
use Rattle.streams.specs.TextBuilder.{Adds}
use Rattle.output_lines.specs.Indented.{AreLines}
use Rattle.output_lines.proofs.Rows.{row_line}
use Rattle.output_lines.proofs.replies.push_snapshot.Given as goal

abbrev pub invariant-loop-row : goal.invariant-loop-row
invariant-loop-row l =
    Adds l.initial.out l.out (flat_map row_line (take l.row-index l.row-items)) × AreLines false (flat_map row_line (take l.row-index l.row-items))
