use Rattle.std.proofs.Common.{true, map, take, zip}
use Rattle.std.specs.List.{flat_map}
use Rattle.desk.specs.Shown.{shown}
use Rattle.streams.specs.TextBuilder.{Adds}
use Rattle.output_lines.specs.Indented.{AreLines}
use Rattle.output_lines.specs.Telling.{verdict_line}
use Rattle.output_lines.proofs.verdicts.push_lines.Given as goal

abbrev pub invariant-loop-at : goal.invariant-loop-at
invariant-loop-at l =
    Adds l.initial.out l.out (flat_map (verdict_line l.named l.most l.pod) (take l.at (zip (map shown l.rows) l.verdicts)))
    × AreLines true (flat_map (verdict_line l.named l.most l.pod) (take l.at (zip (map shown l.rows) l.verdicts)))
