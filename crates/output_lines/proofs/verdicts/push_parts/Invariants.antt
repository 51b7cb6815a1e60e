use Rattle.std.proofs.Common.{◌≡◌, length, min, take, zip}
use Rattle.std.specs.List.{flat_map}
use Rattle.streams.specs.Lines.{IsLine}
use Rattle.streams.specs.TextBuilder.{Adds}
use Rattle.output_lines.specs.Telling.{part_text}
use Rattle.output_lines.proofs.verdicts.push_parts.Given as goal

abbrev pub invariant-loop-at : goal.invariant-loop-at
invariant-loop-at l = record {
  last : l.at-end ≡ min (length l.named) (length l.scores);
  text : Adds l.initial.out l.out (flat_map part_text (take l.at (zip l.named l.scores)));
  line : IsLine (flat_map part_text (take l.at (zip l.named l.scores)));
}
