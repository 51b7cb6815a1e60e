use Rattle.std.proofs.Common.{◌≡◌, length, map, take}
use Rattle.std.specs.List.{AllZip}
use Rattle.desk.specs.Shown.{shown}
use Rattle.choose.specs.inside.Finding.{IsBuiltIn}
use Rattle.choose.proofs.judging.judge_alone.Given as goal

abbrev pub invariant-loop-at : goal.invariant-loop-at
invariant-loop-at l = record {
  last : l.at-end ≡ length l.rows;
  places : length l.verdicts ≡ length l.rows;
  are : AllZip (IsBuiltIn l.pod) (map shown (take l.at l.rows)) (take l.at l.verdicts);
}
