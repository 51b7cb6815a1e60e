use Rattle.std.proofs.Common.{◌≡◌, length, map, take}
use Rattle.desk.specs.Shown.{shown}
use Rattle.choose.specs.Choice.{judged}
use Rattle.choose.specs.inside.Finding.{StandsFirst}
use Rattle.choose.proofs.best.first_of.Given as goal

abbrev pub invariant-loop-at : goal.invariant-loop-at
invariant-loop-at l = record {
  last : l.at-end ≡ length l.verdicts;
  first : StandsFirst l.by (judged (map shown l.rows) l.verdicts) (take l.at (judged (map shown l.rows) l.verdicts)) l.first;
}
