use Rattle.std.proofs.Common.{◌≡◌, length, map, take}
use Rattle.desk.specs.Shown.{shown}
use Rattle.choose.specs.Verdict.{asked}
use Rattle.choose.specs.Choice.{AreRulings}
use Rattle.choose.proofs.judging.rule_on.Given as goal

abbrev pub invariant-loop-at : goal.invariant-loop-at
invariant-loop-at g l = record {
  last : l.at-end ≡ length l.rows;
  places : length l.verdicts ≡ length l.rows;
  stays : l.rules ≡ l.fn.rules;
  of_pod : g.R.Rules.OfPod l.notes l.pod;
  are : AreRulings (asked l.filters_alone (g.R.Rules.answers l.fn.rules)) l.pod (map shown (take l.at l.rows)) (take l.at l.verdicts);
}
