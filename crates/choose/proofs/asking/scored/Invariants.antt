use Rattle.std.proofs.Common.{◌≡◌, ◌≤◌, ◌*◌, length}
use Rattle.desk.specs.Shown.{shown}
use Rattle.choose.specs.Verdict.{told_of}
use Rattle.choose.proofs.AskedRules.{GoodBefore}
use Rattle.choose.proofs.asking.scored.Given as goal

abbrev pub invariant-loop-place : goal.invariant-loop-place
invariant-loop-place g l = record {
  stays : l.rules ≡ l.fn.rules;
  last : l.place-end ≡ length (g.R.Rules.answers l.fn.rules).weights;
  within : l.place ≤ l.place-end;
  few : l.place-end ≤ 16;
  small : l.sum ≤ 1000 * l.place;
  places : length l.scores ≡ 16;
  before : GoodBefore (g.R.Rules.answers l.fn.rules) (told_of l.fn.pod (shown l.fn.row)) l.place l.sum l.scores;
}
