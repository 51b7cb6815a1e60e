use Rattle.std.proofs.Common.{◌≡◌, ◌≤◌, length}
use Rattle.desk.specs.Shown.{shown}
use Rattle.choose.specs.Verdict.{PassBefore, told_of}
use Rattle.choose.proofs.asking.filtered.Given as goal

abbrev pub invariant-loop-place : goal.invariant-loop-place
invariant-loop-place g l = record {
  stays : l.rules ≡ l.fn.rules;
  last : l.place-end ≡ length (g.R.Rules.answers l.fn.rules).weights;
  within : l.place ≤ l.place-end;
  before : PassBefore (g.R.Rules.answers l.fn.rules) l.place (told_of l.fn.pod (shown l.fn.row));
}
