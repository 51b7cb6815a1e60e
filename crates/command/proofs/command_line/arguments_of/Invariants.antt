use Rattle.std.proofs.Common.{◌≡◌, ◌≤◌, false, length, map, take}
use Rattle.std.specs.Vec.{vec_len, vec_capacity}
use Rattle.command.specs.inside.Built.{rule_and_reach, rule_by}
use Rattle.command.proofs.command_line.arguments_of.Given as goal

abbrev pub invariant-loop-one : goal.invariant-loop-one
invariant-loop-one l = record {
  room : length l.takes ≤ vec_capacity l.made;
  many : vec_len l.made ≡ l.one-index;
  made : map rule_and_reach l.made.items ≡ take l.one-index (map (λ t. (rule_by t, false)) l.takes);
}
