use Rattle.std.proofs.Common.{◌≡◌, ◌≤◌, length, map, take, count_by}
use Rattle.desk.specs.Shown.{shown}
use Rattle.choose.specs.declared.decision.Reason.TheVariants.{Marked, Taint, Cpu, Memory, Pods}
use Rattle.choose.specs.Choice.{is_for}
use Rattle.choose.specs.inside.Alone.{verdicts_alone}
use Rattle.choose.proofs.alone.counts_alone.Given as goal

-- the nodes so far are counted
abbrev pub invariant-loop-at : goal.invariant-loop-at
invariant-loop-at l = record {
  last : l.at-end ≡ length l.rows;
  marked : l.marked ≡ count_by (is_for Marked) (take l.at (verdicts_alone l.pod (map shown l.rows)));
  taint : l.taint ≡ count_by (is_for Taint) (take l.at (verdicts_alone l.pod (map shown l.rows)));
  cpu : l.cpu ≡ count_by (is_for Cpu) (take l.at (verdicts_alone l.pod (map shown l.rows)));
  memory : l.memory ≡ count_by (is_for Memory) (take l.at (verdicts_alone l.pod (map shown l.rows)));
  pods : l.pods ≡ count_by (is_for Pods) (take l.at (verdicts_alone l.pod (map shown l.rows)));
  few : (l.marked ≤ l.at) × (l.taint ≤ l.at) × (l.cpu ≤ l.at) × (l.memory ≤ l.at) × (l.pods ≤ l.at);
}
