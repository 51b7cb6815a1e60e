use Rattle.std.proofs.Common.{map, take}
use Rattle.desk.specs.Shown.{shown}
use Rattle.desk.specs.inside.Kept.{AreKept}
use Rattle.desk.specs.inside.LastLook.{IsWritten}
use Rattle.desk.proofs.pass.write_all.Given as goal

-- what the calls so far changed is written, and what is kept is what the rows are worth with that
abbrev pub invariant-loop-totals : goal.invariant-loop-totals
invariant-loop-totals l = record {
  written : IsWritten l.initial.rows (take l.totals-index l.since) l.rows;
  kept : AreKept (map shown l.initial.rows) l.initial.classes → AreKept (map shown l.rows) l.classes;
}
