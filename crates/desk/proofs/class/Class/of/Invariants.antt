use Rattle.std.proofs.Common.{◌≡◌, true, map, take}
use Rattle.std.specs.List.{AllWithin}
use Rattle.desk.specs.Plain.{is_plain}
use Rattle.desk.specs.Shown.{Shown, shown}
use Rattle.desk.specs.Worth.{worth}
use Rattle.desk.proofs.class.Class.of.Given as goal

-- the rows so far are judged, and seen to be plain
abbrev pub invariant-loop-row : goal.invariant-loop-row
invariant-loop-row l = record {
  worths : l.worths.items ≡ map (worth l.request) (map shown (take l.row-index l.rows));
  plain : l.all_plain ≡ true → AllWithin (λ (s : Shown). is_plain s.node ≡ true) (map shown l.rows) 0 l.row-index;
}
