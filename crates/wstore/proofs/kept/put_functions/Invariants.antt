use Rattle.std.proofs.Common.{◌≡◌, Some, map, take}
use Rattle.wstore.specs.Segments.{overwritten}
use Rattle.wstore.proofs.kept.put_functions.Given as goal

-- those so far are written
abbrev pub invariant-loop-i : goal.invariant-loop-i
invariant-loop-i l = record {
  places : l.table.places ≡ overwritten l.initial.table.places l.at (map Some (take l.i l.functions));
  image : l.table.image ≡ l.initial.table.image;
}
