use Rattle.std.proofs.Common.{◌≡◌, ◌<◌, List, length}
use Rattle.std.specs.Prelude.{slice_index_or, slice_set}
use Rattle.std.specs.List.{AllWithin}
use Rattle.desk.specs.Shown.{Shown, shown}
use Rattle.desk.specs.inside.Kept.{AreKept, IsClass}
use Rattle.desk.proofs.class.renew_all.Given as goal

-- the classes so far are of the nodes with this one, and the others of those before
abbrev pub invariant-loop-k : goal.invariant-loop-k
invariant-loop-k l =
    (nodes : List Shown) → l.at < length nodes → l.row.node ≡ (slice_index_or nodes l.at (shown l.row)).node → AreKept nodes l.initial.classes
    → AllWithin (IsClass (slice_set nodes l.at (shown l.row))) l.classes 0 l.k × AllWithin (IsClass nodes) l.classes l.k (length l.classes)
