use Rattle.std.proofs.Common.{◌≡◌, length, map, take}
use Rattle.desk.specs.Shown.{shown}
use Rattle.desk.specs.inside.Kept.{AreKept}
use Rattle.desk.specs.inside.LastLook.{uses_of}
use Rattle.desk.specs.inside.NodeCalls.{nodes_of}
use Rattle.desk.proofs.pass.write_each.Given as goal

-- the nodes stay, what is used of those so far is written, and what is kept is what they are worth
-- with that
abbrev pub invariant-loop-at : goal.invariant-loop-at
invariant-loop-at l = record {
  last : l.at-end ≡ length l.used;
  many : length l.used ≡ length l.rows;
  nodes : nodes_of l.rows ≡ nodes_of l.initial.rows;
  used : take l.at (uses_of l.rows) ≡ take l.at l.used;
  kept : AreKept (map shown l.initial.rows) l.initial.classes → AreKept (map shown l.rows) l.classes;
}
