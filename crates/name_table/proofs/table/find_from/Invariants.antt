use Rattle.std.proofs.Common.{◌≡◌, ℕ, Some, length}
use Rattle.name_table.specs.Slots.{name_in}
use Rattle.name_table.specs.inside.Woven.{times, chain, Ends}
use Rattle.name_table.proofs.table.find_from.Given as goal

-- a slot with the name that was in the chain is still to come
abbrev pub invariant-loop-at : goal.invariant-loop-at
invariant-loop-at g l = record {
  ends : Ends l.links.nexts l.at;
  to_come : (i : ℕ) → name_in l.entries i ≡ Some l.name → times i (chain l.links.nexts l.at) ≡ times i (chain l.links.nexts l.first);
}

abbrev pub decreases-loop-at : goal.decreases-loop-at
decreases-loop-at g l = length (chain l.links.nexts l.at)
