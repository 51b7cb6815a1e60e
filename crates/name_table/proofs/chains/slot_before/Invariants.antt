use Rattle.std.proofs.Common.{◌≡◌, ◌≢◌, ℕ, ◌<◌, List, ◌++◌, length}
use Rattle.name_table.specs.inside.Woven.{times, chain, Ends}
use Rattle.name_table.proofs.chains.slot_before.Given as goal

-- the chain goes on to the slot, which is still to come
abbrev pub invariant-loop-at : goal.invariant-loop-at
invariant-loop-at l = record {
  ends : Ends l.links.nexts l.at;
  within : l.at < length l.links.nexts;
  later : l.at ≢ l.slot;
  there : times l.slot (chain l.links.nexts l.at) ≡ 1;
  from : (front : List ℕ) × (chain l.links.nexts l.first ≡ front ++ chain l.links.nexts l.at);
}

abbrev pub decreases-loop-at : goal.decreases-loop-at
decreases-loop-at l = length (chain l.links.nexts l.at)
