use Rattle.std.proofs.Common.{ℕ, ◌<◌, slice_index}
use Rattle.desk.proofs.class.first_greatest.Given as goal

-- those so far are less
abbrev pub invariant-loop-at : goal.invariant-loop-at
invariant-loop-at l = (k : ℕ) → k < l.at → slice_index l.worths k < l.most
