use Rattle.std.proofs.Common.{ℕ, ◌<◌, ◌≤◌, slice_index}
use Rattle.book.proofs.finishes.earliest_in.Given as goal

-- none of those so far is earlier
abbrev pub invariant-loop-i : goal.invariant-loop-i
invariant-loop-i l = (j : ℕ) → l.start ≤ j → j < l.i → l.earliest ≤ slice_index l.each j
