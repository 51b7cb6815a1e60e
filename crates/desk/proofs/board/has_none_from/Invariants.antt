use Rattle.std.proofs.Common.{◌≡◌, ◌≤◌, ◌<◌, ℕ, slice_index}
use Rattle.desk.proofs.board.has_none_from.Given as goal

-- none of the passes so far has a call
abbrev pub invariant-loop-pass : goal.invariant-loop-pass
invariant-loop-pass l = (k : ℕ) → l.handed ≤ k → k < l.pass → slice_index l.calls k ≡ 0
