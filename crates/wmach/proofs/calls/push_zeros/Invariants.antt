use Rattle.std.proofs.Common.{◌≡◌, ◌+◌, ◌++◌, length, take, replicate}
use Rattle.wmach.proofs.calls.push_zeros.Given as goal

-- those so far are zeros
abbrev pub invariant-loop-i : goal.invariant-loop-i
invariant-loop-i l = record {
  zeros : take (l.top + l.i) l.slots ≡ take l.top l.initial.slots ++ replicate l.i 0;
  long : length l.slots ≡ length l.initial.slots;
}
