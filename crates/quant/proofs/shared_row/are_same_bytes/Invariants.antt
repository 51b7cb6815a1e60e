use Rattle.std.proofs.Common.{◌≡◌, take, length, IsTrue}
use Rattle.quant.proofs.shared_row.are_same_bytes.Given as goal

-- where none differed, the first bytes are the same
abbrev pub invariant-loop-at : goal.invariant-loop-at
invariant-loop-at l = record {
  long : length l.a ≡ length l.b;
  last : l.at-end ≡ length l.a;
  first : IsTrue l.same → take l.at l.a ≡ take l.at l.b;
}
