use Rattle.wmach.proofs.Recorded.{SoFar}
use Rattle.wmach.proofs.records.records_of.Given as goal

-- those of the imports so far
abbrev pub invariant-loop-place : goal.invariant-loop-place
invariant-loop-place l = SoFar l.decoded l.records.items l.place
