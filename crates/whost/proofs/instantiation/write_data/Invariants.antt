use Rattle.whost.proofs.SegmentLemmas.{DataWritten}
use Rattle.whost.proofs.instantiation.write_data.Given as goal

abbrev pub invariant-loop-segment : goal.invariant-loop-segment
invariant-loop-segment l = DataWritten l.fn.machine l.machine l.segment
