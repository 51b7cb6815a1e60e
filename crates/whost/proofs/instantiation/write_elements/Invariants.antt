use Rattle.whost.proofs.SegmentLemmas.{ElementsWritten}
use Rattle.whost.proofs.instantiation.write_elements.Given as goal

abbrev pub invariant-loop-segment : goal.invariant-loop-segment
invariant-loop-segment l = ElementsWritten l.fn.machine l.machine l.segment
