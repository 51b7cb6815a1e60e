use Rattle.wcode.proofs.Words.{HasSkipped}
use Rattle.wcode.proofs.reading.skip_labels.Given as goal

abbrev pub invariant-loop-i : goal.invariant-loop-i
invariant-loop-i l = HasSkipped l.bytes l.at l.place l._i
