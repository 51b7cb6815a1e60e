use Rattle.wcode.proofs.Lists.{HasLabels}
use Rattle.wcode.proofs.expression.read_labels.Given as goal

abbrev pub invariant-loop-i : goal.invariant-loop-i
invariant-loop-i l = HasLabels l.bytes l.at l.labels.items l.place l._i
