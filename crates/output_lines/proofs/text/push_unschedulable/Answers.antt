use Rattle.output_lines.proofs.OutputLines.{unschedulable_lines}
use Rattle.output_lines.proofs.text.push_unschedulable.Goals as goal

pub returns-clause-lines : goal.returns-clause-lines
returns-clause-lines c = unschedulable_lines _ _ c.as_bytes.ensures.valid
