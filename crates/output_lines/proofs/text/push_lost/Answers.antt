use Rattle.output_lines.proofs.OutputLines.{lost_lines}
use Rattle.output_lines.proofs.text.push_lost.Goals as goal

pub returns-clause-lines : goal.returns-clause-lines
returns-clause-lines c = lost_lines _ _ c.as_bytes.ensures.valid
