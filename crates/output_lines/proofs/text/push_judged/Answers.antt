use Rattle.output_lines.proofs.OutputLines.{judged_lines}
use Rattle.output_lines.proofs.text.push_judged.Goals as goal

pub returns-clause-lines : goal.returns-clause-lines
returns-clause-lines c = judged_lines _ _ c.as_bytes.ensures.valid
