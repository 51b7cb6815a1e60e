use Rattle.output_lines.proofs.OutputLines.{assumed_lines}
use Rattle.output_lines.proofs.text.push_assumed.Goals as goal

pub returns-clause-lines : goal.returns-clause-lines
returns-clause-lines c = assumed_lines _ _ _ _ c.as_bytes.ensures.valid c.as_bytes-2.ensures.valid
