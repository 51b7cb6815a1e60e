use Rattle.output_lines.proofs.OutputLines.{total_is_line}
use Rattle.output_lines.proofs.verdicts.push_total.Goals as goal

pub returns-clause-line : goal.returns-clause-line
returns-clause-line c = total_is_line _ _ _ _ _ _ _ c.push_parts.ensures.line
