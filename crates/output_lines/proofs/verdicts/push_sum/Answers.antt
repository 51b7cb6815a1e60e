use Rattle.output_lines.proofs.OutputLines.{sum_is_line}
use Rattle.output_lines.proofs.verdicts.push_sum.Goals as goal

pub returns-clause-line : goal.returns-clause-line
returns-clause-line c = sum_is_line _ _ _ c.push_parts.ensures.line
