use Rattle.output_lines.proofs.OutputLines.{part_is_line}
use Rattle.output_lines.proofs.verdicts.push_part.Goals as goal

pub returns-clause-line : goal.returns-clause-line
returns-clause-line c = part_is_line c.args.rule.now c.args.score c.as_bytes.ensures.valid
