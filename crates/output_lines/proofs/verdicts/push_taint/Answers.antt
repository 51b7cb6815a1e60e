use Rattle.output_lines.proofs.OutputLines.{taint_is_line}
use Rattle.output_lines.proofs.verdicts.push_taint.Goals as goal

pub returns-clause-line : goal.returns-clause-line
returns-clause-line c = taint_is_line c.args.taint.now c.as_bytes.ensures.valid c.as_bytes-2.ensures.valid
