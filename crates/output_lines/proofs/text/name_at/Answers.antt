use Rattle.std.proofs.Common.{sym, subst}
use Rattle.streams.specs.Lines.{IsLine}
use Rattle.output_lines.proofs.Indented.{IsLine-name}
use Rattle.output_lines.proofs.text.name_at.Goals as goal

pub returns-in-Some-clause-line : goal.returns-in-Some-clause-line
returns-in-Some-clause-line c = subst IsLine (sym c.as_bytes.ensures.bytes) (IsLine-name c.in-Some.rule.now.name c.as_bytes.ensures.valid)
