use Rattle.std.proofs.Common.{false, sym, subst}
use Rattle.output_lines.specs.Indented.{AreLines}
use Rattle.output_lines.specs.Text.{cycle_line}
use Rattle.output_lines.proofs.OutputLines.{idle_lines}
use Rattle.output_lines.proofs.text.push_cycled.Goals as goal

pub returns-in-Idle-clause-lines : goal.returns-in-Idle-clause-lines
unfolding cycle_line
returns-in-Idle-clause-lines c = subst (λ came. AreLines false (cycle_line c.args.named.now came)) (sym c.in-Idle.is) idle_lines
