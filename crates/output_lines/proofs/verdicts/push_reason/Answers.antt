use Rattle.std.proofs.Common.{subst, sym}
use Rattle.choose.specs.declared.decision.Reason.TheVariants.{Cpu, Memory, Pods}
use Rattle.desk.specs.Shown.{shown}
use Rattle.streams.specs.Lines.{IsLine}
use Rattle.output_lines.specs.Telling.{reason_text}
use Rattle.output_lines.proofs.OutputLines.{reason_is_line}
use Rattle.output_lines.proofs.verdicts.push_reason.Goals as goal

pub returns-in-Cpu-clause-line : goal.returns-in-Cpu-clause-line
returns-in-Cpu-clause-line c =
    subst (λ why. IsLine (reason_text c.args.pod.now (shown c.args.row.now) why)) (sym c.in-Cpu.is) (reason_is_line c.args.pod.now (shown c.args.row.now) Cpu tt)

pub returns-in-Memory-clause-line : goal.returns-in-Memory-clause-line
returns-in-Memory-clause-line c =
    subst (λ why. IsLine (reason_text c.args.pod.now (shown c.args.row.now) why)) (sym c.in-Memory.is) (reason_is_line c.args.pod.now (shown c.args.row.now) Memory tt)

pub returns-in-Pods-clause-line : goal.returns-in-Pods-clause-line
returns-in-Pods-clause-line c =
    subst (λ why. IsLine (reason_text c.args.pod.now (shown c.args.row.now) why)) (sym c.in-Pods.is) (reason_is_line c.args.pod.now (shown c.args.row.now) Pods tt)
