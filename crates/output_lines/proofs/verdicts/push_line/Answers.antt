use Rattle.std.proofs.Common.{IsTrue, subst}
use Rattle.quant.specs.Name.{is_name}
use Rattle.quant.specs.declared.objects.Node.{Node}
use Rattle.desk.specs.Shown.{shown}
use Rattle.output_lines.proofs.OutputLines.{verdict_lines_of}
use Rattle.output_lines.proofs.verdicts.push_line.Goals as goal

pub returns-clause-lines : goal.returns-clause-lines
returns-clause-lines c =
    verdict_lines_of c.args.named.now c.args.most c.args.pod.now (shown c.args.row.now) c.args.verdict (subst (λ (n : Node). IsTrue (is_name n.name)) c.deref.ensures c.as_bytes.ensures.valid) c.push_verdict.ensures.line
