use Rattle.std.proofs.Common.{◌++◌, codes, subst, sym}
use Rattle.desk.specs.Shown.{shown}
use Rattle.streams.specs.Lines.{IsLine}
use Rattle.streams.specs.TextBuilder.{Adds}
use Rattle.streams.proofs.Built.{adds_both}
use Rattle.output_lines.specs.Telling.{verdict_text}
use Rattle.output_lines.specs.Text.{cause_text}
use Rattle.output_lines.proofs.OutputLines.{errs_is_line, rejected_is_line}
use Rattle.output_lines.proofs.verdicts.push_verdict.Goals as goal

pub returns-in-RejectedBy-clause-line : goal.returns-in-RejectedBy-clause-line
returns-in-RejectedBy-clause-line c =
    subst (λ v. IsLine (verdict_text c.args.named.now c.args.most c.args.pod.now (shown c.args.row.now) v)) (sym c.in-RejectedBy.is)
    (rejected_is_line c.args.named.now c.args.most _ c.args.pod.now (shown c.args.row.now) _ (subst IsLine c.name_at.ensures.name c.name_at.ensures.line))

pub returns-in-Errs-clause-text : goal.returns-in-Errs-clause-text
unfolding verdict_text
returns-in-Errs-clause-text c =
    subst (λ v. Adds c.args.out.now c.push_cause.new.out (verdict_text c.args.named.now c.args.most c.args.pod.now (shown c.args.row.now) v)) (sym c.in-Errs.is)
    (subst (λ name. Adds c.args.out.now c.push_cause.new.out (codes "error plugin " ++ name ++ (codes " " ++ cause_text c.in-Errs.why))) c.name_at-in-Errs.ensures.name
    (adds_both c.args.out.now c.put_two-in-Errs.new.self c.push_cause.new.out _ _ c.put_two-in-Errs.ensures
    (adds_both c.put_two-in-Errs.new.self c.put.new.self c.push_cause.new.out _ _ c.put.ensures c.push_cause.ensures)))

pub returns-in-Errs-clause-line : goal.returns-in-Errs-clause-line
returns-in-Errs-clause-line c =
    subst (λ v. IsLine (verdict_text c.args.named.now c.args.most c.args.pod.now (shown c.args.row.now) v)) (sym c.in-Errs.is)
    (errs_is_line c.args.named.now c.args.most _ c.args.pod.now (shown c.args.row.now) _ (subst IsLine c.name_at-in-Errs.ensures.name c.name_at-in-Errs.ensures.line))
