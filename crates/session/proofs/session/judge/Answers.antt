use Rattle.std.proofs.Common.{◌≡◌, ◌∙◌, ◌++◌, true, false, map, length, sym, ap, subst}
use Rattle.std.proofs.lemmas.List.{length-map}
use Rattle.quant.specs.declared.objects.Pod.{Pod}
use Rattle.desk.specs.Machine.{snapshot}
use Rattle.desk.specs.Shown.{shown}
use Rattle.choose.specs.Kits.{rules_of}
use Rattle.choose.specs.Verdict.{asked}
use Rattle.choose.specs.Choice.{AreRulings}
use Rattle.choose.proofs.Verdicts.{all_zip_length}
use Rattle.streams.specs.TextBuilder.{Adds}
use Rattle.streams.proofs.Built.{adds_both}
use Rattle.output_lines.specs.Indented.{AreLines}
use Rattle.output_lines.specs.Telling.{ruling_lines}
use Rattle.output_lines.specs.Text.{judged_line}
use Rattle.session.proofs.Nodes.{judged_by}
use Rattle.session.proofs.session.judge.Goals as goal

pub push_rulings-requires : goal.push_rulings-requires
push_rulings-requires g c =
    ap length c.verdicts.ensures ∙ (all_zip_length _ _ _ c.in-Ok-judge.ensures.judged ∙ (sym (ap length c.rows.ensures) ∙ length-map c.rows.result.now shown))

-- the lines of the nodes, and then the last one
pub returns-clause-judged : goal.returns-clause-judged
returns-clause-judged g c =
    let rules = rules_of g.D.Kit.Rules.answers (g.D.Decider.kits c.args.decider.now) in
    let named = c.args.named.now in
    let s = c.args.desk.now in
    let question = c.args.question.now in
    let pod = question.pod in
    let nodes = map shown c.rows.result.now in
    let rulings = c.verdicts.result.now in
    let many = length c.rows-2.result.now in
    let seen : nodes ≡ snapshot s.cluster = c.rows.ensures ∙ c.in-Ok.ensures.shown in
    let all : many ≡ length nodes = sym (length-map c.rows-2.result.now shown) ∙ ap length (c.rows-2.ensures ∙ sym c.rows.ensures) in
    let are : AreRulings (asked question.filters_alone rules) pod nodes rulings = subst (λ vs. AreRulings (asked question.filters_alone rules) pod nodes vs) (sym c.verdicts.ensures) (subst (λ rows. AreRulings (asked question.filters_alone rules) pod rows (g.D.Decider.last c.judge.new.self)) (sym c.rows.ensures) c.in-Ok-judge.ensures.judged) in
    let indented = subst (λ (p : Pod). AreLines true (ruling_lines named p nodes rulings)) c.deref.ensures c.push_rulings.ensures.lines in
    let last = subst (λ (p : Pod). AreLines false (judged_line p.uid many)) c.deref-2.ensures c.push_judged.ensures.lines in (
      ruling_lines named pod nodes rulings ++ judged_line pod.uid many,
      judged_by rules named s question nodes rulings many seen all are indented last,
      adds_both c.args.text.now c.push_rulings.new.out c.push_judged.new.out (ruling_lines named pod nodes rulings) (judged_line pod.uid many)
          (subst (λ (p : Pod). Adds c.args.text.now c.push_rulings.new.out (ruling_lines named p nodes rulings)) c.deref.ensures c.push_rulings.ensures.text)
          (subst (λ (p : Pod). Adds c.push_rulings.new.out c.push_judged.new.out (judged_line p.uid many)) c.deref-2.ensures c.push_judged.ensures.text),
    )
