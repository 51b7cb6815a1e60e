use Rattle.std.proofs.Common.{◌∙◌, sym, subst}
use Rattle.desk.specs.Shown.{shown}
use Rattle.choose.specs.Verdict.{ByRules, asked, passing_alone, told_of, without_scores}
use Rattle.choose.specs.inside.Verdict.{nothing_added}
use Rattle.choose.proofs.AskedRules.{passes_by_filters}
use Rattle.choose.proofs.judging.ruling_of.Goals as goal

-- where filters alone are asked
pub returns-then-filters_alone-clause-is : goal.returns-then-filters_alone-clause-is
returns-then-filters_alone-clause-is g c =
    let told = told_of c.args.pod.now (shown c.args.row.now) in
    let passing = passing_alone nothing_added in
    subst (λ alone. ByRules (asked alone (g.R.Rules.answers c.args.rules.now)) told passing_alone passing) (sym c.if-filters_alone.true)
    (subst (λ rules. ByRules (without_scores (g.R.Rules.answers rules)) told passing_alone passing) c.show_node.ensures.stays
    (passes_by_filters (g.R.Rules.answers c.show_node.new.self) told c.in_default.ensures.few c.in_default.ensures.is))

-- the rules stay as they were

pub returns-in-Some-clause-stays : goal.returns-in-Some-clause-stays
returns-in-Some-clause-stays g c = c.filtered.ensures.stays ∙ c.show_node.ensures.stays

pub returns-in-Ok-clause-stays : goal.returns-in-Ok-clause-stays
returns-in-Ok-clause-stays g c = c.scored.ensures.stays ∙ c.filtered.ensures.stays ∙ c.show_node.ensures.stays

pub returns-in-Err-clause-stays : goal.returns-in-Err-clause-stays
returns-in-Err-clause-stays g c = c.scored.ensures.stays ∙ c.filtered.ensures.stays ∙ c.show_node.ensures.stays
