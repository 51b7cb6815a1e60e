use Rattle.std.proofs.Common.{◌<◌, ◌≤◌, length, map, sym, ◌∙◌, ap, subst}
use Rattle.std.proofs.lemmas.List.{with_items_is}
use Rattle.desk.specs.Shown.{shown}
use Rattle.choose.specs.Choice.{AreRulings}
use Rattle.choose.specs.Kits.{JudgeAlike, rules_of}
use Rattle.choose.specs.Verdict.{asked}
use Rattle.fleet.proofs.fleet.Fleet.judge.Goals as goal

pub rule_by_first-requires-clause-some : goal.rule_by_first-requires-clause-some
rule_by_first-requires-clause-some g c = subst (λ ks. 0 < length ks) (sym c.as_mut_slice.ensures.value) c.self.invariant.0

-- the kits are those that were there
pub invariant_of-self-2 : goal.invariant_of-self-2
invariant_of-self-2 g c =
    let stay = c.rule_by_first.ensures.stay in
    subst (λ ks. (0 < length ks) × (length ks ≤ 64) × JudgeAlike g.K.Rules.answers ks)
    (sym (with_items_is c.self.inside.kits c.rule_by_first.new.kits (ap length stay ∙ c.as_mut_slice.ensures.len) ∙ stay ∙ c.as_mut_slice.ensures.value))
    c.self.invariant

pub returns-clause-kits : goal.returns-clause-kits
returns-clause-kits g c =
    let stay = c.rule_by_first.ensures.stay in
    with_items_is c.self.inside.kits c.rule_by_first.new.kits (ap length stay ∙ c.as_mut_slice.ensures.len) ∙ stay ∙ c.as_mut_slice.ensures.value ∙ ap (λ t. t.kits) c.self.view_is

pub returns-clause-judged : goal.returns-clause-judged
returns-clause-judged g c =
    let pod = c.args.pod.now in
    let alone = c.args.filters_alone in
    let made = c.rule_by_first.new.verdicts in
    let kits = c.as_mut_slice.ensures.value ∙ ap (λ t. t.kits) c.self.view_is in
    let whole = with_items_is c.resize.new.self made (c.rule_by_first.auto.verdicts ∙ c.as_mut_slice-2.ensures.len) in
    subst (λ vs. AreRulings (asked alone (rules_of g.K.Rules.answers c.args.self.now.kits)) pod c.args.snapshot.now vs) (sym whole)
    (subst (λ ns. AreRulings (asked alone (rules_of g.K.Rules.answers c.args.self.now.kits)) pod ns made) c.rows-rows.ensures
    (subst (λ ks. AreRulings (asked alone (rules_of g.K.Rules.answers ks)) pod (map shown c.rows-rows.result.now) made) kits c.rule_by_first.ensures.are))
