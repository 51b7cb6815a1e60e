use Rattle.std.proofs.Common.{◌∙◌, length, ap, sym, subst}
use Rattle.std.proofs.lemmas.List.{length-map}
use Rattle.desk.specs.Shown.{shown}
use Rattle.choose.specs.Choice.{AreVerdicts}
use Rattle.pool.proofs.Collecting.{choice_is}
use Rattle.pool.proofs.pool.choose_here.Goals as goal

pub returns-clause-chosen : goal.returns-clause-chosen
returns-clause-chosen g c =
    let rules = g.K.Rules.answers c.args.home.now in
    choice_is rules c.rows-rows.result.now c.args.snapshot.now c.args.pod.now c.judge.new.verdicts _ c.rows-rows.ensures
    (subst (λ pod. AreVerdicts rules pod c.args.snapshot.now c.judge.new.verdicts) c.deref.ensures
    (subst (λ ns. AreVerdicts rules c.deref.result.now ns c.judge.new.verdicts) c.rows-rows.ensures c.judge.ensures.are))
    c.decide.ensures

pub returns-clause-judged : goal.returns-clause-judged
returns-clause-judged g c =
    let rules = g.K.Rules.answers c.args.home.now in
    subst (λ pod. AreVerdicts rules pod c.args.snapshot.now c.judge.new.verdicts) c.deref.ensures
    (subst (λ ns. AreVerdicts rules c.deref.result.now ns c.judge.new.verdicts) c.rows-rows.ensures c.judge.ensures.are)

-- there is a verdict on each row

pub decide-requires : goal.decide-requires
decide-requires g c = c.judge.auto.verdicts ∙ (c.requires ∙ (sym (ap length c.rows-rows.ensures) ∙ length-map c.rows-rows.result.now shown))

pub judge-requires : goal.judge-requires
judge-requires g c = c.requires ∙ (sym (ap length c.rows-rows.ensures) ∙ length-map c.rows-rows.result.now shown)
