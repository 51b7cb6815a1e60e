use Rattle.std.proofs.Common.{◌∙◌, length, length-append, ap, sym, arith, subst}
use Rattle.std.proofs.lemmas.List.{length-map}
use Rattle.std.specs.Arc.{arc_value}
use Rattle.choose.specs.Choice.{AreVerdicts, Choice}
use Rattle.pool.proofs.Collecting.{choice_is}
use Rattle.pool.proofs.pool.choose_there.Goals as goal

pub returns-clause-chosen : goal.returns-clause-chosen
returns-clause-chosen g c =
    let asked = arc_value c.in-Ok.order in
    let kit = g.K.Rules.answers c.args.home.now in
    let made = c.judge_and_collect.new.verdicts in
    subst (λ a. Choice kit a.snapshot a.pod c.decide.result) c.in-Ok.ensures.ok
    (choice_is kit c.rows.result.now asked.snapshot asked.pod made _
    (c.rows.ensures ∙ ap (λ a. a.snapshot) (c.asked.ensures ∙ c.deref-2.ensures))
    (subst (λ a. AreVerdicts kit a.pod a.snapshot made) c.deref.ensures c.judge_and_collect.ensures.are) c.decide.ensures)

pub returns-clause-judged : goal.returns-clause-judged
returns-clause-judged g c =
    subst (λ a. AreVerdicts (g.K.Rules.answers c.args.home.now) a.pod a.snapshot c.judge_and_collect.new.verdicts) (c.deref.ensures ∙ c.in-Ok.ensures.ok) c.judge_and_collect.ensures.are

pub send_all-requires-clause-pieces : goal.send_all-requires-clause-pieces
send_all-requires-clause-pieces g c =
    let same = ap (λ a. a.pieces) c.in-Ok.ensures.ok in
    omega (arith, same, c.requires.pieces, c.split_at_mut-woken.ensures.front_len)

-- there is a verdict on each row
pub decide-requires : goal.decide-requires
decide-requires g c =
    let rows = simp length-map at (ap length c.rows.ensures) in
    let asked = ap (λ a. length a.snapshot) (c.asked.ensures ∙ (c.deref-2.ensures ∙ c.in-Ok.ensures.ok)) in
    c.judge_and_collect.auto.verdicts ∙ (c.requires.places ∙ sym (rows ∙ asked))

pub judge_and_collect-requires-clause-places : goal.judge_and_collect-requires-clause-places
judge_and_collect-requires-clause-places g c = c.requires.places ∙ sym (ap (λ a. length a.snapshot) (c.deref.ensures ∙ c.in-Ok.ensures.ok))

pub returns-clause-length : goal.returns-clause-length
returns-clause-length g c =
    let both = length-append c.judge_and_collect.new.helpers c.split_at_mut-woken.result.1.now in
    let halves = ap length c.split_at_mut-woken.ensures.value in
    let before = length-append c.split_at_mut-woken.result.0.now c.split_at_mut-woken.result.1.now in
    omega (arith, both, halves, before, c.judge_and_collect.ensures.length, c.send_all.ensures)

pub judge_and_collect-requires-clause-pieces : goal.judge_and_collect-requires-clause-pieces
judge_and_collect-requires-clause-pieces g c =
    let same = ap (λ a. a.pieces) (c.deref.ensures ∙ c.in-Ok.ensures.ok) in
    omega (arith, same, c.requires.pieces, c.send_all.ensures, c.split_at_mut-woken.ensures.front_len)
