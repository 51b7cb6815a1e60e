use Rattle.std.proofs.Common.{◌<◌, [], ◌∷◌, length, OnOk, IfOk, sym, ◌∙◌, ap, subst, arith}
use Rattle.std.proofs.lemmas.List.{length-map, with_items_is}
use Rattle.choose.specs.Choice.{Choice, AreVerdicts}
use Rattle.choose.specs.Kits.{rules_of}
use Rattle.pool.specs.Speaking.{SpeaksFor}
use Rattle.pool.proofs.pool.Pool.decide.Goals as goal

-- where no verdict is written, the first kit chooses alone
pub returns-then-count-eq0-clause-chosen : goal.returns-then-count-eq0-clause-chosen
returns-then-count-eq0-clause-chosen g c =
    subst (λ pod. Choice (rules_of g.K.Rules.answers c.args.self.now.kits) c.args.snapshot pod c.choose_alone.result) c.deref-then-count-eq0.ensures
    (subst (λ t. Choice (rules_of g.K.Rules.answers t.kits) c.args.snapshot c.deref-then-count-eq0.result.now c.choose_alone.result) c.self.view_is c.choose_alone.ensures)

-- there is room for a verdict on each row
pub decide_with-decided-requires-clause-places : goal.decide_with-decided-requires-clause-places
decide_with-decided-requires-clause-places g c = c.as_mut_slice-2.ensures.len ∙ (c.in-Ok.ensures.len ∙ simp length-map at (ap length c.rows-nodes.ensures))

pub decide_with-decided-requires-clause-few : goal.decide_with-decided-requires-clause-few
decide_with-decided-requires-clause-few g c = subst (λ hs. length hs < 64) (sym c.as_mut_slice.ensures.value) c.self.invariant.1

pub decide_with-decided-requires-clause-speaks : goal.decide_with-decided-requires-clause-speaks
decide_with-decided-requires-clause-speaks g c = c.self.invariant.0

-- the first kit says what it said, and there are as many workers
pub invariant_of-self-2 : goal.invariant_of-self-2
invariant_of-self-2 g c =
    let as_many = c.decide_with-decided.ensures.length in (
      subst (λ kit. SpeaksFor g.J.Site.Says (g.K.Rules.answers kit)) (sym c.decide_with-decided.ensures.stays) c.self.invariant.0,
      subst (λ n. n < 64)
          (sym (ap length (with_items_is c.self.inside.helpers c.decide_with-decided.new.helpers (as_many ∙ c.as_mut_slice.ensures.len)) ∙ as_many ∙ ap length c.as_mut_slice.ensures.value))
          c.self.invariant.1,
    )

pub returns-clause-chosen : goal.returns-clause-chosen
returns-clause-chosen g c =
    subst (λ t. IfOk c.decide_with-decided.result (Choice (rules_of g.K.Rules.answers t.kits) c.args.snapshot c.args.pod.now)) c.self.view_is c.decide_with-decided.ensures.chosen

pub returns-clause-judged : goal.returns-clause-judged
returns-clause-judged g c = λ _.
    let made = c.decide_with-decided.new.verdicts in
    let whole = with_items_is c.resize.new.self made (c.decide_with-decided.auto.verdicts ∙ c.as_mut_slice-2.ensures.len) in
    subst (λ vs. OnOk c.decide_with-decided.result (AreVerdicts (rules_of g.K.Rules.answers c.args.self.now.kits) c.args.pod.now c.args.snapshot vs)) (sym whole)
    (subst (λ t. OnOk c.decide_with-decided.result (AreVerdicts (rules_of g.K.Rules.answers t.kits) c.args.pod.now c.args.snapshot made)) c.self.view_is c.decide_with-decided.ensures.judged)

pub returns-clause-kits : goal.returns-clause-kits
returns-clause-kits g c = ap (λ kit. kit ∷ []) c.decide_with-decided.ensures.stays ∙ ap (λ t. t.kits) c.self.view_is

pub nonzero_div-nodes : goal.nonzero_div-nodes
nonzero_div-nodes g c = omega (arith, c.saturating_add.ensures)
