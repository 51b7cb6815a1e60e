use Rattle.std.proofs.Common.{◌≡◌, ◌<◌, Option, IfSome, length, map, take, max, refl, sym, ap, subst, ◌∙◌, arith}
use Rattle.std.proofs.lemmas.List.{length-map, take_all}
use Rattle.quant.specs.Request.{greatest_by}
use Rattle.desk.specs.Shown.{shown}
use Rattle.choose.specs.declared.alone.Told.{Told}
use Rattle.choose.specs.declared.best.Found.{Found}
use Rattle.choose.specs.Choice.{Judged, count_of}
use Rattle.choose.specs.inside.Alone.{judged_alone, verdicts_alone}
use Rattle.choose.specs.inside.Finding.{nobody}
use Rattle.choose.specs.inside.Plain.{GoesAfter, IsPassing, first_of_both}
use Rattle.choose.proofs.First.{judged_length, greatest_next, max_of}
use Rattle.choose.proofs.FirstPlain.{IsTold, leads_all, one_told, passes_there}
use Rattle.choose.proofs.OnePass.{many_alone}
use Rattle.choose.proofs.alone.pass_marked.Goals as goal

-- one node more was told of
pub loop-at-preserved : goal.loop-at-preserved
loop-at-preserved c =
    let rows = c.args.rows.now in
    let pod = c.args.pod.now in
    let nodes = judged_alone pod (map shown rows) in
    let i = c.loop-at.at in
    let row = c.index-rows-at.result in
    let told : Told = c.tell_unless_plain-told.result in
    let below : i < length rows = omega (arith, c.loop-at-test.true, c.loop-at.invariant.last) in
    let there : i < length nodes = omega (arith, below, length-map rows shown, judged_length (map shown rows) (verdicts_alone pod (map shown rows)) (many_alone pod (map shown rows))) in
    let one : IsTold c.args.most pod rows i c.loop-at.first told = one_told c.args.most pod rows i row below c.index-rows-at.is c.loop-at.first c.loop-at.invariant.there c.loop-at.invariant.plain c.loop-at.invariant.gone told c.tell_unless_plain-told.ensures in
    let next : c.first_of_both-first.result ≡ first_of_both c.loop-at.first i told.worth = c.first_of_both-first.ensures in
    record {
      last = refl;
      there = subst (λ (o : Option Found). IfSome o (IsPassing c.args.most nodes)) (sym next) one.there;
      plain = λ k other less read q. subst (λ (o : Option Found). GoesAfter c.args.most nodes o k) (sym next) (one.plain k other less read q);
      gone = λ k less. subst (λ (o : Option Found). GoesAfter c.args.most nodes o k) (sym next) (one.gone k less);
      greatest =
          c.max-greatest.ensures ∙ max_of c.loop-at.greatest told.count
          ∙ ap (λ n. max n told.count) c.loop-at.invariant.greatest
          ∙ ap (max (greatest_by (λ (node : Judged). count_of node.verdict) (take i nodes))) one.count
          ∙ sym (greatest_next (λ (node : Judged). count_of node.verdict) nodes i nobody there);
    }

-- all nodes were
pub returns-clause-first : goal.returns-clause-first
returns-clause-first c =
    leads_all c.args.most c.args.pod.now c.args.rows.now c.requires.order c.loop-at.first c.loop-at.invariant.there
    (λ k less. c.loop-at.invariant.gone k (omega (arith, less, c.loop-at-test.false, c.loop-at.invariant.last)))

pub returns-clause-there : goal.returns-clause-there
returns-clause-there c = passes_there c.args.most c.args.pod.now c.args.rows.now c.loop-at.first c.loop-at.invariant.there

pub returns-clause-most : goal.returns-clause-most
returns-clause-most c =
    let rows = c.args.rows.now in
    let pod = c.args.pod.now in
    let all : length (judged_alone pod (map shown rows)) ≡ length rows = judged_length (map shown rows) (verdicts_alone pod (map shown rows)) (many_alone pod (map shown rows)) ∙ length-map rows shown in
    c.loop-at.invariant.greatest
    ∙ ap (greatest_by (λ (node : Judged). count_of node.verdict)) (take_all c.loop-at.at (judged_alone pod (map shown rows)) (omega (arith, all, c.loop-at-test.false, c.loop-at.invariant.last)))
