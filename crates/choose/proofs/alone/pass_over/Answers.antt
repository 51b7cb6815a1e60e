use Rattle.std.proofs.Common.{◌≡◌, ◌+◌, ◌<◌, ◌≤◌, length, map, take, IfSome, max, refl, sym, ap, ◌∙◌, subst, arith}
use Rattle.std.proofs.lemmas.List.{length-map, take_all}
use Rattle.quant.specs.Request.{greatest_by}
use Rattle.desk.specs.Shown.{shown}
use Rattle.choose.specs.declared.alone.Told.{Told}
use Rattle.choose.specs.declared.best.Worth.TheVariants.{Total}
use Rattle.choose.specs.Choice.{Judged, count_of, total_of}
use Rattle.choose.specs.inside.Alone.{alone, verdicts_alone, judged_alone, worth_from, least_after, after_told}
use Rattle.choose.specs.inside.Finding.{node_at, nobody, StandsFirst}
use Rattle.choose.proofs.First.{judged_length, stands_over_all, greatest_next, max_of}
use Rattle.choose.proofs.OnePass.{many_alone, verdict_at, one_more, gone_more}
use Rattle.choose.proofs.alone.pass_over.Goals as goal
use Rattle.choose.proofs.alone.pass_over.Goals.{in-Some, in_default}

-- one node more was told of
pub loop-at-preserved : goal.loop-at-preserved
loop-at-preserved c =
    let rows = c.args.rows.now in
    let pod = c.args.pod.now in
    let nodes = judged_alone pod (map shown rows) in
    let i = c.loop-at.at in
    let row = c.index-rows-at.result in
    let told = c.tell-told.result in
    let below : i < length rows = omega (arith, c.loop-at-test.true, c.loop-at.invariant.last) in
    let shown_below : i < length (map shown rows) = omega (arith, below, length-map rows shown) in
    let there : i < length nodes = omega (arith, shown_below, judged_length (map shown rows) (verdicts_alone pod (map shown rows)) (many_alone pod (map shown rows))) in
    let verdict : (node_at nodes i).verdict ≡ alone pod (shown row) = verdict_at pod rows i row below c.index-rows-at.is in
    let worth : told.worth ≡ worth_from (least_after c.loop-at.first) (total_of c.args.most (node_at nodes i).verdict) =
    ap (λ (t : Told). t.worth) c.tell-told.ensures.told
    ∙ ap (λ l. worth_from l (total_of c.args.most (alone pod (shown row)))) c.loop-at.invariant.least
    ∙ ap (λ v. worth_from (least_after c.loop-at.first) (total_of c.args.most v)) (sym verdict) in
    let count : told.count ≡ count_of (node_at nodes i).verdict = ap (λ (t : Told). t.count) c.tell-told.ensures.told ∙ ap count_of (sym verdict) in
    let stands = one_more pod (map shown rows) c.args.most c.requires i shown_below c.loop-at.first c.loop-at.invariant.gone c.loop-at.invariant.first told.worth worth in
    let next = greatest_next (λ (node : Judged). count_of node.verdict) nodes i nobody there in
    let larger = max_of c.loop-at.greatest told.count in
    record {
      last = refl;
      first = elim c.match-told.branch [
        | in-Some w ↦ subst (StandsFirst (Total c.args.most) nodes (take (i + 1) nodes)) (ap (after_told c.loop-at.first i) w.in-Some.is ∙ sym w.first-is) stands
        | in_default w ↦ subst (StandsFirst (Total c.args.most) nodes (take (i + 1) nodes)) (ap (after_told c.loop-at.first i) w.in_default.is ∙ sym w.first-is) stands
      ];
      gone = elim c.match-told.branch [
        | in-Some w ↦ subst (λ first. IfSome first (λ found. found.at < i + 1)) (sym w.first-is) (omega arith)
        | in_default w ↦ subst (λ first. IfSome first (λ found. found.at < i + 1)) (sym w.first-is) (gone_more i c.loop-at.first c.loop-at.invariant.gone)
      ];
      least = elim c.match-told.branch [
        | in-Some w ↦ w.least-is ∙ ap least_after (sym w.first-is)
        | in_default w ↦ w.least-is ∙ c.loop-at.invariant.least ∙ ap least_after (sym w.first-is)
      ];
      few = elim c.match-told.branch [
        | in-Some w ↦ let few : w.in-Some.worth ≤ 100000 = subst (λ o. IfSome o (λ worth. worth ≤ 100000)) w.in-Some.is c.tell-told.ensures.few in omega (arith, few, w.least-is)
        | in_default w ↦ omega (arith, c.loop-at.invariant.few, w.least-is)
      ];
      greatest =
          let before : c.loop-at.greatest ≡ greatest_by (λ (node : Judged). count_of node.verdict) (take i nodes) = c.loop-at.invariant.greatest in
          c.max-greatest.ensures ∙ larger ∙ ap (λ n. max n told.count) before ∙ ap (max (greatest_by (λ (node : Judged). count_of node.verdict) (take i nodes))) count ∙ sym next;
    }

-- all nodes were
pub returns-clause-first : goal.returns-clause-first
returns-clause-first c =
    let rows = c.args.rows.now in
    let pod = c.args.pod.now in
    let all : length (judged_alone pod (map shown rows)) ≡ length rows = judged_length (map shown rows) (verdicts_alone pod (map shown rows)) (many_alone pod (map shown rows)) ∙ length-map rows shown in
    stands_over_all (Total c.args.most) (judged_alone pod (map shown rows)) c.loop-at.at c.loop-at.first (omega (arith, all, c.loop-at-test.false, c.loop-at.invariant.last)) c.loop-at.invariant.first

pub returns-clause-most : goal.returns-clause-most
returns-clause-most c =
    let rows = c.args.rows.now in
    let pod = c.args.pod.now in
    let all : length (judged_alone pod (map shown rows)) ≡ length rows = judged_length (map shown rows) (verdicts_alone pod (map shown rows)) (many_alone pod (map shown rows)) ∙ length-map rows shown in
    c.loop-at.invariant.greatest
    ∙ ap (greatest_by (λ (node : Judged). count_of node.verdict)) (take_all c.loop-at.at (judged_alone pod (map shown rows)) (omega (arith, all, c.loop-at-test.false, c.loop-at.invariant.last)))
