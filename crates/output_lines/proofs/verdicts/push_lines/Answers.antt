use Rattle.std.proofs.Common.{◌≡◌, ℕ, List, ◌+◌, ◌<◌, ◌≤◌, ◌++◌, ◌∷◌, [], true, add-one, length, map, take, get_or, zip, Option, Some, None, IfSome, sym, ap, subst, ◌∙◌, arith}
use Rattle.std.specs.List.{All, flat_map}
use Rattle.std.proofs.lemmas.List.{flat_map_more, get_or_default, length-map, take_all}
use Rattle.desk.specs.Shown.{Shown, shown}
use Rattle.choose.specs.Choice.{count_of}
use Rattle.choose.specs.declared.decision.Reason.TheVariants.{Marked}
use Rattle.choose.specs.declared.decision.Verdict.{Verdict}
use Rattle.choose.specs.declared.decision.Verdict.TheVariants.{Rejected}
use Rattle.streams.specs.TextBuilder.{Adds}
use Rattle.streams.proofs.Built.{adds_both}
use Rattle.output_lines.specs.Indented.{AreLines}
use Rattle.output_lines.specs.Telling.{verdict_line}
use Rattle.output_lines.proofs.Indented.{more_lines}
use Rattle.output_lines.proofs.Pairs.{image_at, zip_long, zip_more}
use Rattle.output_lines.proofs.verdicts.push_lines.Goals as goal

-- what holds of all verdicts holds of one
bounded_at : (most : Option ℕ) (vs : List Verdict) (at : ℕ) → at < length vs → IfSome most (λ most. All (λ v. count_of v ≤ most) vs)
    → IfSome most (λ most. count_of (get_or vs at (Rejected Marked)) ≤ most)
bounded_at None vs at below all = tt
bounded_at (Some most) vs at below all = all at (Rejected Marked) below

pub push_line-requires : goal.push_line-requires
push_line-requires c =
    bounded_at c.args.most c.args.verdicts.now c.loop-at.at (omega (arith, c.requires.all, c.loop-at-test.true)) c.requires.most

pub loop-at-preserved : goal.loop-at-preserved
loop-at-preserved c =
    let rows = c.args.rows.now in
    let vs = c.args.verdicts.now in
    let at = c.loop-at.at in
    let row = c.index-rows-at.result in
    let f : Shown × Verdict → List ℕ = verdict_line c.args.named.now c.args.most c.args.pod.now in
    let nodes = zip (map shown rows) vs in
    let v : Verdict = get_or vs at (Rejected Marked) in
    let below : at < length vs = omega (arith, c.requires.all, c.loop-at-test.true) in
    let next : take (at + 1) nodes ≡ take at nodes ++ (shown row, v) ∷ [] =
    rw add-one (zip_more (map shown rows) vs at (shown row) v (omega (arith, c.loop-at-test.true, length-map rows shown)) below (image_at shown rows at row c.loop-at-test.true c.index-rows-at.is) (get_or_default vs at (Rejected Marked) v below)) in
    let more : flat_map f (take at nodes) ++ f (shown row, v) ≡ flat_map f (take (at + 1) nodes) = flat_map_more f [] (take at nodes) (shown row, v) ∙ ap (flat_map f) (sym next) in (
      subst (Adds c.args.out.now c.push_line.new.out) more (adds_both c.args.out.now c.loop-at.out c.push_line.new.out _ _ c.loop-at.invariant.0 c.push_line.ensures.text),
      subst (AreLines true) more (more_lines true (flat_map f (take at nodes)) (f (shown row, v)) c.loop-at.invariant.1 c.push_line.ensures.lines),
    )

pub returns : goal.returns
returns c =
    let rows = c.args.rows.now in
    let vs = c.args.verdicts.now in
    let nodes = zip (map shown rows) vs in
    let same : length vs ≡ length (map shown rows) = c.requires.all ∙ sym (length-map rows shown) in
    let many : length nodes ≡ length rows = omega (arith, zip_long (map shown rows) vs, same, c.requires.all) in
    let all : flat_map (verdict_line c.args.named.now c.args.most c.args.pod.now) (take c.loop-at.at nodes)
    ≡ flat_map (verdict_line c.args.named.now c.args.most c.args.pod.now) nodes =
    ap (flat_map (verdict_line c.args.named.now c.args.most c.args.pod.now)) (take_all c.loop-at.at nodes (omega (arith, many))) in
    record {
      text = subst (Adds c.args.out.now c.loop-at.out) all c.loop-at.invariant.0;
      lines = subst (AreLines true) all c.loop-at.invariant.1;
    }
