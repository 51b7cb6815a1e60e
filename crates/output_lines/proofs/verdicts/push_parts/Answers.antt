use Rattle.std.proofs.Common.{◌≡◌, ℕ, ◌+◌, ◌<◌, ◌++◌, ◌∷◌, [], add-one, length, take, get_or, zip, rules, sym, ap, subst, ◌∙◌, arith}
use Rattle.std.specs.List.{flat_map}
use Rattle.std.proofs.lemmas.List.{flat_map_more, get_or_default, take_all}
use Rattle.streams.specs.Lines.{IsLine}
use Rattle.streams.specs.TextBuilder.{Adds}
use Rattle.streams.proofs.Built.{adds_both}
use Rattle.output_lines.specs.Telling.{part_text}
use Rattle.output_lines.proofs.Indented.{IsLine-both}
use Rattle.output_lines.proofs.Pairs.{zip_long, zip_more}
use Rattle.output_lines.proofs.verdicts.push_parts.Goals as goal

pub loop-at-preserved : goal.loop-at-preserved
loop-at-preserved c =
    let named = c.args.named.now in
    let scores = c.args.scores.now in
    let at = c.loop-at.at in
    let parts = zip named scores in
    let rule = c.index-named-at.result in
    let score : ℕ = get_or scores at 0 in
    let scored : at < length scores = omega (arith, c.loop-at-test.true, c.loop-at.invariant.last) in
    let next : take (at + 1) parts ≡ take at parts ++ (rule, score) ∷ [] =
    rw add-one (zip_more named scores at rule score (omega (arith, c.loop-at-test.true, c.loop-at.invariant.last)) scored c.index-named-at.is (get_or_default scores at 0 score scored)) in
    let more : flat_map part_text (take at parts) ++ part_text (rule, score) ≡ flat_map part_text (take (at + 1) parts) = flat_map_more part_text [] (take at parts) (rule, score) ∙ ap (flat_map part_text) (sym next) in
    record {
      last = search rules;
      text = subst (Adds c.args.out.now c.push_part.new.out) more (adds_both c.args.out.now c.loop-at.out c.push_part.new.out _ _ c.loop-at.invariant.text c.push_part.ensures.text);
      line = subst IsLine more (IsLine-both (flat_map part_text (take at parts)) (part_text (rule, score)) c.loop-at.invariant.line c.push_part.ensures.line);
    }

pub returns : goal.returns
returns c =
    let parts = zip c.args.named.now c.args.scores.now in
    let all : flat_map part_text (take c.loop-at.at parts) ≡ flat_map part_text parts =
    ap (flat_map part_text) (take_all c.loop-at.at parts (omega (arith, zip_long c.args.named.now c.args.scores.now, c.loop-at.invariant.last, c.loop-at-test.false))) in
    record {
      text = subst (Adds c.args.out.now c.loop-at.out) all c.loop-at.invariant.text;
      line = subst IsLine all c.loop-at.invariant.line;
    }
