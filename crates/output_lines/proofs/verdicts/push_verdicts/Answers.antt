use Rattle.std.proofs.Common.{◌≡◌, true, map, Some, sym, subst, ◌∙◌}
use Rattle.std.proofs.lemmas.List.{length-map}
use Rattle.desk.specs.Shown.{shown}
use Rattle.choose.specs.Choice.{judged, most_of}
use Rattle.choose.proofs.Deciding.{all_bounded, most_judged}
use Rattle.streams.specs.TextBuilder.{Adds}
use Rattle.output_lines.specs.Indented.{AreLines}
use Rattle.output_lines.specs.Telling.{lines_by}
use Rattle.output_lines.proofs.verdicts.push_verdicts.Goals as goal

pub push_lines-requires-clause-most : goal.push_lines-requires-clause-most
push_lines-requires-clause-most c = all_bounded c.args.verdicts.now c.most_taints-most.result c.most_taints-most.ensures

pub returns : goal.returns
returns c =
    let vs = c.args.verdicts.now in
    let nodes = map shown c.args.rows.now in
    let most : c.most_taints-most.result ≡ most_of (judged nodes vs) = c.most_taints-most.ensures ∙ most_judged nodes vs (c.requires ∙ sym (length-map c.args.rows.now shown)) in
    record {
      text = subst (λ m. Adds c.args.out.now c.push_lines.new.out (lines_by c.args.named.now (Some m) c.args.pod.now nodes vs)) most c.push_lines.ensures.text;
      lines = subst (λ m. AreLines true (lines_by c.args.named.now (Some m) c.args.pod.now nodes vs)) most c.push_lines.ensures.lines;
    }
