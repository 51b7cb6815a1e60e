use Rattle.std.proofs.Common.{◌≡◌, ◌+◌, ◌++◌, ◌∙◌, false, take, ap, subst, arith}
use Rattle.std.proofs.lemmas.List.{take_all}
use Rattle.std.specs.List.{flat_map}
use Rattle.streams.specs.TextBuilder.{Adds}
use Rattle.streams.proofs.Built.{adds_both}
use Rattle.output_lines.specs.Replies.{snapshot_lines}
use Rattle.output_lines.specs.Indented.{AreLines}
use Rattle.output_lines.specs.Text.{node_line}
use Rattle.output_lines.proofs.Indented.{more_lines}
use Rattle.output_lines.proofs.Rows.{row_line, flat_map-shown, one_more}
use Rattle.output_lines.proofs.replies.push_snapshot.Goals as goal

pub loop-row-preserved : goal.loop-row-preserved
loop-row-preserved c =
    let rows = c.rows-row-items.result.now in
    let so_far = flat_map row_line (take c.loop-row.row-index rows) in
    let line : node_line c.deref.result.now c.row-item.result.used ≡ row_line c.row-item.result = ap (λ n. node_line n c.row-item.result.used) c.deref.ensures in
    let more : so_far ++ node_line c.deref.result.now c.row-item.result.used ≡ flat_map row_line (take (c.loop-row.row-index + 1) rows) =
    ap (λ t. so_far ++ t) line ∙ one_more row_line rows c.loop-row.row-index c.row-item.result c.loop-row-test.true c.row-item.is in (
      subst (Adds c.args.out.now c.push_node.new.out) more (adds_both c.args.out.now c.loop-row.out c.push_node.new.out _ _ c.loop-row.invariant.0 c.push_node.ensures.text),
      subst (AreLines false) more (more_lines false so_far _ c.loop-row.invariant.1 c.push_node.ensures.lines),
    )

pub returns : goal.returns
returns c =
    let rows = c.rows-row-items.result.now in
    let all : flat_map row_line (take c.loop-row.row-index rows) ≡ snapshot_lines c.args.snapshot.now =
    ap (flat_map row_line) (take_all c.loop-row.row-index rows (omega arith)) ∙ flat_map-shown rows ∙ ap snapshot_lines c.rows-row-items.ensures in
    record {
      text = subst (Adds c.args.out.now c.loop-row.out) all c.loop-row.invariant.0;
      lines = subst (AreLines false) all c.loop-row.invariant.1;
    }
