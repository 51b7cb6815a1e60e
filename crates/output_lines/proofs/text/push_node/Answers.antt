use Rattle.std.proofs.Common.{◌++◌, codes, subst}
use Rattle.streams.specs.TextBuilder.{Adds}
use Rattle.streams.proofs.Built.{adds_both}
use Rattle.output_lines.specs.Text.{node_line, share_text}
use Rattle.output_lines.proofs.Added.{adds_labelled}
use Rattle.output_lines.proofs.OutputLines.{node_lines}
use Rattle.output_lines.proofs.text.push_node.Goals as goal

pub returns-clause-text : goal.returns-clause-text
unfolding node_line
returns-clause-text c =
    let name = subst (λ name. Adds c.args.out.now c.put_two.new.self (codes "node " ++ name)) c.as_bytes.ensures.bytes c.put_two.ensures in
    let was = c.args.out.now in
    let cpu = adds_labelled was c.put_two.new.self c.push_share.new.out _ _ _ name c.push_share.ensures in
    let mem = adds_labelled was c.push_share.new.out c.push_share-2.new.out _ _ _ cpu c.push_share-2.ensures in
    let last = subst (Adds c.push_share-2.new.out c.push_share-3.new.out) (λ i. codes " pods " ++ share_text (c.from.ensures i) (c.from-2.ensures i)) c.push_share-3.ensures in
    let pods = adds_labelled was c.push_share-2.new.out c.push_share-3.new.out _ _ _ mem last in
    adds_both was c.push_share-3.new.out c.put.new.self _ _ pods c.put.ensures

pub returns-clause-lines : goal.returns-clause-lines
returns-clause-lines c = node_lines _ _ c.as_bytes.ensures.valid
