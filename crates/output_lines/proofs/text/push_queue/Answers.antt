use Rattle.streams.proofs.Built.{adds_both}
use Rattle.output_lines.proofs.text.push_queue.Goals as goal

pub returns : goal.returns
returns c =
    let was = c.args.out.now in
    let both = c.push_counts-2.new.out in
    adds_both was both c.put.new.self _ _ (adds_both was c.push_counts.new.out both _ _ c.push_counts.ensures c.push_counts-2.ensures) c.put.ensures
