use Rattle.streams.proofs.Built.{adds_both}
use Rattle.output_lines.proofs.text.push_places.Goals as goal

pub returns : goal.returns
returns c = adds_both c.args.out.now c.push_counts.new.out c.put.new.self _ _ c.push_counts.ensures c.put.ensures
