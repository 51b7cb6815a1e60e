use Rattle.std.proofs.Common.{◌++◌, refl}
use Rattle.streams.proofs.Built.{adds_both}
use Rattle.output_lines.specs.Text.{cycle_line}
use Rattle.session.proofs.session.do_cycle.Goals as goal

-- what is told of the nodes, and then the line
pub returns-clause-cycled : goal.returns-clause-cycled
returns-clause-cycled g c =
    let told = c.in-Ok.ensures.told in
    let line = cycle_line c.args.named.now c.in-Ok.came in (
      told.0 ++ line,
      (c.in-Ok.came, c.in-Ok.ensures.cycled, (told.0, told.1, told.2, c.push_cycled.ensures.lines, refl)),
      adds_both c.args.text.now c.tell_cycle.new.text c.push_cycled.new.out told.0 line told.3 c.push_cycled.ensures.text,
    )
