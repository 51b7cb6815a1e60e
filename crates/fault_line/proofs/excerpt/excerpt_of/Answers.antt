use Rattle.std.proofs.Common.{◌∙◌, arith}
use Rattle.fault_line.proofs.Excerpts.{all_shown}
use Rattle.fault_line.proofs.excerpt.excerpt_of.Goals as goal

pub returns : goal.returns
returns c = c.loop-byte.invariant ∙ all_shown c.args.text.now c.min.result c.loop-byte.byte-index c.min.ensures (omega (arith, c.loop-byte-test.false))
