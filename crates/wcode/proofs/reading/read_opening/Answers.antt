use Rattle.std.proofs.Common.{arith, refl}
use Rattle.wcode.specs.inside.Shown.{Reads}
use Rattle.wcode.specs.Grammar.{opens}
use Rattle.wcode.proofs.reading.read_opening.Goals as goal

pub returns : goal.returns
unfolding Reads
returns c =
    (omega (arith, c.in_ok-t.ensures.end), opens c.args.opening c.in_ok-t.t, c.op.ensures c.args.bytes.now, (c.in_ok-t.t, refl, c.in_ok-t.ensures.found))
