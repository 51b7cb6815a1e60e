use Rattle.std.proofs.Common.{arith}
use Rattle.leb.specs.inside.Reading.{sign_of}
use Rattle.leb.proofs.Digits.{small_is}
use Rattle.leb.proofs.begin.Goals as goal

pub returns-then-bytes-at-lt64 : goal.returns-then-bytes-at-lt64
returns-then-bytes-at-lt64 c =
    (omega arith, small_is (sign_of c.args.signed) c.args.bits c.args.bytes.now c.args.at c.requires.some c.if-at-bytes.true c.if-bytes-at-lt64.true)
