use Rattle.std.proofs.Common.{arith}
use Rattle.wcode.proofs.ShortWords.{end_stands}
use Rattle.wcode.proofs.short.stands_end.Goals as goal

pub returns-in-11-clause-word : goal.returns-in-11-clause-word
returns-in-11-clause-word c e = end_stands c.args.bytes.now c.args.at (omega arith) c.in-11.is
