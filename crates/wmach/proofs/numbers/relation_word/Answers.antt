use Rattle.std.proofs.Common.{arith}
use Rattle.wmach.proofs.Bits.{relation_small}
use Rattle.wmach.proofs.numbers.relation_word.Goals as goal

pub returns-in-I64-clause-fits : goal.returns-in-I64-clause-fits
returns-in-I64-clause-fits c = omega (arith, relation_small c.args.op 64 c.args.a c.args.b, c.relation64.ensures)
