use Rattle.std.proofs.Common.{arith}
use Rattle.wmach.proofs.Bits.{relation_small}
use Rattle.wplain.proofs.numeric.relation_of.Goals as goal

pub overflow_cast-result : goal.overflow_cast-result
overflow_cast-result c = omega (arith, relation_small c.args.op 64 c.in-I64-I64.a c.in-I64-I64.b, c.relation64.ensures)
