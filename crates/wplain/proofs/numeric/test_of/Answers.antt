use Rattle.std.proofs.Common.{arith}
use Rattle.wmach.proofs.Bits.{test_small}
use Rattle.wplain.proofs.numeric.test_of.Goals as goal

pub overflow_cast-result : goal.overflow_cast-result
overflow_cast-result c = omega (arith, test_small 64 c.in-Eqz-I64.a, c.eqz-in-Eqz-I64.ensures)
