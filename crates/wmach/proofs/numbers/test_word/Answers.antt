use Rattle.std.proofs.Common.{arith}
use Rattle.wmach.proofs.Bits.{test_small}
use Rattle.wmach.proofs.numbers.test_word.Goals as goal

pub returns-in-I64-Eqz-clause-fits : goal.returns-in-I64-Eqz-clause-fits
returns-in-I64-Eqz-clause-fits c = omega (arith, test_small 64 c.args.a, c.eqz-in-I64-Eqz.ensures)
