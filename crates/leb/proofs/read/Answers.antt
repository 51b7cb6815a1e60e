use Rattle.std.proofs.Common.{arith}
use Rattle.leb.specs.declared.LebFault.TheVariants.{Truncated, TooLong, BadLastByte}
use Rattle.leb.specs.inside.Reading.{sign_of}
use Rattle.leb.proofs.Clauses.{spelled_at, range_at, none_at, fault_at}
use Rattle.leb.proofs.read.Goals as goal

pub returns-clause-number : goal.returns-clause-number
returns-clause-number c = spelled_at (sign_of c.args.signed) c.args.bits c.args.at c.args.bytes.now c.begin.result (λ i. omega (arith, c.type_inv.bytes i)) c.begin.ensures

pub returns-clause-range : goal.returns-clause-range
returns-clause-range c = range_at (sign_of c.args.signed) c.args.bits c.args.at c.args.bytes.now c.begin.result (λ i. omega (arith, c.type_inv.bytes i)) c.begin.ensures

pub returns-clause-none : goal.returns-clause-none
returns-clause-none c = none_at (sign_of c.args.signed) c.args.bits c.args.at c.args.bytes.now c.begin.result c.begin.ensures

pub returns-clause-truncated : goal.returns-clause-truncated
returns-clause-truncated c = fault_at (sign_of c.args.signed) c.args.bits c.args.at c.args.bytes.now c.begin.result Truncated (omega arith) c.begin.ensures

pub returns-clause-too_long : goal.returns-clause-too_long
returns-clause-too_long c = fault_at (sign_of c.args.signed) c.args.bits c.args.at c.args.bytes.now c.begin.result TooLong (omega arith) c.begin.ensures

pub returns-clause-bad_last_byte : goal.returns-clause-bad_last_byte
returns-clause-bad_last_byte c = fault_at (sign_of c.args.signed) c.args.bits c.args.at c.args.bytes.now c.begin.result BadLastByte (omega arith) c.begin.ensures
