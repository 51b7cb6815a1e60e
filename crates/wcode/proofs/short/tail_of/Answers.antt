use Rattle.std.proofs.Common.{refl, arith}
use Rattle.wcode.specs.declared.short.Tail.TheVariants as tails
use Rattle.wcode.proofs.ShortWords.{tails_in}
use Rattle.wcode.proofs.short.tail_of.Goals as goal

pub returns-in-0-to-1 : goal.returns-in-0-to-1
returns-in-0-to-1 c e = tails_in 0 2 tails.Nothing c.args.opcode refl (omega arith) (omega arith)

pub returns-in-12-to-13 : goal.returns-in-12-to-13
returns-in-12-to-13 c e = tails_in 12 2 tails.Number c.args.opcode refl (omega arith) (omega arith)

pub returns-in-15 : goal.returns-in-15
returns-in-15 c e = tails_in 15 1 tails.Nothing c.args.opcode refl (omega arith) (omega arith)

pub returns-in-16 : goal.returns-in-16
returns-in-16 c e = tails_in 16 1 tails.Number c.args.opcode refl (omega arith) (omega arith)

pub returns-in-26-to-27 : goal.returns-in-26-to-27
returns-in-26-to-27 c e = tails_in 26 2 tails.Nothing c.args.opcode refl (omega arith) (omega arith)

pub returns-in-32-to-36 : goal.returns-in-32-to-36
returns-in-32-to-36 c e = tails_in 32 5 tails.Number c.args.opcode refl (omega arith) (omega arith)

pub returns-in-40-to-41 : goal.returns-in-40-to-41
returns-in-40-to-41 c e = tails_in 40 2 tails.Two c.args.opcode refl (omega arith) (omega arith)

pub returns-in-44-to-55 : goal.returns-in-44-to-55
returns-in-44-to-55 c e = tails_in 44 12 tails.Two c.args.opcode refl (omega arith) (omega arith)

pub returns-in-58-to-62 : goal.returns-in-58-to-62
returns-in-58-to-62 c e = tails_in 58 5 tails.Two c.args.opcode refl (omega arith) (omega arith)

pub returns-in-65-to-66 : goal.returns-in-65-to-66
returns-in-65-to-66 c e = tails_in 65 2 tails.Number c.args.opcode refl (omega arith) (omega arith)

pub returns-in-69-to-90 : goal.returns-in-69-to-90
returns-in-69-to-90 c e = tails_in 69 22 tails.Nothing c.args.opcode refl (omega arith) (omega arith)

pub returns-in-103-to-138 : goal.returns-in-103-to-138
returns-in-103-to-138 c e = tails_in 103 36 tails.Nothing c.args.opcode refl (omega arith) (omega arith)

pub returns-in-167 : goal.returns-in-167
returns-in-167 c e = tails_in 167 1 tails.Nothing c.args.opcode refl (omega arith) (omega arith)

pub returns-in-172-to-173 : goal.returns-in-172-to-173
returns-in-172-to-173 c e = tails_in 172 2 tails.Nothing c.args.opcode refl (omega arith) (omega arith)

pub returns-in-192-to-196 : goal.returns-in-192-to-196
returns-in-192-to-196 c e = tails_in 192 5 tails.Nothing c.args.opcode refl (omega arith) (omega arith)
