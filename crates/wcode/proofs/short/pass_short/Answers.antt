use Rattle.std.proofs.Common.{◌+◌, drop, get_or, sym, ◌∙◌, arith}
use Rattle.wcode.specs.Opcodes.{form}
use Rattle.wcode.proofs.ShortWords.{nothing_spelled, with_opcode, number_passes, two_pass}
use Rattle.wcode.proofs.short.pass_short.Goals as goal

pub returns-in-Nothing : goal.returns-in-Nothing
returns-in-Nothing c =
    let b = c.args.bytes.now in
    let e = sym c.in-Nothing.is ∙ c.tail_of.ensures (λ x. absurd cc) in
    let w = with_opcode b c.args.at (drop (c.args.at + 1) b) (omega arith) (nothing_spelled (form (get_or b c.args.at 0)) (drop (c.args.at + 1) b) e) in
    (omega arith, omega arith, w.0, w.1)

pub returns-in-Number : goal.returns-in-Number
returns-in-Number c =
    number_passes c.args.bytes.now c.args.at c.short_number.result (omega arith) (sym c.in-Number.is ∙ c.tail_of.ensures (λ x. absurd cc)) c.short_number.ensures

pub returns-in_ok-middle-in-Two : goal.returns-in_ok-middle-in-Two
returns-in_ok-middle-in-Two c =
    let a = c.in_ok-middle-in-Two in
    two_pass c.args.bytes.now c.args.at a.middle c.short_number-in-Two-2.result (omega arith) (sym c.in-Two.is ∙ c.tail_of.ensures (λ x. absurd cc)) a.ensures.0 a.ensures.2 c.short_number-in-Two-2.ensures
