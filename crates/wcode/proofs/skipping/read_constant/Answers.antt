use Rattle.std.proofs.Common.{sym, ◌∙◌}
use Rattle.wcode.proofs.Passing.{is_constant, no_word_constant, no_constant, no_end_constant, other_end_constant}
use Rattle.wcode.proofs.skipping.read_constant.Goals as goal

pub returns-in_default : goal.returns-in_default
returns-in_default c = no_word_constant c.args.bytes.now c.args.at c.in_default.ensures.none

pub returns-in_default-constant : goal.returns-in_default-constant
returns-in_default-constant c = no_constant c.args.bytes.now c.args.at c.in-Ok.next c.in-Ok.op c.in-Ok.ensures.found (sym c.in_default-constant.ensures)

pub returns-in_default-read_op : goal.returns-in_default-read_op
returns-in_default-read_op c =
    no_end_constant c.args.bytes.now c.args.at c.in-Ok.next c.in-Ok.op c.in-Some.value c.in-Ok.ensures.found (sym c.in-Some.ensures) c.in_default-read_op.ensures.none

pub returns-then-ends : goal.returns-then-ends
returns-then-ends c =
    is_constant c.args.bytes.now c.args.at c.in-Ok.next c.in-Ok-read_op.field-0-1 c.in-Ok.op c.in-Ok-read_op.last c.in-Some.value c.in-Ok.ensures.found (sym c.in-Some.ensures)
    c.in-Ok-read_op.ensures.found (sym c.ends.ensures ∙ c.if-ends.true)

pub returns-else-ends : goal.returns-else-ends
returns-else-ends c =
    other_end_constant c.args.bytes.now c.args.at c.in-Ok.next c.in-Ok-read_op.field-0-1 c.in-Ok.op c.in-Ok-read_op.last c.in-Some.value c.in-Ok.ensures.found (sym c.in-Some.ensures)
    c.in-Ok-read_op.ensures.found (sym c.ends.ensures ∙ c.if-ends.false)
