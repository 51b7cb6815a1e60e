use Rattle.std.proofs.Common.{reverse}
use Rattle.wbody.proofs.Changed.{ended, not_ended}
use Rattle.wbody.proofs.operand_stack.OperandStack.end.Goals as goal

pub returns-then-not-take_all : goal.returns-then-not-take_all
returns-then-not-take_all c = not_ended (reverse c.args.types.now) c.take_all.result c.args.self.now c.take_all.new.self c.take_all.new.self c.if-not-take_all.true c.take_all.ensures

pub returns : goal.returns
returns c =
    let e = c.cut.ensures in
    ended (reverse c.args.types.now) c.take_all.result c.args.self.now c.take_all.new.self c.cut.new.self c.if-not-take_all.false c.take_all.ensures e.stack e.same e.greatest
