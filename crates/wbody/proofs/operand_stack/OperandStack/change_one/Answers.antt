use Rattle.std.proofs.Common.{[], ◌∷◌}
use Rattle.wbody.proofs.Changed.{untaken, taken_given}
use Rattle.wbody.proofs.operand_stack.OperandStack.change_one.Goals as goal

pub returns-then-not-take : goal.returns-then-not-take
returns-then-not-take c = untaken (c.args.t ∷ []) (c.args.gives ∷ []) c.take.result c.args.self.now c.take.new.self c.take.new.self c.if-not-take.true c.take.ensures

pub returns : goal.returns
returns c = taken_given (c.args.t ∷ []) c.args.gives c.take.result c.give.result c.args.self.now c.take.new.self c.give.new.self c.if-not-take.false c.take.ensures c.give.ensures
