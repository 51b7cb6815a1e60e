use Rattle.std.proofs.Common.{[], ◌∷◌}
use Rattle.wbody.proofs.Changed.{untaken, taken_alone}
use Rattle.wbody.proofs.operand_stack.OperandStack.take_one.Goals as goal

pub returns-then-take : goal.returns-then-take
returns-then-take c = taken_alone (c.args.t ∷ []) c.take.result c.args.self.now c.take.new.self c.if-take.true c.take.ensures

pub returns-else-take : goal.returns-else-take
returns-else-take c = untaken (c.args.t ∷ []) [] c.take.result c.args.self.now c.take.new.self c.take.new.self c.if-take.false c.take.ensures
