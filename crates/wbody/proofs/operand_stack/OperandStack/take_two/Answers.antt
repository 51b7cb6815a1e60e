use Rattle.std.proofs.Common.{[], ◌∷◌}
use Rattle.wbody.proofs.Changed.{untaken, taken_alone}
use Rattle.wbody.proofs.operand_stack.OperandStack.take_two.Goals as goal

pub returns-then-take_pair : goal.returns-then-take_pair
returns-then-take_pair c = taken_alone (c.args.above ∷ c.args.below ∷ []) c.take_pair.result c.args.self.now c.take_pair.new.self c.if-take_pair.true c.take_pair.ensures

pub returns-else-take_pair : goal.returns-else-take_pair
returns-else-take_pair c = untaken (c.args.above ∷ c.args.below ∷ []) [] c.take_pair.result c.args.self.now c.take_pair.new.self c.take_pair.new.self c.if-take_pair.false c.take_pair.ensures
