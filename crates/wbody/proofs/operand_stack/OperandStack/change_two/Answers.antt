use Rattle.std.proofs.Common.{[], ◌∷◌}
use Rattle.wbody.proofs.Changed.{untaken, taken_given}
use Rattle.wbody.proofs.operand_stack.OperandStack.change_two.Goals as goal

pub returns-then-not-take_pair : goal.returns-then-not-take_pair
returns-then-not-take_pair c = untaken (c.args.t ∷ c.args.t ∷ []) (c.args.gives ∷ []) c.take_pair.result c.args.self.now c.take_pair.new.self c.take_pair.new.self c.if-not-take_pair.true c.take_pair.ensures

pub returns : goal.returns
returns c = taken_given (c.args.t ∷ c.args.t ∷ []) c.args.gives c.take_pair.result c.give.result c.args.self.now c.take_pair.new.self c.give.new.self c.if-not-take_pair.false c.take_pair.ensures c.give.ensures
