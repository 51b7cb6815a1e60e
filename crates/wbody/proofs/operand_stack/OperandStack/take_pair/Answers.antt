use Rattle.std.proofs.Common.{[], ◌∷◌}
use Rattle.wbody.proofs.Changed.{taken_both, missing_both}
use Rattle.wbody.proofs.operand_stack.OperandStack.take_pair.Goals as goal

pub returns-then-take : goal.returns-then-take
returns-then-take c =
    taken_both (c.args.above ∷ []) (c.args.below ∷ []) c.take.result c.take-then-take.result c.args.self.now c.take.new.self c.take-then-take.new.self c.if-take.true c.take.ensures c.take-then-take.ensures

pub returns-else-take : goal.returns-else-take
returns-else-take c = missing_both (c.args.above ∷ []) (c.args.below ∷ []) c.take.result c.args.self.now c.take.new.self c.if-take.false c.take.ensures
