use Rattle.std.proofs.Common.{[], true, refl}
use Rattle.wbody.proofs.Changed.{nothing_taken, taken_given}
use Rattle.wbody.proofs.operand_stack.OperandStack.put.Goals as goal

pub returns : goal.returns
returns c = let s = c.args.self.now in taken_given [] c.args.t true c.give.result s s c.give.new.self refl (nothing_taken s) c.give.ensures
