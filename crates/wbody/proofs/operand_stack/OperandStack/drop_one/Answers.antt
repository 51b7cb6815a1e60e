use Rattle.std.proofs.Common.{refl}
use Rattle.wbody.proofs.Changed.{one_dropped, none_to_drop}
use Rattle.wbody.proofs.operand_stack.OperandStack.drop_one.Goals as goal

pub returns-in-Some : goal.returns-in-Some
returns-in-Some c = one_dropped c.args.self.now c.take_any.new.self c.in-Some.ensures.taken c.in-Some.ensures.same c.take_any.ensures.greatest

pub returns-in-None : goal.returns-in-None
returns-in-None c = none_to_drop c.args.self.now c.take_any.new.self (c.in-None.ensures.missing refl)
