use Rattle.std.proofs.Common.{refl}
use Rattle.wbody.proofs.Changed.{one_taken, none_taken}
use Rattle.wbody.proofs.operand_stack.OperandStack.take.Goals as goal

pub returns-in-Some : goal.returns-in-Some
returns-in-Some c =
    let a = c.in-Some.ensures in
    one_taken c.args.wanted c.in-Some.operand c.may_be_of.result c.args.self.now c.take_any.new.self a.taken a.top c.may_be_of.ensures a.same c.take_any.ensures.greatest

pub returns-in-None : goal.returns-in-None
returns-in-None c = none_taken c.args.wanted c.args.self.now c.take_any.new.self (c.in-None.ensures.missing refl) c.take_any.ensures.greatest
