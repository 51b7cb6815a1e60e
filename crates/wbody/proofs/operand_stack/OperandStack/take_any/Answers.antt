use Rattle.std.proofs.Common.{refl, arith}
use Rattle.wbody.proofs.Changed.{popped, none_to_pop, any_to_pop}
use Rattle.wbody.proofs.operand_stack.OperandStack.take_any.Goals as goal

pub returns-then-len-self : goal.returns-then-len-self
returns-then-len-self c =
    let p = c.pop.ensures in
    let some = p.variant.1 (omega arith) in
    popped _ _ _ refl refl refl (omega arith) p.items p.len some

pub returns-then-self : goal.returns-then-self
returns-then-self c = none_to_pop _ (omega arith) c.if-self.true

pub returns-else-self : goal.returns-else-self
returns-else-self c = any_to_pop _ (omega arith) c.if-self.false
