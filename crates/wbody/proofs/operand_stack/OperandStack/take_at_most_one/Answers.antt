use Rattle.std.proofs.Common.{true, Option, sym, subst}
use Rattle.wcode.specs.declared.value.ValueType.{ValueType}
use Rattle.wbody.specs.Context.{at_most_one}
use Rattle.wbody.specs.inside.OperandStack.{Takes}
use Rattle.wbody.proofs.Changed.{nothing_taken}
use Rattle.wbody.proofs.operand_stack.OperandStack.take_at_most_one.Goals as goal

pub returns-in-None : goal.returns-in-None
returns-in-None c =
    subst (λ (t : Option ValueType). Takes (at_most_one t) true c.args.self.now c.args.self.now) (sym c.in-None.is) (nothing_taken c.args.self.now)

pub returns-in-Some : goal.returns-in-Some
returns-in-Some c =
    subst (λ (t : Option ValueType). Takes (at_most_one t) c.take.result c.args.self.now c.take.new.self) (sym c.in-Some.is) c.take.ensures
