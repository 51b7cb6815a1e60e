use Rattle.std.proofs.Common.{false, refl}
use Rattle.wbody.proofs.Changed.{emptied, same_below}
use Rattle.wbody.proofs.operand_stack.OperandStack.cut.Goals as goal

pub returns-clause-stack : goal.returns-clause-stack
returns-clause-stack c = emptied c.args.self.now.items.items c.truncate.new.self.items c.args.self.now.floor false c.truncate.ensures.items

pub returns-clause-same : goal.returns-clause-same
returns-clause-same c =
    record { floor = refl; below = same_below c.args.self.now.items.items c.truncate.new.self.items c.args.self.now.floor c.truncate.ensures.items }
