use Rattle.std.proofs.Common.{◌≡◌, ◌≤◌, length, take, reverse}
use Rattle.wbody.specs.inside.OperandStack.{stack_of, SameBlock}
use Rattle.wbody.specs.inside.Pass.{taken}
use Rattle.wbody.proofs.operand_stack.OperandStack.take_all.Given as goal

-- to take all is to take those that are left, from what is there now
abbrev pub invariant-types : goal.invariant-types
invariant-types l =
    (l.left ≤ length l.types)
    × (taken (reverse l.types) (stack_of l.initial.self) ≡ taken (reverse (take l.left l.types)) (stack_of l.self))
    × SameBlock l.initial.self l.self
    × (l.self.greatest ≡ l.initial.self.greatest)

abbrev pub decreases-types : goal.decreases-types
decreases-types l = l.left
