use Rattle.std.proofs.Common.{◌≡◌, ◌-◌, length, arith}
use Rattle.wbody.specs.inside.OperandStack.{stack_of}
use Rattle.wbody.specs.Context.{results_of}
use Rattle.wbody.specs.inside.Pass.{fits}
use Rattle.std.proofs.Common.{sym, ap, ◌∙◌}
use Rattle.wcode.specs.declared.value.BlockType.{BlockType}
use Rattle.wbody.proofs.Results.{none_there, more_there, how_many}
use Rattle.wbody.proofs.operand_stack.OperandStack.has_results.Goals as goal

pub returns-in-Empty : goal.returns-in-Empty
returns-in-Empty c =
    let s = c.args.self.now in
    let count : c.len.result - s.floor ≡ length (stack_of s).operands = omega (arith, how_many s, s.items.ok.0) in
    none_there (stack_of s).operands s.reached (c.len.result - s.floor) count ∙ ap (λ (t : BlockType). fits (stack_of s) (results_of t)) (sym c.in-Empty.is)

pub returns-else-count-eq1 : goal.returns-else-count-eq1
returns-else-count-eq1 c =
    let s = c.args.self.now in
    let count : c.len.result - s.floor ≡ length (stack_of s).operands = omega (arith, how_many s, s.items.ok.0) in
    more_there (stack_of s).operands s.reached c.in-Result.t (c.len.result - s.floor) count (λ e. omega arith) (λ e. omega arith) ∙ ap (λ (t : BlockType). fits (stack_of s) (results_of t)) (sym c.in-Result.is)
