use Rattle.std.proofs.Common.{◌≡◌, Some, reverse, take, sym, ap, ◌∙◌, true≢false, arith}
use Rattle.wbody.specs.inside.Pass.{Stack, taken}
use Rattle.wbody.specs.inside.OperandStack.{stack_of}
use Rattle.wbody.proofs.Operands.{any_taken}
use Rattle.wbody.proofs.operand_stack.OperandStack.take_all.Goals as goal

-- those that are left are taken from an unreached place, which stays as it is
pub returns-then-has_any : goal.returns-then-has_any
returns-then-has_any c =
    let left = reverse (take c.types.left c.args.types.now) in
    let any = c.has_any.ensures c.if-has_any.true in
    record {
      done = λ d. c.types.invariant.1 ∙ ap (λ (s : Stack). taken left s) any ∙ any_taken left ∙ ap (λ (s : Stack). Some s) (sym any);
      missing = λ d. absurd (true≢false d);
      same = λ d. c.types.invariant.2;
      greatest = c.types.invariant.3;
    }

-- none are left
pub returns : goal.returns
returns c =
    let none : c.types.left ≡ 0 = omega arith in
    record {
      done = λ d. c.types.invariant.1 ∙ ap (λ n. taken (reverse (take n c.args.types.now)) (stack_of c.types.self)) none;
      missing = λ d. absurd (true≢false d);
      same = λ d. c.types.invariant.2;
      greatest = c.types.invariant.3;
    }
