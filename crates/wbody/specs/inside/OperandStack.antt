-- What the code's operands are seen as.
use Rattle.std.specs.Prelude.{◌≡◌, ◌+◌, List, [], ◌∷◌, Bool, true, false, Option, Some, None, IfSome, Result, Err, OnOk, reverse, take, drop, max, vec_len}
use Rattle.wcode.specs.declared.value.ValueType.{ValueType}
use Rattle.wbody.specs.declared.operand_stack.OperandStack.{OperandStack}
use Rattle.wbody.specs.declared.stop.Stop.{Stop}
use Rattle.wbody.specs.declared.stop.Stop.TheVariants as stops
use Rattle.wbody.specs.Context.{Operands}
use Rattle.wbody.specs.Typing.{PlainType}
use Rattle.wbody.specs.inside.Pass.{Stack, taken, drop_top, pass_type}

-- those of the innermost block
abbrev pub stack_of : OperandStack → Stack
stack_of s = record { operands = reverse (drop s.floor s.items.items); reached = s.reached }

-- those of the blocks around it, the last one topmost
abbrev pub below_of : OperandStack → List (Option ValueType)
below_of s = take s.floor s.items.items

-- the innermost block and what is around it stay the same
pub record SameBlock (old new : OperandStack) : Type 0 where
  pub floor : new.floor ≡ old.floor
  pub below : below_of new ≡ below_of old

-- the topmost one, as far as it is known
abbrev pub top_of : List (Option ValueType) → Option ValueType
top_of [] = None
top_of (x ∷ xs) = x

-- one more operand
abbrev pub pushed : Option ValueType → Stack → Stack
pushed x s = record { operands = x ∷ s.operands; reached = s.reached }

-- the topmost operand was taken off, whatever its type, or there can be none
pub record TakesTop (result : Option (Option ValueType)) (old new : OperandStack) : Type 0 where
  pub taken : IfSome result (λ x. drop_top (stack_of old).operands old.reached ≡ Some (stack_of new))
  pub top : IfSome result (λ x. x ≡ top_of (stack_of old).operands)
  pub missing : result ≡ None → drop_top (stack_of old).operands old.reached ≡ None
  pub same : IfSome result (λ x. SameBlock old new)
  pub greatest : new.greatest ≡ old.greatest

-- operands of these types were taken off the top, or there can be none
pub record Takes (types : Operands) (did : Bool) (old new : OperandStack) : Type 0 where
  pub done : did ≡ true → taken types (stack_of old) ≡ Some (stack_of new)
  pub missing : did ≡ false → taken types (stack_of old) ≡ None
  pub same : did ≡ true → SameBlock old new
  pub greatest : new.greatest ≡ old.greatest

-- such an operand was put on top, or memory ran out
pub record Gives (x : Option ValueType) (result : Result Unit Stop) (old new : OperandStack) : Type 0 where
  pub ok : OnOk result (stack_of new ≡ pushed x (stack_of old))
  pub typed : result ≡ Err stops.Untyped → ⊥
  pub same : OnOk result (SameBlock old new)
  pub len : OnOk result (vec_len new.items ≡ vec_len old.items + 1)
  pub greatest : OnOk result (new.greatest ≡ max old.greatest (vec_len new.items))

-- The operands are those behind an instruction of this type; or it has no typing there, or memory
-- ran out.
pub record Changes (type : PlainType) (result : Result Unit Stop) (old new : OperandStack) : Type 0 where
  pub ok : OnOk result (pass_type type (stack_of old) ≡ Some (stack_of new))
  pub err : result ≡ Err stops.Untyped → pass_type type (stack_of old) ≡ None
  pub same : OnOk result (SameBlock old new)
  pub greatest : OnOk result (new.greatest ≡ max old.greatest (vec_len new.items))
