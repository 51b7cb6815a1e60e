-- Whether just a block's results can be there.
use Rattle.std.proofs.Common.{◌≡◌, ℕ, ◌-◌, List, [], ◌∷◌, Bool, true, false, Option, length, drop, refl, sym, ap, ◌∙◌, arith, length-drop, eqb-true}
use Rattle.std.specs.Prelude.{◌==◌, ◌&&◌}
use Rattle.std.proofs.lemmas.List.{length-reverse}
use Rattle.wcode.specs.declared.value.ValueType.{ValueType}
use Rattle.wbody.specs.declared.operand_stack.OperandStack.{OperandStack}
use Rattle.wbody.specs.inside.Pass.{may_be, fit_operands}
use Rattle.wbody.specs.inside.OperandStack.{stack_of}

never : (b : Bool) → (b ≡ true → ⊥) → b ≡ false
never true f = absurd (f refl)
never false f = refl

and_false : (b : Bool) → (b && false) ≡ false
and_false true = refl
and_false false = refl

-- none
pub none_there : (xs : List (Option ValueType)) (r : Bool) (n : ℕ) → n ≡ length xs → (n == 0) ≡ fit_operands xs r []
none_there [] r n e = ap (λ k. k == 0) e
none_there (x ∷ xs) r n e = never (n == 0) (λ t. let zero : n ≡ 0 = eqb-true n 0 t in omega arith)

-- more than one
pub more_there : (xs : List (Option ValueType)) (r : Bool) (t : ValueType) (n : ℕ) → n ≡ length xs → (n ≡ 0 → ⊥) → (n ≡ 1 → ⊥) → (n == 1) ≡ fit_operands xs r (t ∷ [])
more_there [] r t n e f g = absurd (f e)
more_there (x ∷ []) r t n e f g = absurd (g e)
more_there (x ∷ y ∷ xs) r t n e f g = never (n == 1) (λ h. g (eqb-true n 1 h)) ∙ sym (and_false (may_be t x))

-- how many there are
pub how_many : (s : OperandStack) → length s.items.items - s.floor ≡ length (stack_of s).operands
how_many s = omega (arith, length-reverse (drop s.floor s.items.items), length-drop s.floor s.items.items)
