-- Expressions that are one constant.
use Rattle.std.proofs.Common.{◌≡◌, ℕ, List, Bool, true, false, Some, None, drop, refl, sym, ap, subst}
use Rattle.std.specs.Prelude.{IsTrue}
use Rattle.std.specs.Bool.{MatchBool}
use Rattle.wcode.specs.declared.value.ValueType.{ValueType}
use Rattle.wcode.specs.declared.value.Value.{Value}
use Rattle.wcode.specs.declared.instruction.Plain.TheVariants.{Const}
use Rattle.wcode.specs.Operators.{type_of}
use Rattle.wcode.specs.Syntax.{Body, done, plain, constant_of}
use Rattle.wcode.specs.Grammar.{SpellsExpr, end}
use Rattle.wcode.proofs.BlockLists.{blocks_spell}
use Rattle.wmodule.specs.declared.module.Place.{Place}
use Rattle.wmodule.specs.Syntax.{expression_in}
use Rattle.wmodule.specs.Placed.{IsExpression}
use Rattle.wbody.specs.Typing.{is_in_range}
use Rattle.wtype.specs.Accepted.{ConstantOf}

-- under a test, and where it fails
pub on_bool : {P Q : Type 0} (b : Bool) → (b ≡ true → P) → (b ≡ false → Q) → MatchBool b P Q
on_bool true f g = f refl
on_bool false f g = g refl

one_constant : (e : Body) (v : Value) → Some v ≡ constant_of e → e ≡ plain (Const v) done
one_constant (plain (Const w) done) v h = cc
one_constant _ v h = absurd (cc)

-- the expression, where its constant was read
pub constant_read : (t : ValueType) (e : Body) (v : Value) → Some v ≡ constant_of e → IsTrue (is_in_range v) → type_of v ≡ t → ConstantOf t e
constant_read t e v h range typed = record { value = v; is = one_constant e v h; in_range = range; typed = typed }

-- its constant is the one that was read
pub constant_typed : (t : ValueType) (e : Body) (v : Value) → Some v ≡ constant_of e → ConstantOf t e → type_of v ≡ t
constant_typed t e v h x =
    let there : constant_of e ≡ Some x.value = ap constant_of x.is in
    let same : x.value ≡ v = cc in
    subst (λ w. type_of w ≡ t) same x.typed

-- none was read
pub no_constant : (t : ValueType) (e : Body) → None ≡ constant_of e → ConstantOf t e → ⊥
no_constant t e h x =
    let there : constant_of e ≡ Some x.value = ap constant_of x.is in absurd (cc)

-- the bytes from its place spell it
pub spelled : (bytes same : List ℕ) (p : Place) → same ≡ bytes → IsExpression bytes p → SpellsExpr (drop p.begin same) (expression_in bytes p) (drop p.end bytes)
spelled bytes same p e x =
    let here : SpellsExpr (drop p.begin bytes) (expression_in bytes p) (drop p.end bytes) = blocks_spell bytes 256 end (drop p.begin bytes) (expression_in bytes p) (drop p.end bytes) x.0 x.1.spelled in
    subst (λ b. SpellsExpr (drop p.begin b) (expression_in bytes p) (drop p.end bytes)) (sym e) here
