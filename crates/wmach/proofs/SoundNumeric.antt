-- The numeric instructions are sound.
use Rattle.std.proofs.Common.{◌≡◌, ℕ, List, ◌∷◌, Option, refl, sym, ap, ◌∙◌, subst}
use Rattle.std.specs.Prelude.{Result, Ok, Err}
use Rattle.wnum.specs.declared.trap.Trap.{Trap as Undefined}
use Rattle.wcode.specs.declared.value.ValueType.{ValueType}
use Rattle.wcode.specs.declared.value.ValueType.TheVariants.{I32}
use Rattle.wcode.specs.declared.value.Value.{Value}
use Rattle.wcode.specs.declared.value.Value.TheVariants as value
use Rattle.wcode.specs.declared.operator.UnOp.{UnOp}
use Rattle.wcode.specs.declared.operator.BinOp.{BinOp}
use Rattle.wcode.specs.declared.operator.TestOp.{TestOp}
use Rattle.wcode.specs.declared.operator.RelOp.{RelOp}
use Rattle.wcode.specs.declared.operator.CvtOp.{CvtOp}
use Rattle.wcode.specs.Syntax.{Body}
use Rattle.wmodule.specs.Syntax.{ModuleSyntax}
use Rattle.wbody.specs.Context.{Operands}
use Rattle.wbody.specs.Typing.{Typed}
use Rattle.wmach.specs.Configuration.{Store, Execution, instructions, Reduction, leads_to}
use Rattle.wmach.specs.Operands.{value_of, width_of}
use Rattle.wmach.specs.Numeric.{unary_gives, binary_gives, test_gives, relation_gives, conversion_gives, converted_from, converted_to, trap_where, after_binary, reduce_unary, reduce_binary, reduce_test, reduce_relation, reduce_convert}
use Rattle.wmach.specs.Fits.{types_of, StoreTyped}
use Rattle.wmach.proofs.Values.{type_of_value, one_taken, two_taken}
use Rattle.wmach.proofs.TypedExecution.{inner_context}
use Rattle.wmach.proofs.Sound.{Sound, to_values, to_trap}

module _ (m : ModuleSyntax) (store : Store) (locals : List Value) (labels : List Operands) (result : Option Operands) (after : Operands) (e : Execution) (rest : Body) (fits : StoreTyped m store) where
  -- a number of this type above the others, and what comes next
  abbrev Next : ValueType → (below : Operands) → Type 0
  Next t below = Typed (inner_context m (types_of locals) labels result) rest (t ∷ below) after

  abbrev Here : Option Reduction → Type 0
  Here on = Sound m (types_of locals) labels result e after on

  number_on : (t : ValueType) (n : ℕ) (others : List Value) (below : Operands) → types_of others ≡ below → Next t below → Here (leads_to 1 store locals (instructions (value_of t n ∷ others) rest))
  number_on t n others below are next =
      to_values m (types_of locals) labels result after e (t ∷ below) 1 store locals (value_of t n ∷ others) rest fits refl (ap (λ x. x ∷ types_of others) (type_of_value t n) ∙ ap (λ l. t ∷ l) are) next

  pub sound_unary : (values : List Value) (t : ValueType) (op : UnOp) (below : Operands) → types_of values ≡ t ∷ below → Next t below → Here (reduce_unary store locals values t op rest)
  sound_unary values t op below are next =
      let one = one_taken t values below are in
      let go = λ (a : ℕ) (others : List Value). leads_to 1 store locals (instructions (value_of t (unary_gives op (width_of t) a) ∷ others) rest) in
      subst Here (sym (one.goes go)) (number_on t (unary_gives op (width_of t) one.number) one.others below one.others_are next)

  after_result : (t : ValueType) (others : List Value) (below : Operands) (r : Result ℕ Undefined) → types_of others ≡ below → Next t below → Here (after_binary store locals others t r rest)
  after_result t others below (Ok n) are next = number_on t n others below are next
  after_result t others below (Err u) are next = to_trap m (types_of locals) labels result after e 1 store locals (trap_where u) fits refl

  pub sound_binary : (values : List Value) (t : ValueType) (op : BinOp) (below : Operands) → types_of values ≡ t ∷ t ∷ below → Next t below → Here (reduce_binary store locals values t op rest)
  sound_binary values t op below are next =
      let two = two_taken t values below are in
      let go = λ (a b : ℕ) (others : List Value). after_binary store locals others t (binary_gives op (width_of t) a b) rest in
      subst Here (sym (two.goes go)) (after_result t two.others below (binary_gives op (width_of t) two.first two.second) two.others_are next)

  pub sound_test : (values : List Value) (t : ValueType) (op : TestOp) (below : Operands) → types_of values ≡ t ∷ below → Next I32 below → Here (reduce_test store locals values t op rest)
  sound_test values t op below are next =
      let one = one_taken t values below are in
      let go = λ (a : ℕ) (others : List Value). leads_to 1 store locals (instructions (value.I32 (test_gives op (width_of t) a) ∷ others) rest) in
      subst Here (sym (one.goes go)) (number_on I32 (test_gives op (width_of t) one.number) one.others below one.others_are next)

  pub sound_relation : (values : List Value) (t : ValueType) (op : RelOp) (below : Operands) → types_of values ≡ t ∷ t ∷ below → Next I32 below → Here (reduce_relation store locals values t op rest)
  sound_relation values t op below are next =
      let two = two_taken t values below are in
      let go = λ (a b : ℕ) (others : List Value). leads_to 1 store locals (instructions (value.I32 (relation_gives op (width_of t) a b) ∷ others) rest) in
      subst Here (sym (two.goes go)) (number_on I32 (relation_gives op (width_of t) two.first two.second) two.others below two.others_are next)

  pub sound_convert : (values : List Value) (op : CvtOp) (below : Operands) → types_of values ≡ converted_from op ∷ below → Next (converted_to op) below → Here (reduce_convert store locals values op rest)
  sound_convert values op below are next =
      let one = one_taken (converted_from op) values below are in
      let go = λ (a : ℕ) (others : List Value). leads_to 1 store locals (instructions (value_of (converted_to op) (conversion_gives op a) ∷ others) rest) in
      subst Here (sym (one.goes go)) (number_on (converted_to op) (conversion_gives op one.number) one.others below one.others_are next)
