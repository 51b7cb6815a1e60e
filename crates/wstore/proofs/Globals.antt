-- Globals kept as numbers.
use Rattle.std.proofs.Common.{◌≡◌, ℕ, zero, suc, ◌^◌, List, [], ◌∷◌, true, length, map, set, Some, None, Option, refl, sym, ap, ◌∙◌, subst, arith}
use Rattle.std.specs.Prelude.{slice_get, option_map, IfSome}
use Rattle.std.specs.Option.{option_map_or}
use Rattle.std.specs.List.{AllByRecursion}
use borrow.Author.Tests.{ltb-true}
use Rattle.wcode.specs.declared.value.ValueType.{ValueType}
use Rattle.wcode.specs.declared.value.ValueType.TheVariants as types
use Rattle.wcode.specs.declared.value.Value.{Value}
use Rattle.wcode.specs.declared.value.Value.TheVariants as value
use Rattle.wcode.specs.Operators.{type_of}
use Rattle.wcode.specs.Syntax.{Body}
use Rattle.wmodule.specs.declared.module.GlobalVariable.{GlobalVariable}
use Rattle.wmodule.specs.Syntax.{GlobalSyntax, global_in, expression_in}
use Rattle.wbody.specs.Typing.{is_in_range}
use Rattle.wtype.specs.Accepted.{ConstantOf, GlobalTyped}
use Rattle.wstore.specs.Values.{value_of, word_of, InRange, types_of, first_value}
use Rattle.wstore.specs.inside.Words.{values_in, first_word_of}
use Rattle.wstore.specs.State.{with_number}

-- ---- values and their numbers

word-value : (t : ValueType) (n : ℕ) → word_of (value_of t n) ≡ n
word-value types.I32 n = refl
word-value types.I64 n = refl

type-value : (t : ValueType) (n : ℕ) → type_of (value_of t n) ≡ t
type-value types.I32 n = refl
type-value types.I64 n = refl

value-word : (v : Value) → value_of (type_of v) (word_of v) ≡ v
value-word (value.I32 n) = refl
value-word (value.I64 n) = refl

const_in_range : (v : Value) → is_in_range v ≡ true → InRange v
const_in_range (value.I32 n) e = ltb-true n (2 ^ 32) e
const_in_range (value.I64 n) e = ltb-true n (2 ^ 64) e

-- ---- a read

-- there is a value for each number
pub length-values : (gs : List GlobalVariable) (words : List ℕ) → length words ≡ length gs → length (values_in gs words) ≡ length words
length-values [] [] e = refl
length-values [] (w ∷ ws) e = absurd (omega arith)
length-values (g ∷ gs) [] e = absurd (omega arith)
length-values (g ∷ gs) (w ∷ ws) e = ap suc (length-values gs ws (omega arith))

-- the number at a place is the value's there
pub word_at : (gs : List GlobalVariable) (words : List ℕ) (i : ℕ) → length words ≡ length gs
    → option_map word_of (slice_get (values_in gs words) i) ≡ slice_get words i
word_at [] [] i e = refl
word_at [] (w ∷ ws) i e = absurd (omega arith)
word_at (g ∷ gs) [] i e = absurd (omega arith)
word_at (g ∷ gs) (w ∷ ws) zero e = ap Some (word-value g.kind.value w)
word_at (g ∷ gs) (w ∷ ws) (suc i) e = word_at gs ws i (omega arith)

-- ---- a write

behind : (v : Value) (vs : List Value) (i n : ℕ) (o : Option Value)
    → option_map_or (λ (old : Value). v ∷ set vs i (value_of (type_of old) n)) o (v ∷ vs) ≡ v ∷ option_map_or (λ (old : Value). set vs i (value_of (type_of old) n)) o vs
behind v vs i n None = refl
behind v vs i n (Some old) = refl

-- a number that is set is the value that is set
pub values_set : (gs : List GlobalVariable) (words : List ℕ) (i n : ℕ) → values_in gs (set words i n) ≡ with_number (values_in gs words) i n
values_set [] words i n = refl
values_set (g ∷ gs) [] i n = refl
values_set (g ∷ gs) (w ∷ ws) zero n = ap (λ t. value_of t n ∷ values_in gs ws) (sym (type-value g.kind.value w))
values_set (g ∷ gs) (w ∷ ws) (suc i) n =
    ap (λ vs. value_of g.kind.value w ∷ vs) (values_set gs ws i n)
    ∙ sym (behind (value_of g.kind.value w) (values_in gs ws) i n (slice_get (values_in gs ws) i))

-- in the range of its type, it keeps all in range
pub in_range_set : (gs : List GlobalVariable) (words : List ℕ) (i n : ℕ) → AllByRecursion InRange (values_in gs words)
    → IfSome (slice_get (values_in gs words) i) (λ v. InRange (value_of (type_of v) n)) → AllByRecursion InRange (values_in gs (set words i n))
in_range_set [] words i n all here = tt
in_range_set (g ∷ gs) [] i n all here = tt
in_range_set (g ∷ gs) (w ∷ ws) zero n all here = (subst (λ t. InRange (value_of t n)) (type-value g.kind.value w) here, all.1)
in_range_set (g ∷ gs) (w ∷ ws) (suc i) n all here = (all.0, in_range_set gs ws i n all.1 here)

-- ---- what they are at first, and their types

first_again : (t : ValueType) (e : Body) → ConstantOf t e → value_of t (word_of (first_value e t)) ≡ first_value e t
first_again t e c =
    let v : Value = c.value in
    let is : first_value e t ≡ v = ap (λ b. first_value b t) c.is in
    ap (λ (w : Value). value_of t (word_of w)) is
    ∙ ap (λ (u : ValueType). value_of u (word_of v)) (sym c.typed)
    ∙ value-word v
    ∙ sym is

first_in_range : (t : ValueType) (e : Body) → ConstantOf t e → InRange (value_of t (word_of (first_value e t)))
first_in_range t e c = rw (first_again t e c) (subst (λ b. InRange (first_value b t)) (sym c.is) (const_in_range c.value c.in_range))

pub first_values : (bytes : List ℕ) (gs : List GlobalVariable) → AllByRecursion GlobalTyped (map (global_in bytes) gs)
    → values_in gs (map (first_word_of bytes) gs) ≡ map (λ (g : GlobalSyntax). first_value g.first g.kind.value) (map (global_in bytes) gs)
first_values bytes [] all = refl
first_values bytes (g ∷ gs) all =
    ap (λ v. v ∷ values_in gs (map (first_word_of bytes) gs)) (first_again g.kind.value (expression_in bytes g.first) all.0)
    ∙ ap (λ vs. first_value (expression_in bytes g.first) g.kind.value ∷ vs) (first_values bytes gs all.1)

pub first_values_in_range : (bytes : List ℕ) (gs : List GlobalVariable) → AllByRecursion GlobalTyped (map (global_in bytes) gs)
    → AllByRecursion InRange (values_in gs (map (first_word_of bytes) gs))
first_values_in_range bytes [] all = tt
first_values_in_range bytes (g ∷ gs) all = (first_in_range g.kind.value (expression_in bytes g.first) all.0, first_values_in_range bytes gs all.1)

pub types_in : (bytes : List ℕ) (gs : List GlobalVariable) (words : List ℕ) → length words ≡ length gs
    → types_of (values_in gs words) ≡ map (λ (g : GlobalSyntax). g.kind.value) (map (global_in bytes) gs)
types_in bytes [] words e = refl
types_in bytes (g ∷ gs) [] e = absurd (omega arith)
types_in bytes (g ∷ gs) (w ∷ ws) e =
    ap (λ t. t ∷ types_of (values_in gs ws)) (type-value g.kind.value w)
    ∙ ap (λ ts. g.kind.value ∷ ts) (types_in bytes gs ws (omega arith))
