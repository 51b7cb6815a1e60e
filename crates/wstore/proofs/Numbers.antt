-- The numbers of constants.
use Rattle.std.proofs.Common.{◌≡◌, ℕ, Option, Some, None, refl, ap}
use Rattle.wcode.specs.declared.value.ValueType.{ValueType}
use Rattle.wcode.specs.declared.value.ValueType.TheVariants as types
use Rattle.wcode.specs.declared.value.Value.{Value}
use Rattle.wcode.specs.declared.instruction.Plain.TheVariants.{Const}
use Rattle.wcode.specs.Syntax.{Body, done, plain, constant_of}
use Rattle.wstore.specs.Values.{value_of, word_of, first_value}
use Rattle.wstore.specs.Segments.{place_of, offset_of}

-- the number of a value that may be there
abbrev pub word_in : Option Value → ℕ
word_in None = 0
word_in (Some v) = word_of v

-- the place of a value that may be there
abbrev pub place_in : Option Value → ℕ
place_in None = 0
place_in (Some v) = place_of v

zero_word : (t : ValueType) → word_of (value_of t 0) ≡ 0
zero_word types.I32 = refl
zero_word types.I64 = refl

first_word_in : (e : Body) (t : ValueType) → word_of (first_value e t) ≡ word_in (constant_of e)
first_word_in (plain (Const v) done) t = refl
first_word_in _ t = zero_word t

offset_found : (e : Body) → offset_of e ≡ place_in (constant_of e)
offset_found (plain (Const v) done) = refl
offset_found _ = refl

-- what was read of an expression is the number of its constant
pub first_word_read : (e : Body) (t : ValueType) (o : Option Value) → o ≡ constant_of e → word_in o ≡ word_of (first_value e t)
first_word_read e t o is = cc (ap word_in is, first_word_in e t)

pub offset_read : (e : Body) (o : Option Value) → o ≡ constant_of e → place_in o ≡ offset_of e
offset_read e o is = cc (ap place_in is, offset_found e)
