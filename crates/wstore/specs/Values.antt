-- Values (WebAssembly Core 1.0, 4.2.1), and the numbers of 64 bits that they are kept as.
use Rattle.std.specs.Prelude.{ℕ, ◌<◌, ◌^◌, List, map}
use Rattle.wcode.specs.declared.value.ValueType.{ValueType}
use Rattle.wcode.specs.declared.value.ValueType.TheVariants.{I32, I64}
use Rattle.wcode.specs.declared.value.Value.{Value}
use Rattle.wcode.specs.declared.value.Value.TheVariants as value
use Rattle.wcode.specs.declared.instruction.Plain.TheVariants.{Const}
use Rattle.wcode.specs.Operators.{type_of}
use Rattle.wcode.specs.Syntax.{Body, done, plain}

-- a value of this type
abbrev pub value_of : ValueType → ℕ → Value
value_of I32 n = value.I32 n
value_of I64 n = value.I64 n

-- the number that a value is kept as; its type is known from elsewhere
abbrev pub word_of : Value → ℕ
word_of (value.I32 n) = n
word_of (value.I64 n) = n

-- a number that its type holds
abbrev pub InRange : Value → Type 0
InRange (value.I32 n) = n < 2 ^ 32
InRange (value.I64 n) = n < 2 ^ 64

-- the types of values
abbrev pub types_of : List Value → List ValueType
types_of values = map type_of values

-- the value of a constant expression, and else zero
abbrev pub first_value : Body → ValueType → Value
first_value (plain (Const v) done) t = v
first_value _ t = value_of t 0
