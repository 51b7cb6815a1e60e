-- The numeric instructions (WebAssembly Core 1.0, 4.4.1, and sign extension: Core 2.0, 4.4.1), by
-- the operations of 4.3 at the width of their type.
use Rattle.std.specs.Prelude.{ℕ, List, ◌∷◌, Option, Result, Ok, Err}
use Rattle.wnum.specs.Integer.{iadd, isub, imul, idiv_s, idiv_u, irem_s, irem_u, iand, ior, ixor, ishl, ishr_s, ishr_u, irotl, irotr, iclz, ictz, ipopcnt, ieqz, ieq, ine, ilt_s, ilt_u, igt_s, igt_u, ile_s, ile_u, ige_s, ige_u}
use Rattle.wnum.specs.Conversion.{wrap, extend_s, extend_u, iextend_s}
use Rattle.wnum.specs.declared.trap.Trap.{Trap as Undefined}
use Rattle.wnum.specs.declared.trap.Trap.TheVariants as undefined
use Rattle.wcode.specs.declared.value.ValueType.{ValueType}
use Rattle.wcode.specs.declared.value.ValueType.TheVariants.{I32, I64}
use Rattle.wcode.specs.declared.value.Value.{Value}
use Rattle.wcode.specs.declared.value.Value.TheVariants as value
use Rattle.wcode.specs.declared.operator.UnOp.{UnOp}
use Rattle.wcode.specs.declared.operator.UnOp.TheVariants as unary
use Rattle.wcode.specs.declared.operator.BinOp.{BinOp}
use Rattle.wcode.specs.declared.operator.BinOp.TheVariants as binary
use Rattle.wcode.specs.declared.operator.TestOp.{TestOp}
use Rattle.wcode.specs.declared.operator.TestOp.TheVariants as test
use Rattle.wcode.specs.declared.operator.RelOp.{RelOp}
use Rattle.wcode.specs.declared.operator.RelOp.TheVariants as relation
use Rattle.wcode.specs.declared.operator.CvtOp.{CvtOp}
use Rattle.wcode.specs.declared.operator.CvtOp.TheVariants as conversion
use Rattle.wcode.specs.Syntax.{Body}
use Rattle.rules.specs.declared.trap.Trap.{Trap}
use Rattle.rules.specs.declared.trap.Trap.TheVariants.{DivideByZero, IntegerOverflow}
use Rattle.wmach.specs.Configuration.{Store, instructions, trap, Reduction, leads_to}
use Rattle.wmach.specs.Operands.{value_of, width_of, with_one, with_two}

-- an operator on one number of N bits
abbrev pub unary_gives : UnOp → (N a : ℕ) → ℕ
unary_gives unary.Clz N a = iclz N a
unary_gives unary.Ctz N a = ictz N a
unary_gives unary.Popcnt N a = ipopcnt N a

-- an operator on two numbers of N bits: a number, or it is undefined
abbrev pub binary_gives : BinOp → (N a b : ℕ) → Result ℕ Undefined
binary_gives binary.Add N a b = Ok (iadd N a b)
binary_gives binary.Sub N a b = Ok (isub N a b)
binary_gives binary.Mul N a b = Ok (imul N a b)
binary_gives binary.DivS N a b = idiv_s N a b
binary_gives binary.DivU N a b = idiv_u N a b
binary_gives binary.RemS N a b = irem_s N a b
binary_gives binary.RemU N a b = irem_u N a b
binary_gives binary.And N a b = Ok (iand N a b)
binary_gives binary.Or N a b = Ok (ior N a b)
binary_gives binary.Xor N a b = Ok (ixor N a b)
binary_gives binary.Shl N a b = Ok (ishl N a b)
binary_gives binary.ShrS N a b = Ok (ishr_s N a b)
binary_gives binary.ShrU N a b = Ok (ishr_u N a b)
binary_gives binary.Rotl N a b = Ok (irotl N a b)
binary_gives binary.Rotr N a b = Ok (irotr N a b)

-- a test of a number of N bits
abbrev pub test_gives : TestOp → (N a : ℕ) → ℕ
test_gives test.Eqz N a = ieqz N a

-- a comparison of two numbers of N bits
abbrev pub relation_gives : RelOp → (N a b : ℕ) → ℕ
relation_gives relation.Eq N a b = ieq N a b
relation_gives relation.Ne N a b = ine N a b
relation_gives relation.LtS N a b = ilt_s N a b
relation_gives relation.LtU N a b = ilt_u N a b
relation_gives relation.GtS N a b = igt_s N a b
relation_gives relation.GtU N a b = igt_u N a b
relation_gives relation.LeS N a b = ile_s N a b
relation_gives relation.LeU N a b = ile_u N a b
relation_gives relation.GeS N a b = ige_s N a b
relation_gives relation.GeU N a b = ige_u N a b

-- the type that a conversion takes
abbrev pub converted_from : CvtOp → ValueType
converted_from conversion.WrapI64 = I64
converted_from conversion.ExtendI32S = I32
converted_from conversion.ExtendI32U = I32
converted_from (conversion.Extend8S t) = t
converted_from (conversion.Extend16S t) = t
converted_from conversion.Extend32S = I64

-- the type that it gives
abbrev pub converted_to : CvtOp → ValueType
converted_to conversion.WrapI64 = I32
converted_to conversion.ExtendI32S = I64
converted_to conversion.ExtendI32U = I64
converted_to (conversion.Extend8S t) = t
converted_to (conversion.Extend16S t) = t
converted_to conversion.Extend32S = I64

-- the number that it gives
abbrev pub conversion_gives : CvtOp → ℕ → ℕ
conversion_gives conversion.WrapI64 a = wrap 64 32 a
conversion_gives conversion.ExtendI32S a = extend_s 32 64 a
conversion_gives conversion.ExtendI32U a = extend_u 32 64 a
conversion_gives (conversion.Extend8S t) a = iextend_s 8 (width_of t) a
conversion_gives (conversion.Extend16S t) a = iextend_s 16 (width_of t) a
conversion_gives conversion.Extend32S a = iextend_s 32 64 a

-- the trap where an operator is undefined
abbrev pub trap_where : Undefined → Trap
trap_where undefined.DivideByZero = DivideByZero
trap_where undefined.IntegerOverflow = IntegerOverflow

-- the result becomes the topmost value, or the call is cut off
abbrev pub after_binary : Store → (locals below : List Value) → ValueType → Result ℕ Undefined → (rest : Body) → Option Reduction
after_binary store locals below t (Ok n) rest = leads_to 1 store locals (instructions (value_of t n ∷ below) rest)
after_binary store locals below t (Err u) rest = leads_to 1 store locals (trap (trap_where u))

-- t.unop
abbrev pub reduce_unary : Store → (locals values : List Value) → ValueType → UnOp → (rest : Body) → Option Reduction
reduce_unary store locals values t op rest =
    with_one t values (λ a below. leads_to 1 store locals (instructions (value_of t (unary_gives op (width_of t) a) ∷ below) rest))

-- t.binop
abbrev pub reduce_binary : Store → (locals values : List Value) → ValueType → BinOp → (rest : Body) → Option Reduction
reduce_binary store locals values t op rest =
    with_two t values (λ a b below. after_binary store locals below t (binary_gives op (width_of t) a b) rest)

-- t.testop
abbrev pub reduce_test : Store → (locals values : List Value) → ValueType → TestOp → (rest : Body) → Option Reduction
reduce_test store locals values t op rest =
    with_one t values (λ a below. leads_to 1 store locals (instructions (value.I32 (test_gives op (width_of t) a) ∷ below) rest))

-- t.relop
abbrev pub reduce_relation : Store → (locals values : List Value) → ValueType → RelOp → (rest : Body) → Option Reduction
reduce_relation store locals values t op rest =
    with_two t values (λ a b below. leads_to 1 store locals (instructions (value.I32 (relation_gives op (width_of t) a b) ∷ below) rest))

-- t2.cvtop_t1
abbrev pub reduce_convert : Store → (locals values : List Value) → CvtOp → (rest : Body) → Option Reduction
reduce_convert store locals values op rest =
    with_one (converted_from op) values (λ a below. leads_to 1 store locals (instructions (value_of (converted_to op) (conversion_gives op a) ∷ below) rest))
