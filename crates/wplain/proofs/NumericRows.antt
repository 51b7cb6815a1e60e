-- Each numeric instruction, load and store, computed by its definition. The expected values are
-- those of the engine in `node`.
use Rattle.std.proofs.Common.{◌≡◌, ℕ, List, [], ◌∷◌, Option, Some, None, map, refl}
use Rattle.wnum.specs.Integer.{iadd, isub, imul, idiv_s, idiv_u, irem_s, irem_u, from_quotient, iand, ior, ixor, bitwise, top_bit, ishl, ishr_s, ishr_u, irotl, irotr, iclz, ictz, ipopcnt, ieqz, ieq, ine, ilt_s, ilt_u, igt_s, igt_u, ile_s, ile_u, ige_s, ige_u}
use Rattle.wnum.specs.Conversion.{wrap, extend_s, extend_u, iextend_s}
use Rattle.wnum.specs.Representation.{signed, from_signed, ibits, from_ibits}
use Rattle.wcode.specs.declared.value.ValueType.TheVariants as types
use Rattle.wcode.specs.declared.value.Value.{Value}
use Rattle.wcode.specs.declared.value.Value.TheVariants as value
use Rattle.wcode.specs.declared.operator.Sign.TheVariants.{Signed, Unsigned}
use Rattle.wcode.specs.declared.operator.UnOp.TheVariants as unary
use Rattle.wcode.specs.declared.operator.BinOp.TheVariants as binary
use Rattle.wcode.specs.declared.operator.TestOp.TheVariants as test
use Rattle.wcode.specs.declared.operator.RelOp.TheVariants as relation
use Rattle.wcode.specs.declared.operator.CvtOp.TheVariants as conversion
use Rattle.wcode.specs.declared.operator.LoadOp.{LoadOp}
use Rattle.wcode.specs.declared.operator.LoadOp.TheVariants as loads
use Rattle.wcode.specs.declared.operator.StoreOp.{StoreOp}
use Rattle.wcode.specs.declared.operator.StoreOp.TheVariants as stores
use Rattle.wcode.specs.declared.instruction.Plain.{Plain}
use Rattle.wcode.specs.declared.instruction.Plain.TheVariants.{Unary, Binary, Test, Relation, Convert, Load, Store as StoreTo}
use Rattle.wcode.specs.Syntax.{done}
use Rattle.wmach.specs.Configuration.{Execution, instructions, label, frame, invoke, trap, Reduction}
use Rattle.wmach.specs.Plain.{reduce_plain}
use Rattle.wplain.proofs.MemoryRows.{with_memory}

-- the values and the bytes that an instruction leaves
abbrev values_in : Execution → List Value
values_in (instructions values rest) = values
values_in (label below arity continuation inside rest) = []
values_in (frame below arity locals inside rest) = []
values_in (invoke values function rest) = []
values_in (trap t) = []

abbrev values_left : Option Reduction → List Value
values_left None = []
values_left (Some r) = values_in r.to.execution

abbrev bytes_left : Option Reduction → List ℕ
bytes_left None = []
bytes_left (Some r) = r.to.store.memory

-- an instruction in a memory of these bytes, on these values
abbrev reduced : List ℕ → Plain → List Value → Option Reduction
reduced bytes p values = reduce_plain (with_memory None done) (record { memory = bytes; globals = []; table = [] }) [] values p done

-- each instruction, its operands with the topmost first, and what it gives
abbrev numeric : List (Plain × List Value × List Value)
numeric =
    (Unary types.I32 unary.Clz, value.I32 335544432 ∷ [], value.I32 3 ∷ []) ∷
    (Unary types.I32 unary.Ctz, value.I32 335544432 ∷ [], value.I32 4 ∷ []) ∷
    (Unary types.I32 unary.Popcnt, value.I32 335544432 ∷ [], value.I32 5 ∷ []) ∷
    (Binary types.I32 binary.Add, value.I32 3 ∷ value.I32 2147483662 ∷ [], value.I32 2147483665 ∷ []) ∷
    (Binary types.I32 binary.Sub, value.I32 3 ∷ value.I32 2147483662 ∷ [], value.I32 2147483659 ∷ []) ∷
    (Binary types.I32 binary.Mul, value.I32 3 ∷ value.I32 2147483662 ∷ [], value.I32 2147483690 ∷ []) ∷
    (Binary types.I32 binary.DivS, value.I32 3 ∷ value.I32 2147483662 ∷ [], value.I32 3579139418 ∷ []) ∷
    (Binary types.I32 binary.DivU, value.I32 3 ∷ value.I32 2147483662 ∷ [], value.I32 715827887 ∷ []) ∷
    (Binary types.I32 binary.RemS, value.I32 3 ∷ value.I32 2147483662 ∷ [], value.I32 0 ∷ []) ∷
    (Binary types.I32 binary.RemU, value.I32 3 ∷ value.I32 2147483662 ∷ [], value.I32 1 ∷ []) ∷
    (Binary types.I32 binary.And, value.I32 3 ∷ value.I32 2147483662 ∷ [], value.I32 2 ∷ []) ∷
    (Binary types.I32 binary.Or, value.I32 3 ∷ value.I32 2147483662 ∷ [], value.I32 2147483663 ∷ []) ∷
    (Binary types.I32 binary.Xor, value.I32 3 ∷ value.I32 2147483662 ∷ [], value.I32 2147483661 ∷ []) ∷
    (Binary types.I32 binary.Shl, value.I32 3 ∷ value.I32 2147483662 ∷ [], value.I32 112 ∷ []) ∷
    (Binary types.I32 binary.ShrS, value.I32 3 ∷ value.I32 2147483662 ∷ [], value.I32 4026531841 ∷ []) ∷
    (Binary types.I32 binary.ShrU, value.I32 3 ∷ value.I32 2147483662 ∷ [], value.I32 268435457 ∷ []) ∷
    (Binary types.I32 binary.Rotl, value.I32 3 ∷ value.I32 2147483662 ∷ [], value.I32 116 ∷ []) ∷
    (Binary types.I32 binary.Rotr, value.I32 3 ∷ value.I32 2147483662 ∷ [], value.I32 3489660929 ∷ []) ∷
    (Test types.I32 test.Eqz, value.I32 0 ∷ [], value.I32 1 ∷ []) ∷
    (Test types.I32 test.Eqz, value.I32 5 ∷ [], value.I32 0 ∷ []) ∷
    (Relation types.I32 relation.Eq, value.I32 3 ∷ value.I32 2147483661 ∷ [], value.I32 0 ∷ []) ∷
    (Relation types.I32 relation.Eq, value.I32 3 ∷ value.I32 3 ∷ [], value.I32 1 ∷ []) ∷
    (Relation types.I32 relation.Eq, value.I32 2147483661 ∷ value.I32 3 ∷ [], value.I32 0 ∷ []) ∷
    (Relation types.I32 relation.Eq, value.I32 3 ∷ value.I32 2 ∷ [], value.I32 0 ∷ []) ∷
    (Relation types.I32 relation.Ne, value.I32 3 ∷ value.I32 2147483661 ∷ [], value.I32 1 ∷ []) ∷
    (Relation types.I32 relation.Ne, value.I32 3 ∷ value.I32 3 ∷ [], value.I32 0 ∷ []) ∷
    (Relation types.I32 relation.Ne, value.I32 2147483661 ∷ value.I32 3 ∷ [], value.I32 1 ∷ []) ∷
    (Relation types.I32 relation.Ne, value.I32 3 ∷ value.I32 2 ∷ [], value.I32 1 ∷ []) ∷
    (Relation types.I32 relation.LtS, value.I32 3 ∷ value.I32 2147483661 ∷ [], value.I32 1 ∷ []) ∷
    (Relation types.I32 relation.LtS, value.I32 3 ∷ value.I32 3 ∷ [], value.I32 0 ∷ []) ∷
    (Relation types.I32 relation.LtS, value.I32 2147483661 ∷ value.I32 3 ∷ [], value.I32 0 ∷ []) ∷
    (Relation types.I32 relation.LtS, value.I32 3 ∷ value.I32 2 ∷ [], value.I32 1 ∷ []) ∷
    (Relation types.I32 relation.LtU, value.I32 3 ∷ value.I32 2147483661 ∷ [], value.I32 0 ∷ []) ∷
    (Relation types.I32 relation.LtU, value.I32 3 ∷ value.I32 3 ∷ [], value.I32 0 ∷ []) ∷
    (Relation types.I32 relation.LtU, value.I32 2147483661 ∷ value.I32 3 ∷ [], value.I32 1 ∷ []) ∷
    (Relation types.I32 relation.LtU, value.I32 3 ∷ value.I32 2 ∷ [], value.I32 1 ∷ []) ∷
    (Relation types.I32 relation.GtS, value.I32 3 ∷ value.I32 2147483661 ∷ [], value.I32 0 ∷ []) ∷
    (Relation types.I32 relation.GtS, value.I32 3 ∷ value.I32 3 ∷ [], value.I32 0 ∷ []) ∷
    (Relation types.I32 relation.GtS, value.I32 2147483661 ∷ value.I32 3 ∷ [], value.I32 1 ∷ []) ∷
    (Relation types.I32 relation.GtS, value.I32 3 ∷ value.I32 2 ∷ [], value.I32 0 ∷ []) ∷
    (Relation types.I32 relation.GtU, value.I32 3 ∷ value.I32 2147483661 ∷ [], value.I32 1 ∷ []) ∷
    (Relation types.I32 relation.GtU, value.I32 3 ∷ value.I32 3 ∷ [], value.I32 0 ∷ []) ∷
    (Relation types.I32 relation.GtU, value.I32 2147483661 ∷ value.I32 3 ∷ [], value.I32 0 ∷ []) ∷
    (Relation types.I32 relation.GtU, value.I32 3 ∷ value.I32 2 ∷ [], value.I32 0 ∷ []) ∷
    (Relation types.I32 relation.LeS, value.I32 3 ∷ value.I32 2147483661 ∷ [], value.I32 1 ∷ []) ∷
    (Relation types.I32 relation.LeS, value.I32 3 ∷ value.I32 3 ∷ [], value.I32 1 ∷ []) ∷
    (Relation types.I32 relation.LeS, value.I32 2147483661 ∷ value.I32 3 ∷ [], value.I32 0 ∷ []) ∷
    (Relation types.I32 relation.LeS, value.I32 3 ∷ value.I32 2 ∷ [], value.I32 1 ∷ []) ∷
    (Relation types.I32 relation.LeU, value.I32 3 ∷ value.I32 2147483661 ∷ [], value.I32 0 ∷ []) ∷
    (Relation types.I32 relation.LeU, value.I32 3 ∷ value.I32 3 ∷ [], value.I32 1 ∷ []) ∷
    (Relation types.I32 relation.LeU, value.I32 2147483661 ∷ value.I32 3 ∷ [], value.I32 1 ∷ []) ∷
    (Relation types.I32 relation.LeU, value.I32 3 ∷ value.I32 2 ∷ [], value.I32 1 ∷ []) ∷
    (Relation types.I32 relation.GeS, value.I32 3 ∷ value.I32 2147483661 ∷ [], value.I32 0 ∷ []) ∷
    (Relation types.I32 relation.GeS, value.I32 3 ∷ value.I32 3 ∷ [], value.I32 1 ∷ []) ∷
    (Relation types.I32 relation.GeS, value.I32 2147483661 ∷ value.I32 3 ∷ [], value.I32 1 ∷ []) ∷
    (Relation types.I32 relation.GeS, value.I32 3 ∷ value.I32 2 ∷ [], value.I32 0 ∷ []) ∷
    (Relation types.I32 relation.GeU, value.I32 3 ∷ value.I32 2147483661 ∷ [], value.I32 1 ∷ []) ∷
    (Relation types.I32 relation.GeU, value.I32 3 ∷ value.I32 3 ∷ [], value.I32 1 ∷ []) ∷
    (Relation types.I32 relation.GeU, value.I32 2147483661 ∷ value.I32 3 ∷ [], value.I32 0 ∷ []) ∷
    (Relation types.I32 relation.GeU, value.I32 3 ∷ value.I32 2 ∷ [], value.I32 0 ∷ []) ∷
    (Unary types.I64 unary.Clz, value.I64 1441151880758558832 ∷ [], value.I64 3 ∷ []) ∷
    (Unary types.I64 unary.Ctz, value.I64 1441151880758558832 ∷ [], value.I64 4 ∷ []) ∷
    (Unary types.I64 unary.Popcnt, value.I64 1441151880758558832 ∷ [], value.I64 5 ∷ []) ∷
    (Binary types.I64 binary.Add, value.I64 3 ∷ value.I64 9223372036854775822 ∷ [], value.I64 9223372036854775825 ∷ []) ∷
    (Binary types.I64 binary.Sub, value.I64 3 ∷ value.I64 9223372036854775822 ∷ [], value.I64 9223372036854775819 ∷ []) ∷
    (Binary types.I64 binary.Mul, value.I64 3 ∷ value.I64 9223372036854775822 ∷ [], value.I64 9223372036854775850 ∷ []) ∷
    (Binary types.I64 binary.DivS, value.I64 3 ∷ value.I64 9223372036854775822 ∷ [], value.I64 15372286728091293018 ∷ []) ∷
    (Binary types.I64 binary.DivU, value.I64 3 ∷ value.I64 9223372036854775822 ∷ [], value.I64 3074457345618258607 ∷ []) ∷
    (Binary types.I64 binary.RemS, value.I64 3 ∷ value.I64 9223372036854775822 ∷ [], value.I64 0 ∷ []) ∷
    (Binary types.I64 binary.RemU, value.I64 3 ∷ value.I64 9223372036854775822 ∷ [], value.I64 1 ∷ []) ∷
    (Binary types.I64 binary.And, value.I64 3 ∷ value.I64 9223372036854775822 ∷ [], value.I64 2 ∷ []) ∷
    (Binary types.I64 binary.Or, value.I64 3 ∷ value.I64 9223372036854775822 ∷ [], value.I64 9223372036854775823 ∷ []) ∷
    (Binary types.I64 binary.Xor, value.I64 3 ∷ value.I64 9223372036854775822 ∷ [], value.I64 9223372036854775821 ∷ []) ∷
    (Binary types.I64 binary.Shl, value.I64 3 ∷ value.I64 9223372036854775822 ∷ [], value.I64 112 ∷ []) ∷
    (Binary types.I64 binary.ShrS, value.I64 3 ∷ value.I64 9223372036854775822 ∷ [], value.I64 17293822569102704641 ∷ []) ∷
    (Binary types.I64 binary.ShrU, value.I64 3 ∷ value.I64 9223372036854775822 ∷ [], value.I64 1152921504606846977 ∷ []) ∷
    (Binary types.I64 binary.Rotl, value.I64 3 ∷ value.I64 9223372036854775822 ∷ [], value.I64 116 ∷ []) ∷
    (Binary types.I64 binary.Rotr, value.I64 3 ∷ value.I64 9223372036854775822 ∷ [], value.I64 14987979559889010689 ∷ []) ∷
    (Test types.I64 test.Eqz, value.I64 0 ∷ [], value.I32 1 ∷ []) ∷
    (Test types.I64 test.Eqz, value.I64 5 ∷ [], value.I32 0 ∷ []) ∷
    (Relation types.I64 relation.Eq, value.I64 3 ∷ value.I64 9223372036854775821 ∷ [], value.I32 0 ∷ []) ∷
    (Relation types.I64 relation.Eq, value.I64 3 ∷ value.I64 3 ∷ [], value.I32 1 ∷ []) ∷
    (Relation types.I64 relation.Eq, value.I64 9223372036854775821 ∷ value.I64 3 ∷ [], value.I32 0 ∷ []) ∷
    (Relation types.I64 relation.Eq, value.I64 3 ∷ value.I64 2 ∷ [], value.I32 0 ∷ []) ∷
    (Relation types.I64 relation.Ne, value.I64 3 ∷ value.I64 9223372036854775821 ∷ [], value.I32 1 ∷ []) ∷
    (Relation types.I64 relation.Ne, value.I64 3 ∷ value.I64 3 ∷ [], value.I32 0 ∷ []) ∷
    (Relation types.I64 relation.Ne, value.I64 9223372036854775821 ∷ value.I64 3 ∷ [], value.I32 1 ∷ []) ∷
    (Relation types.I64 relation.Ne, value.I64 3 ∷ value.I64 2 ∷ [], value.I32 1 ∷ []) ∷
    (Relation types.I64 relation.LtS, value.I64 3 ∷ value.I64 9223372036854775821 ∷ [], value.I32 1 ∷ []) ∷
    (Relation types.I64 relation.LtS, value.I64 3 ∷ value.I64 3 ∷ [], value.I32 0 ∷ []) ∷
    (Relation types.I64 relation.LtS, value.I64 9223372036854775821 ∷ value.I64 3 ∷ [], value.I32 0 ∷ []) ∷
    (Relation types.I64 relation.LtS, value.I64 3 ∷ value.I64 2 ∷ [], value.I32 1 ∷ []) ∷
    (Relation types.I64 relation.LtU, value.I64 3 ∷ value.I64 9223372036854775821 ∷ [], value.I32 0 ∷ []) ∷
    (Relation types.I64 relation.LtU, value.I64 3 ∷ value.I64 3 ∷ [], value.I32 0 ∷ []) ∷
    (Relation types.I64 relation.LtU, value.I64 9223372036854775821 ∷ value.I64 3 ∷ [], value.I32 1 ∷ []) ∷
    (Relation types.I64 relation.LtU, value.I64 3 ∷ value.I64 2 ∷ [], value.I32 1 ∷ []) ∷
    (Relation types.I64 relation.GtS, value.I64 3 ∷ value.I64 9223372036854775821 ∷ [], value.I32 0 ∷ []) ∷
    (Relation types.I64 relation.GtS, value.I64 3 ∷ value.I64 3 ∷ [], value.I32 0 ∷ []) ∷
    (Relation types.I64 relation.GtS, value.I64 9223372036854775821 ∷ value.I64 3 ∷ [], value.I32 1 ∷ []) ∷
    (Relation types.I64 relation.GtS, value.I64 3 ∷ value.I64 2 ∷ [], value.I32 0 ∷ []) ∷
    (Relation types.I64 relation.GtU, value.I64 3 ∷ value.I64 9223372036854775821 ∷ [], value.I32 1 ∷ []) ∷
    (Relation types.I64 relation.GtU, value.I64 3 ∷ value.I64 3 ∷ [], value.I32 0 ∷ []) ∷
    (Relation types.I64 relation.GtU, value.I64 9223372036854775821 ∷ value.I64 3 ∷ [], value.I32 0 ∷ []) ∷
    (Relation types.I64 relation.GtU, value.I64 3 ∷ value.I64 2 ∷ [], value.I32 0 ∷ []) ∷
    (Relation types.I64 relation.LeS, value.I64 3 ∷ value.I64 9223372036854775821 ∷ [], value.I32 1 ∷ []) ∷
    (Relation types.I64 relation.LeS, value.I64 3 ∷ value.I64 3 ∷ [], value.I32 1 ∷ []) ∷
    (Relation types.I64 relation.LeS, value.I64 9223372036854775821 ∷ value.I64 3 ∷ [], value.I32 0 ∷ []) ∷
    (Relation types.I64 relation.LeS, value.I64 3 ∷ value.I64 2 ∷ [], value.I32 1 ∷ []) ∷
    (Relation types.I64 relation.LeU, value.I64 3 ∷ value.I64 9223372036854775821 ∷ [], value.I32 0 ∷ []) ∷
    (Relation types.I64 relation.LeU, value.I64 3 ∷ value.I64 3 ∷ [], value.I32 1 ∷ []) ∷
    (Relation types.I64 relation.LeU, value.I64 9223372036854775821 ∷ value.I64 3 ∷ [], value.I32 1 ∷ []) ∷
    (Relation types.I64 relation.LeU, value.I64 3 ∷ value.I64 2 ∷ [], value.I32 1 ∷ []) ∷
    (Relation types.I64 relation.GeS, value.I64 3 ∷ value.I64 9223372036854775821 ∷ [], value.I32 0 ∷ []) ∷
    (Relation types.I64 relation.GeS, value.I64 3 ∷ value.I64 3 ∷ [], value.I32 1 ∷ []) ∷
    (Relation types.I64 relation.GeS, value.I64 9223372036854775821 ∷ value.I64 3 ∷ [], value.I32 1 ∷ []) ∷
    (Relation types.I64 relation.GeS, value.I64 3 ∷ value.I64 2 ∷ [], value.I32 0 ∷ []) ∷
    (Relation types.I64 relation.GeU, value.I64 3 ∷ value.I64 9223372036854775821 ∷ [], value.I32 1 ∷ []) ∷
    (Relation types.I64 relation.GeU, value.I64 3 ∷ value.I64 3 ∷ [], value.I32 1 ∷ []) ∷
    (Relation types.I64 relation.GeU, value.I64 9223372036854775821 ∷ value.I64 3 ∷ [], value.I32 0 ∷ []) ∷
    (Relation types.I64 relation.GeU, value.I64 3 ∷ value.I64 2 ∷ [], value.I32 0 ∷ []) ∷
    (Convert conversion.WrapI64, value.I64 9223372039002259461 ∷ [], value.I32 2147483653 ∷ []) ∷
    (Convert conversion.ExtendI32S, value.I32 2147483653 ∷ [], value.I64 18446744071562067973 ∷ []) ∷
    (Convert conversion.ExtendI32U, value.I32 2147483653 ∷ [], value.I64 2147483653 ∷ []) ∷
    (Convert (conversion.Extend8S types.I32), value.I32 127 ∷ [], value.I32 127 ∷ []) ∷
    (Convert (conversion.Extend8S types.I32), value.I32 128 ∷ [], value.I32 4294967168 ∷ []) ∷
    (Convert (conversion.Extend8S types.I32), value.I32 19088640 ∷ [], value.I32 0 ∷ []) ∷
    (Convert (conversion.Extend8S types.I32), value.I32 4275878528 ∷ [], value.I32 4294967168 ∷ []) ∷
    (Convert (conversion.Extend16S types.I32), value.I32 32767 ∷ [], value.I32 32767 ∷ []) ∷
    (Convert (conversion.Extend16S types.I32), value.I32 32768 ∷ [], value.I32 4294934528 ∷ []) ∷
    (Convert (conversion.Extend16S types.I32), value.I32 4275863552 ∷ [], value.I32 4294934528 ∷ []) ∷
    (Convert (conversion.Extend8S types.I64), value.I64 127 ∷ [], value.I64 127 ∷ []) ∷
    (Convert (conversion.Extend8S types.I64), value.I64 128 ∷ [], value.I64 18446744073709551488 ∷ []) ∷
    (Convert (conversion.Extend8S types.I64), value.I64 18364758544493064832 ∷ [], value.I64 18446744073709551488 ∷ []) ∷
    (Convert (conversion.Extend16S types.I64), value.I64 32767 ∷ [], value.I64 32767 ∷ []) ∷
    (Convert (conversion.Extend16S types.I64), value.I64 32768 ∷ [], value.I64 18446744073709518848 ∷ []) ∷
    (Convert (conversion.Extend16S types.I64), value.I64 18364758544493084672 ∷ [], value.I64 18446744073709518848 ∷ []) ∷
    (Convert conversion.Extend32S, value.I64 2147483647 ∷ [], value.I64 2147483647 ∷ []) ∷
    (Convert conversion.Extend32S, value.I64 2147483648 ∷ [], value.I64 18446744071562067968 ∷ []) ∷
    (Convert conversion.Extend32S, value.I64 18364758544655319040 ∷ [], value.I64 18446744071562067968 ∷ []) ∷
    (Convert conversion.Extend32S, value.I64 81985526906748928 ∷ [], value.I64 0 ∷ []) ∷ []

numeric_rows : map (λ (r : Plain × List Value × List Value). values_left (reduced [] (r.0) (r.1))) numeric ≡ map (λ (r : Plain × List Value × List Value). r.2) numeric
unfolding iadd isub imul idiv_s idiv_u irem_s irem_u from_quotient iand ior ixor bitwise top_bit ishl ishr_s ishr_u irotl irotr iclz ictz ipopcnt ieqz ieq ine ilt_s ilt_u igt_s igt_u ile_s ile_u ige_s ige_u wrap extend_s extend_u iextend_s signed from_signed ibits from_ibits
numeric_rows = refl

-- twelve bytes
abbrev twelve : List ℕ
twelve = 129 ∷ 145 ∷ 161 ∷ 177 ∷ 193 ∷ 209 ∷ 225 ∷ 241 ∷ 1 ∷ 17 ∷ 33 ∷ 49 ∷ []

-- each load, from address 1 and offset 2, and what it gives
abbrev loaded : List (LoadOp × Value)
loaded =
    (loads.Whole types.I32, value.I32 3788620209) ∷
    (loads.Whole types.I64, value.I64 2382687816243069361) ∷
    (loads.Narrow8 types.I32 Signed, value.I32 4294967217) ∷
    (loads.Narrow8 types.I32 Unsigned, value.I32 177) ∷
    (loads.Narrow16 types.I32 Signed, value.I32 4294951345) ∷
    (loads.Narrow16 types.I32 Unsigned, value.I32 49585) ∷
    (loads.Narrow8 types.I64 Signed, value.I64 18446744073709551537) ∷
    (loads.Narrow8 types.I64 Unsigned, value.I64 177) ∷
    (loads.Narrow16 types.I64 Signed, value.I64 18446744073709535665) ∷
    (loads.Narrow16 types.I64 Unsigned, value.I64 49585) ∷
    (loads.Narrow32 Signed, value.I64 18446744073203204529) ∷
    (loads.Narrow32 Unsigned, value.I64 3788620209) ∷ []

load_rows : map (λ (r : LoadOp × Value). values_left (reduced twelve (Load (r.0) (record { align = 0; offset = 2 })) (value.I32 1 ∷ []))) loaded ≡ map (λ (r : LoadOp × Value). r.1 ∷ []) loaded
unfolding extend_s extend_u signed from_signed
load_rows = refl

abbrev zeros : List ℕ
zeros = 0 ∷ 0 ∷ 0 ∷ 0 ∷ 0 ∷ 0 ∷ 0 ∷ 0 ∷ 0 ∷ 0 ∷ 0 ∷ 0 ∷ []

-- each store, at address 1 and offset 2, what it stores, and the bytes then
abbrev stored : List (StoreOp × Value × List ℕ)
stored =
    (stores.Whole types.I32, value.I32 2442302356, 0 ∷ 0 ∷ 0 ∷ 148 ∷ 147 ∷ 146 ∷ 145 ∷ 0 ∷ 0 ∷ 0 ∷ 0 ∷ 0 ∷ []) ∷
    (stores.Whole types.I64, value.I64 10489608748473423768, 0 ∷ 0 ∷ 0 ∷ 152 ∷ 151 ∷ 150 ∷ 149 ∷ 148 ∷ 147 ∷ 146 ∷ 145 ∷ 0 ∷ []) ∷
    (stores.Narrow8 types.I32, value.I32 2442302356, 0 ∷ 0 ∷ 0 ∷ 148 ∷ 0 ∷ 0 ∷ 0 ∷ 0 ∷ 0 ∷ 0 ∷ 0 ∷ 0 ∷ []) ∷
    (stores.Narrow16 types.I32, value.I32 2442302356, 0 ∷ 0 ∷ 0 ∷ 148 ∷ 147 ∷ 0 ∷ 0 ∷ 0 ∷ 0 ∷ 0 ∷ 0 ∷ 0 ∷ []) ∷
    (stores.Narrow8 types.I64, value.I64 10489608748473423768, 0 ∷ 0 ∷ 0 ∷ 152 ∷ 0 ∷ 0 ∷ 0 ∷ 0 ∷ 0 ∷ 0 ∷ 0 ∷ 0 ∷ []) ∷
    (stores.Narrow16 types.I64, value.I64 10489608748473423768, 0 ∷ 0 ∷ 0 ∷ 152 ∷ 151 ∷ 0 ∷ 0 ∷ 0 ∷ 0 ∷ 0 ∷ 0 ∷ 0 ∷ []) ∷
    (stores.Narrow32, value.I64 10489608748473423768, 0 ∷ 0 ∷ 0 ∷ 152 ∷ 151 ∷ 150 ∷ 149 ∷ 0 ∷ 0 ∷ 0 ∷ 0 ∷ 0 ∷ []) ∷ []

store_rows : map (λ (r : StoreOp × Value × List ℕ). bytes_left (reduced zeros (StoreTo (r.0) (record { align = 0; offset = 2 })) (r.1 ∷ value.I32 1 ∷ []))) stored ≡ map (λ (r : StoreOp × Value × List ℕ). r.2) stored
store_rows = refl
