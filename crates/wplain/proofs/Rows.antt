-- The definitions, computed on small modules.
use Rattle.std.proofs.Common.{ℕ, List, [], ◌∷◌, Some, None, refl}
use Rattle.wnum.specs.Integer.{iadd, isub, ishl, idiv_s, idiv_u, irem_s, from_quotient, iclz, ieqz, ilt_s, ilt_u}
use Rattle.wnum.specs.Conversion.{wrap, extend_s, extend_u, iextend_s}
use Rattle.wnum.specs.Representation.{signed, from_signed, ibits, from_ibits}
use Rattle.wcode.specs.declared.value.ValueType.{ValueType}
use Rattle.wcode.specs.declared.value.ValueType.TheVariants.{I32, I64}
use Rattle.wcode.specs.declared.value.BlockType.TheVariants.{Empty, Result}
use Rattle.wcode.specs.declared.value.Value.TheVariants as value
use Rattle.wcode.specs.declared.operator.BinOp.{BinOp}
use Rattle.wcode.specs.declared.operator.BinOp.TheVariants as binary
use Rattle.wcode.specs.declared.operator.UnOp.TheVariants as unary
use Rattle.wcode.specs.declared.operator.TestOp.TheVariants as test
use Rattle.wcode.specs.declared.operator.RelOp.{RelOp}
use Rattle.wcode.specs.declared.operator.RelOp.TheVariants as relation
use Rattle.wcode.specs.declared.operator.CvtOp.{CvtOp}
use Rattle.wcode.specs.declared.operator.CvtOp.TheVariants as conversion
use Rattle.wcode.specs.declared.instruction.Plain.TheVariants.{Unreachable, Br, BrIf, LocalGet, LocalSet, LocalTee, GlobalGet, GlobalSet, Select, Const, Unary, Binary, Test, Relation, Convert}
use Rattle.wcode.specs.Syntax.{Body, done, plain, block, loop, br_table}
use Rattle.wmodule.specs.Syntax.{ModuleSyntax}
use Rattle.rules.specs.declared.trap.Trap.TheVariants as traps
use Rattle.wmach.specs.declared.outcome.Outcome.{Outcome}
use Rattle.wmach.specs.declared.outcome.Outcome.TheVariants as outcome
use Rattle.wmach.specs.Configuration.{Store, Setting}
use Rattle.wplain.proofs.Running.{Row, row, row_of}

-- one function from nothing to an i32, with these locals and this body
abbrev one_function : List ValueType → Body → ModuleSyntax
one_function locals body = record {
  types = record { parameters = []; result = Some I32 } ∷ [];
  imports = [];
  functions = record { signature = 0; locals = locals; body = body } ∷ [];
  tables = [];
  memories = [];
  globals = [];
  exports = [];
  start = None;
  element_segments = [];
  data_segments = [];
}

abbrev setting : List ValueType → Body → Setting
setting locals body = record { module_syntax = one_function locals body; records = λ n. None }

abbrev no_store : Store
no_store = record { memory = []; globals = []; table = [] }

-- a call of that function with so much fuel ends so
abbrev Gives : Body → (fuel : ℕ) → Outcome → Type 0
Gives body fuel o = Row (setting [] body) no_store 0 fuel o no_store

abbrev i32 : ℕ → Body → Body
i32 n rest = plain (Const (value.I32 n)) rest

abbrev value_at_cost : ℕ → ℕ → Outcome
value_at_cost n cost = outcome.Value (Some (value.I32 n)) cost

-- i32.const 0: the value 0 at no cost
zero_constant : Gives (i32 0 done) 100 (value_at_cost 0 0)
zero_constant = row 10 refl

-- a block that adds 7 and 8: with fuel 2 it is 15, with fuel 1 it stands before the sum
abbrev sum_in_block : Body
sum_in_block = block (Result I32) (i32 7 (i32 8 (plain (Binary I32 binary.Add) done))) done

sum_with_two : Gives sum_in_block 2 (value_at_cost 15 2)
unfolding iadd
sum_with_two = row 20 refl

sum_with_one : Gives sum_in_block 1 (outcome.Exhausted 1)
unfolding iadd
sum_with_one = row 20 refl

-- a loop for ever
endless : Gives (loop Empty (plain (Br 0) done) (i32 0 done)) 9 (outcome.Exhausted 9)
endless = row 30 refl

-- a counter from 3, whose steps cost 1, 7, 7 and 6
abbrev counter : Body
counter =
    i32 3 (plain (LocalSet 0)
    (loop Empty (plain (LocalGet 0) (i32 1 (plain (Binary I32 binary.Sub) (plain (LocalTee 0) (plain (BrIf 0) done))))) (i32 0 done)))

counter_with_21 : Row (setting (I32 ∷ []) counter) no_store 0 21 (value_at_cost 0 21) no_store
unfolding isub
counter_with_21 = row_of (setting (I32 ∷ []) counter) no_store 0 21 (value_at_cost 0 21) no_store 60 refl

counter_with_20 : Row (setting (I32 ∷ []) counter) no_store 0 20 (outcome.Exhausted 20) no_store
unfolding isub
counter_with_20 = row_of (setting (I32 ∷ []) counter) no_store 0 20 (outcome.Exhausted 20) no_store 60 refl

-- a branch out of the body leaves just what it carries
surplus : Gives (i32 7 (i32 8 (i32 0 (plain (Br 0) done)))) 100 (value_at_cost 0 1)
surplus = row 20 refl

-- what stands behind a branch isn't reached
not_reached : Gives (i32 0 (plain (Br 0) (plain (Binary I32 binary.Add) done))) 100 (value_at_cost 0 1)
not_reached = row 20 refl

-- divisions that have no quotient
abbrev least : ℕ
least = 2147483648

abbrev minus_one : ℕ
minus_one = 4294967295

divided : BinOp → ℕ → ℕ → Body
divided op a b = i32 a (i32 b (plain (Binary I32 op) done))

quotient_too_large : Gives (divided binary.DivS least minus_one) 100 (outcome.Trap traps.IntegerOverflow 1)
unfolding divided idiv_s from_quotient signed from_signed
quotient_too_large = row 20 refl

remainder_of_the_least : Gives (divided binary.RemS least minus_one) 100 (value_at_cost 0 1)
unfolding divided irem_s signed from_signed
remainder_of_the_least = row 20 refl

divided_by_zero : Gives (divided binary.DivU 1 0) 100 (outcome.Trap traps.DivideByZero 1)
unfolding divided idiv_u
divided_by_zero = row 20 refl

-- unreachable
unreachable : Gives (plain Unreachable done) 100 (outcome.Trap traps.Unreachable 1)
unreachable = row 20 refl

-- a br_table past its one label takes the default: block, br_table, br
table_of_labels : Gives (block Empty (i32 5 (br_table (0 ∷ []) 0 done)) (i32 0 done)) 100 (value_at_cost 0 3)
table_of_labels = row 20 refl

-- a branch out of two blocks leaves both
two_labels : Gives (block (Result I32) (block Empty (i32 4 (plain (Br 1) done)) (i32 6 done)) done) 100 (value_at_cost 4 3)
two_labels = row 20 refl

-- a local is zero at first
local_at_first : Row (setting (I32 ∷ []) (plain (LocalGet 0) done)) no_store 0 100 (value_at_cost 0 1) no_store
local_at_first = row 20 refl

-- select gives the lower operand where the condition isn't zero
selecting : ℕ → Body
selecting condition = i32 7 (i32 8 (i32 condition (plain Select done)))

select_first : Gives (selecting 1) 100 (value_at_cost 7 1)
unfolding selecting
select_first = row 20 refl

select_second : Gives (selecting 0) 100 (value_at_cost 8 1)
unfolding selecting
select_second = row 20 refl

-- -1 as an i64 is less than 0, and is above it without a sign
compared : CvtOp → RelOp → Body
compared widen op = i32 minus_one (plain (Convert widen) (plain (Const (value.I64 0)) (plain (Relation I64 op) done)))

less_with_a_sign : Gives (compared conversion.ExtendI32S relation.LtS) 100 (value_at_cost 1 2)
unfolding compared extend_s ilt_s signed from_signed
less_with_a_sign = row 20 refl

not_less_without_a_sign : Gives (compared conversion.ExtendI32U relation.LtU) 100 (value_at_cost 0 2)
unfolding compared extend_u ilt_u
not_less_without_a_sign = row 20 refl

-- i32.wrap_i64 of 4294967301, and a test of it
wrapped : Gives (plain (Const (value.I64 4294967301)) (plain (Convert conversion.WrapI64) done)) 100 (value_at_cost 5 1)
unfolding wrap
wrapped = row 20 refl

-- i32.extend8_s of 128
extended : Gives (i32 128 (plain (Convert (conversion.Extend8S I32)) done)) 100 (value_at_cost 4294967168 1)
unfolding iextend_s wrap extend_s signed from_signed
extended = row 20 refl

tested : Gives (i32 0 (plain (Test I32 test.Eqz) done)) 100 (value_at_cost 1 1)
unfolding ieqz
tested = row 20 refl

-- i32.clz of 0
counted_zeros : Gives (i32 0 (plain (Unary I32 unary.Clz) done)) 100 (value_at_cost 32 1)
unfolding iclz ibits
counted_zeros = row 20 refl

-- a global is read, written with one more, and what was read is doubled
abbrev globals_body : Body
globals_body = plain (GlobalGet 0) (plain (GlobalGet 0) (i32 1 (plain (Binary I32 binary.Add) (plain (GlobalSet 0) (i32 1 (plain (Binary I32 binary.Shl) done))))))

global_store : ℕ → Store
global_store n = record { memory = []; globals = value.I32 n ∷ []; table = [] }

counted_global : Row (setting [] globals_body) (global_store 0) 0 100 (value_at_cost 0 5) (global_store 1)
unfolding iadd ishl ibits from_ibits global_store
counted_global = row 20 refl
