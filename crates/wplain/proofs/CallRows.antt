-- The definitions, computed on calls: of functions, through a table, and too deep.
use Rattle.std.proofs.Common.{ℕ, List, [], ◌∷◌, Some, None, refl, arith}
use Rattle.wnum.specs.Integer.{isub}
use Rattle.wcode.specs.declared.value.ValueType.TheVariants.{I32, I64}
use Rattle.wcode.specs.declared.value.Value.TheVariants as value
use Rattle.wcode.specs.declared.operator.BinOp.TheVariants as binary
use Rattle.wcode.specs.declared.instruction.Plain.TheVariants.{Const, Call, CallIndirect, LocalGet, Binary, Return}
use Rattle.wcode.specs.declared.value.BlockType.TheVariants.{Empty, Result}
use Rattle.wcode.specs.Syntax.{Body, done, plain, block, if_else}
use Rattle.wmodule.specs.Syntax.{Signature, FunctionSyntax}
use Rattle.rules.specs.declared.trap.Trap.TheVariants as traps
use Rattle.wmach.specs.declared.outcome.Outcome.{Outcome}
use Rattle.wmach.specs.declared.outcome.Outcome.TheVariants as outcome
use Rattle.wmach.specs.Configuration.{Store, Setting}
use Rattle.wplain.proofs.Running.{Row, row_of}
use Rattle.wplain.proofs.DeepCalls.{calls_itself_in, too_deep_in_blocks}

-- a module with these functions and a table of four
abbrev module_with : List Signature → List FunctionSyntax → Setting
module_with types functions = record {
  module_syntax = record {
    types = types;
    imports = [];
    functions = functions;
    tables = record { least = 4; most = None } ∷ [];
    memories = [];
    globals = [];
    exports = [];
    start = None;
    element_segments = [];
    data_segments = [];
  };
  records = λ n. None;
}

abbrev i32 : ℕ → Body → Body
i32 n rest = plain (Const (value.I32 n)) rest

abbrev value_at_cost : ℕ → ℕ → Outcome
value_at_cost n cost = outcome.Value (Some (value.I32 n)) cost

abbrev nothing_to_i32 : Signature
nothing_to_i32 = record { parameters = []; result = Some I32 }

abbrev nothing_to_i64 : Signature
nothing_to_i64 = record { parameters = []; result = Some I64 }

abbrev two_to_i32 : Signature
two_to_i32 = record { parameters = I32 ∷ I32 ∷ []; result = Some I32 }

abbrev no_table : Store
no_table = record { memory = []; globals = []; table = [] }

-- arguments become the first locals in their order, the others are zero, and a return leaves just
-- the result
abbrev subtraction : Body
subtraction =
    block Empty
    (i32 1 (plain (LocalGet 0) (plain (LocalGet 1) (plain (Binary I32 binary.Sub) (plain (LocalGet 2) (plain (Binary I32 binary.Sub) (plain Return done)))))))
    (i32 0 done)

abbrev difference : Setting
difference = module_with (nothing_to_i32 ∷ two_to_i32 ∷ [])
    (record { signature = 0; locals = []; body = i32 9 (i32 5 (plain (Call 1) done)) }
    ∷ record { signature = 1; locals = I32 ∷ []; body = subtraction } ∷ [])

call_of_two : Row difference no_table 0 100 (value_at_cost 4 8) no_table
unfolding isub
call_of_two = row_of difference no_table 0 100 (value_at_cost 4 8) no_table 20 refl

-- the condition of an if takes the arm that it names
abbrev choosing : ℕ → Setting
choosing n = module_with (nothing_to_i32 ∷ []) (record { signature = 0; locals = []; body = i32 n (if_else (Result I32) (i32 7 done) (i32 8 done) done) } ∷ [])

arm_of_two : Row (choosing 2) no_table 0 100 (value_at_cost 7 1) no_table
arm_of_two = row_of (choosing 2) no_table 0 100 (value_at_cost 7 1) no_table 20 refl

arm_of_zero : Row (choosing 0) no_table 0 100 (value_at_cost 8 1) no_table
arm_of_zero = row_of (choosing 0) no_table 0 100 (value_at_cost 8 1) no_table 20 refl

-- The table holds a function of a type that is listed twice, one of another type, and nothing. The
-- call names the second listing.
abbrev through_table : ℕ → Setting
through_table i = module_with (nothing_to_i32 ∷ nothing_to_i64 ∷ nothing_to_i32 ∷ [])
    (record { signature = 0; locals = []; body = i32 i (plain (CallIndirect 2) done) }
    ∷ record { signature = 0; locals = []; body = i32 6 done }
    ∷ record { signature = 1; locals = []; body = plain (Const (value.I64 6)) done } ∷ [])

abbrev table_store : Store
table_store = record { memory = []; globals = []; table = Some 1 ∷ Some 2 ∷ None ∷ None ∷ [] }

element_of_the_type : Row (through_table 0) table_store 0 100 (value_at_cost 6 1) table_store
element_of_the_type = row_of (through_table 0) table_store 0 100 (value_at_cost 6 1) table_store 20 refl

element_of_another_type : Row (through_table 1) table_store 0 100 (outcome.Trap traps.SignatureMismatch 1) table_store
element_of_another_type = row_of (through_table 1) table_store 0 100 (outcome.Trap traps.SignatureMismatch 1) table_store 20 refl

element_of_nothing : Row (through_table 3) table_store 0 100 (outcome.Trap traps.UninitializedElement 1) table_store
element_of_nothing = row_of (through_table 3) table_store 0 100 (outcome.Trap traps.UninitializedElement 1) table_store 20 refl

element_past_the_end : Row (through_table 4) table_store 0 100 (outcome.Trap traps.UndefinedElement 1) table_store
element_past_the_end = row_of (through_table 4) table_store 0 100 (outcome.Trap traps.UndefinedElement 1) table_store 20 refl

-- a function that calls itself: the 257th frame is one too many
too_deep : Row (calls_itself_in 0) no_table 0 256 (outcome.Trap traps.CallDepth 256) no_table
too_deep = record { is = too_deep_in_blocks 0 no_table 256 (omega arith) }

not_too_deep : Row (calls_itself_in 0) no_table 0 255 (outcome.Exhausted 255) no_table
not_too_deep = row_of (calls_itself_in 0) no_table 0 255 (outcome.Exhausted 255) no_table 512 refl

-- one that calls itself inside 256 blocks: each of the 256 frames costs its blocks and its call
too_deep_behind_blocks : Row (calls_itself_in 256) no_table 0 1000000 (outcome.Trap traps.CallDepth 65792) no_table
too_deep_behind_blocks = record { is = too_deep_in_blocks 256 no_table 1000000 (omega arith) }
