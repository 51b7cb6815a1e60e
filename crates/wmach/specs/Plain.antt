-- One reduction of an instruction without others inside it (WebAssembly Core 1.0, 4.4.1 to 4.4.5),
-- with its cost.
use Rattle.std.specs.Prelude.{List, ◌∷◌, Option, None, ◌==◌, if◌then◌else◌}
use Rattle.wcode.specs.declared.value.ValueType.TheVariants.{I32}
use Rattle.wcode.specs.declared.value.Value.{Value}
use Rattle.wcode.specs.declared.instruction.Plain.{Plain}
use Rattle.wcode.specs.declared.instruction.Plain.TheVariants as instruction
use Rattle.wcode.specs.Syntax.{Body, plain}
use Rattle.rules.specs.declared.trap.Trap.TheVariants.{Unreachable}
use Rattle.wmach.specs.Configuration.{Store, Setting, instructions, invoke, trap, Reduction, leads_to}
use Rattle.wmach.specs.Operands.{with_one}
use Rattle.wmach.specs.Numeric.{reduce_unary, reduce_binary, reduce_test, reduce_relation, reduce_convert}
use Rattle.wmach.specs.Variables.{reduce_drop, reduce_select, reduce_local_get, reduce_local_set, reduce_local_tee, reduce_global_get, reduce_global_set}
use Rattle.wmach.specs.Access.{reduce_load, reduce_store, reduce_size, reduce_grow}
use Rattle.wmach.specs.Indirect.{reduce_call_indirect}

abbrev pub reduce_plain : Setting → Store → (locals values : List Value) → Plain → (rest : Body) → Option Reduction
reduce_plain setting store locals values instruction.Unreachable rest = leads_to 1 store locals (trap Unreachable)
reduce_plain setting store locals values instruction.Nop rest = leads_to 1 store locals (instructions values rest)
-- a branch and a return reduce at the label or the frame that they leave
reduce_plain setting store locals values (instruction.Br l) rest = None
reduce_plain setting store locals values instruction.Return rest = None
-- br_if: a br where the condition isn't zero, and else nothing
reduce_plain setting store locals values (instruction.BrIf l) rest =
    with_one I32 values (λ condition below.
    if condition == 0 then leads_to 1 store locals (instructions below rest)
    else leads_to 1 store locals (instructions below (plain (instruction.Br l) rest)))
reduce_plain setting store locals values (instruction.Call function) rest = leads_to 1 store locals (invoke values function rest)
reduce_plain setting store locals values (instruction.CallIndirect x) rest = reduce_call_indirect (setting.module_syntax) store locals values x rest
reduce_plain setting store locals values instruction.Drop rest = reduce_drop store locals values rest
reduce_plain setting store locals values instruction.Select rest = reduce_select store locals values rest
reduce_plain setting store locals values (instruction.LocalGet x) rest = reduce_local_get store locals values x rest
reduce_plain setting store locals values (instruction.LocalSet x) rest = reduce_local_set store locals values x rest
reduce_plain setting store locals values (instruction.LocalTee x) rest = reduce_local_tee store locals values x rest
reduce_plain setting store locals values (instruction.GlobalGet x) rest = reduce_global_get store locals values x rest
reduce_plain setting store locals values (instruction.GlobalSet x) rest = reduce_global_set store locals values x rest
reduce_plain setting store locals values (instruction.Load op arg) rest = reduce_load (setting.module_syntax) store locals values op arg rest
reduce_plain setting store locals values (instruction.Store op arg) rest = reduce_store (setting.module_syntax) store locals values op arg rest
reduce_plain setting store locals values instruction.MemorySize rest = reduce_size (setting.module_syntax) store locals values rest
reduce_plain setting store locals values instruction.MemoryGrow rest = reduce_grow (setting.module_syntax) store locals values rest
-- a constant is a value, and joins the others
reduce_plain setting store locals values (instruction.Const v) rest = leads_to 0 store locals (instructions (v ∷ values) rest)
reduce_plain setting store locals values (instruction.Unary t op) rest = reduce_unary store locals values t op rest
reduce_plain setting store locals values (instruction.Binary t op) rest = reduce_binary store locals values t op rest
reduce_plain setting store locals values (instruction.Test t op) rest = reduce_test store locals values t op rest
reduce_plain setting store locals values (instruction.Relation t op) rest = reduce_relation store locals values t op rest
reduce_plain setting store locals values (instruction.Convert op) rest = reduce_convert store locals values op rest
