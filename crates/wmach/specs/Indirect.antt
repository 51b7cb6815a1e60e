-- A call through the table (WebAssembly Core 1.0, 4.4.5, call_indirect).
use Rattle.std.specs.Prelude.{ℕ, List, Bool, true, false, ◌&&◌, Option, Some, None, option_and_then, slice_get, if◌then◌else◌}
use Rattle.wcode.specs.declared.value.ValueType.{ValueType}
use Rattle.wcode.specs.declared.value.ValueType.TheVariants.{I32}
use Rattle.wcode.specs.declared.value.Value.{Value}
use Rattle.wcode.specs.Syntax.{Body}
use Rattle.wmodule.specs.Syntax.{Signature, ModuleSyntax}
use Rattle.wbody.specs.Context.{function_types, is_there}
use Rattle.wbody.specs.Pass.{same_type, same_types}
use Rattle.rules.specs.declared.trap.Trap.TheVariants.{UndefinedElement, UninitializedElement, SignatureMismatch}
use Rattle.wmach.specs.Configuration.{Store, invoke, trap, Reduction, leads_to}
use Rattle.wmach.specs.Operands.{with_one}

abbrev pub same_result : Option ValueType → Option ValueType → Bool
same_result None None = true
same_result None (Some u) = false
same_result (Some t) None = false
same_result (Some t) (Some u) = same_type t u

-- Types are compared by what they are: two that the module lists under different indices can be one
-- (2.3.3).
abbrev pub same_signature : Signature → Signature → Bool
same_signature t u = same_types t.parameters u.parameters && same_result t.result u.result

-- the type of the function with this index
abbrev pub type_of_function : ModuleSyntax → ℕ → Option Signature
type_of_function m function = option_and_then (λ type. type) (slice_get (function_types m) function)

-- a call of the function, where it is of the type that is wanted
abbrev pub call_as : ModuleSyntax → Store → (locals below : List Value) → (wanted : Signature) → (function : ℕ) → (rest : Body) → Option Reduction
call_as m store locals below wanted function rest =
    option_and_then (λ type. if same_signature type wanted then leads_to 1 store locals (invoke below function rest) else leads_to 1 store locals (trap SignatureMismatch))
    (type_of_function m function)

-- a call of what the table has at a place: past its end, nothing, or a function
abbrev pub call_element : ModuleSyntax → Store → (locals below : List Value) → (wanted : Signature) → Option (Option ℕ) → (rest : Body) → Option Reduction
call_element m store locals below wanted None rest = leads_to 1 store locals (trap UndefinedElement)
call_element m store locals below wanted (Some None) rest = leads_to 1 store locals (trap UninitializedElement)
call_element m store locals below wanted (Some (Some function)) rest = call_as m store locals below wanted function rest

-- call_indirect x, in a module that has a table
abbrev pub reduce_call_indirect : ModuleSyntax → Store → (locals values : List Value) → (x : ℕ) → (rest : Body) → Option Reduction
reduce_call_indirect m store locals values x rest =
    if is_there m.tables
    then option_and_then (λ wanted. with_one I32 values (λ i below. call_element m store locals below wanted (slice_get store.table i) rest)) (slice_get m.types x)
    else None
