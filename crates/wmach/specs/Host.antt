-- The host functions (WebAssembly Core 1.0, 4.4.7): what the functions that a module imports do.
use Rattle.std.specs.Prelude.{ℕ, ◌+◌, ◌/◌, ◌%◌, ◌^◌, List, [], ◌∷◌, Bool, ◌&&◌, Option, Some, None, option_and_then, length, slice_get, nat_lt, nat_le, if◌then◌else◌}
use Rattle.wcode.specs.declared.value.ValueType.TheVariants.{I32}
use Rattle.wcode.specs.declared.value.Value.{Value}
use Rattle.wcode.specs.declared.value.Value.TheVariants as value
use Rattle.wcode.specs.Syntax.{Body}
use Rattle.wmem.specs.Access.{with_bytes}
use Rattle.wmodule.specs.declared.module.ImportKind.{ImportKind}
use Rattle.wmodule.specs.declared.module.ImportKind.TheVariants as imported
use Rattle.wmodule.specs.Syntax.{ImportSyntax, ModuleSyntax}
use Rattle.wbody.specs.Context.{is_there}
use Rattle.wtype.specs.Accepted.{ImportName, host_number}
use Rattle.rules.specs.declared.trap.Trap.TheVariants.{HostOutOfBounds, NoRecord}
use Rattle.wmach.specs.Configuration.{Store, Setting, instructions, trap, Reduction, leads_to}
use Rattle.wmach.specs.Operands.{with_two}

-- the name of an imported function before the others, if the import is one
abbrev pub imported_name : ImportName → ImportKind → List ImportName → List ImportName
imported_name name (imported.Function t) others = name ∷ others
imported_name name (imported.Table l) others = others
imported_name name (imported.Memory l) others = others
imported_name name (imported.Global t) others = others

-- the names of the imported functions, each with its module's, in the order of their indices
abbrev pub imported_names : List ImportSyntax → List ImportName
imported_names [] = []
imported_names (i ∷ is) = imported_name (i.module_name, i.name) i.kind (imported_names is)

-- what it costs to write so many bytes: one for each 256 that are begun
abbrev pub cost_of_bytes : ℕ → ℕ
cost_of_bytes n = (n + 255) / 256

-- the bytes lie within the memory from this address on
abbrev pub has_room : ModuleSyntax → Store → (address count : ℕ) → Bool
has_room m store address count = is_there m.memories && nat_le (address + count) (length store.memory)

-- A record for which there is so much room at an address. Its length is answered, as an i32. It is
-- written whole where it is no longer than the limit, and else not at all; a write that would pass
-- the memory's end is cut off.
abbrev pub hand_over : ModuleSyntax → Store → (locals below : List Value) → (address limit : ℕ) → (bytes : List ℕ) → (rest : Body) → Option Reduction
hand_over m store locals below address limit bytes rest =
    let answered = instructions (value.I32 (length bytes % 2 ^ 32) ∷ below) rest in
    if nat_lt limit (length bytes) then leads_to 0 store locals answered
    else if has_room m store address (length bytes)
    then leads_to (cost_of_bytes (length bytes)) (record store { memory = with_bytes store.memory address bytes }) locals answered
    else leads_to 0 store locals (trap HostOutOfBounds)

-- the record, if it is given
abbrev pub hand_over_given : ModuleSyntax → Store → (locals below : List Value) → (address limit : ℕ) → Option (List ℕ) → (rest : Body) → Option Reduction
hand_over_given m store locals below address limit None rest = leads_to 0 store locals (trap NoRecord)
hand_over_given m store locals below address limit (Some bytes) rest = hand_over m store locals below address limit bytes rest

-- a host function by the record that it hands over: [i32 i32] to [i32], from an address and a limit
abbrev pub reduce_host : Setting → Store → (locals values : List Value) → (import : ℕ) → (rest : Body) → Option Reduction
reduce_host setting store locals values import rest =
    with_two I32 values (λ address limit below. hand_over_given setting.module_syntax store locals below address limit (setting.records import) rest)

-- The imported function with this index. The number of a host function is that of the record that
-- it hands over.
abbrev pub reduce_import : Setting → Store → (locals values : List Value) → (function : ℕ) → (rest : Body) → Option Reduction
reduce_import setting store locals values function rest =
    option_and_then (λ name. option_and_then (λ import. reduce_host setting store locals values import rest) (host_number name))
    (slice_get (imported_names setting.module_syntax.imports) function)
