-- What the code's store is seen as, and what its calls do to it.
use Rattle.std.specs.Prelude.{◌≡◌, ℕ, ◌+◌, ◌*◌, ◌<◌, ◌≤◌, List, ◌++◌, length, slice_get, slice_set, Option, Some, None, Result, Ok, Err}
use Rattle.std.specs.Option.{option_map_or}
use Rattle.wcode.specs.declared.value.Value.{Value}
use Rattle.wcode.specs.Operators.{type_of}
use Rattle.wmem.specs.declared.trap.Trap.{Trap}
use Rattle.wmem.specs.Access.{with_bytes}
use Rattle.wmem.specs.Memory.{page_size, pages_in, zeros}
use Rattle.wmodule.specs.Syntax.{ModuleSyntax, module_of}
use Rattle.wtype.specs.CheckedModule.{CheckedModule}
use Rattle.wstore.specs.Values.{value_of}
use Rattle.wstore.specs.Store.{Store, cap_of, first_store}

-- its module, the store as it is, and the store that it can be brought back to
pub record StoreState : Type 0 where
  pub checked : CheckedModule
  pub current : Store
  pub image : Store

-- the module
abbrev pub syntax_of : StoreState → ModuleSyntax
syntax_of state = module_of state.checked.content

-- a new one: the module's first store, which is also the image
abbrev pub new_state : CheckedModule → StoreState
new_state checked = record {
  checked = checked;
  current = first_store (module_of checked.content);
  image = first_store (module_of checked.content);
}

-- the same module and image, and this store
abbrev pub with_current : StoreState → Store → StoreState
with_current state store = record { checked = state.checked; current = store; image = state.image }

-- globals, of which the one at this place has this number, in its own type
abbrev pub with_number : List Value → (place number : ℕ) → List Value
with_number globals place number =
    option_map_or (λ (old : Value). slice_set globals place (value_of (type_of old) number)) (slice_get globals place) globals

-- with this memory, and with these globals
abbrev pub with_memory : StoreState → List ℕ → StoreState
with_memory state bytes = with_current state (record state.current { memory = bytes })

abbrev pub with_globals : StoreState → List Value → StoreState
with_globals state globals = with_current state (record state.current { globals = globals })

-- a write's outcome: all the bytes stand at the address, or, where they would pass the memory's
-- end, nothing is written
abbrev pub StoreGives : Trap → StoreState → (address : ℕ) → List ℕ → Result (Unit {0}) Trap → StoreState → Type 0
StoreGives out_of_bounds old address bytes (Ok done) new =
    (address + length bytes ≤ length old.current.memory) × (new ≡ with_memory old (with_bytes old.current.memory address bytes))
StoreGives out_of_bounds old address bytes (Err trap) new =
    (length old.current.memory < address + length bytes) × (trap ≡ out_of_bounds) × (new ≡ old)

-- a growth's outcome: the old size in pages and that many more pages of zeros, or, where the
-- module's memory may not have as many, no change
abbrev pub GrowthGives : StoreState → (delta : ℕ) → Option ℕ → StoreState → Type 0
GrowthGives old delta (Some pages) new =
    (pages_in old.current.memory + delta ≤ cap_of (syntax_of old).memories) × (pages ≡ pages_in old.current.memory)
    × (new ≡ with_memory old (old.current.memory ++ zeros (page_size * delta)))
GrowthGives old delta None new = (cap_of (syntax_of old).memories < pages_in old.current.memory + delta) × (new ≡ old)
