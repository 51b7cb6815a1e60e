-- The memory instructions (WebAssembly Core 1.0, 4.4.4).
use Rattle.std.specs.Prelude.{ℕ, ◌+◌, ◌-◌, ◌*◌, ◌^◌, List, ◌∷◌, ◌++◌, Option, None, length, nat_le, if◌then◌else◌}
use Rattle.wcode.specs.declared.value.ValueType.TheVariants as types
use Rattle.wcode.specs.declared.value.Value.{Value}
use Rattle.wcode.specs.declared.value.Value.TheVariants as value
use Rattle.wcode.specs.declared.operator.Sign.TheVariants.{Signed, Unsigned}
use Rattle.wcode.specs.declared.operator.LoadOp.{LoadOp}
use Rattle.wcode.specs.declared.operator.LoadOp.TheVariants as loads
use Rattle.wcode.specs.declared.operator.StoreOp.{StoreOp}
use Rattle.wcode.specs.declared.operator.StoreOp.TheVariants as stores
use Rattle.wcode.specs.declared.instruction.MemArg.{MemArg}
use Rattle.wcode.specs.Operators.{load_type, store_type}
use Rattle.wcode.specs.Syntax.{Body}
use Rattle.wmem.specs.declared.access.Load.{Load}
use Rattle.wmem.specs.declared.access.Load.TheVariants as load
use Rattle.wmem.specs.declared.access.Width.{Width}
use Rattle.wmem.specs.declared.access.Width.TheVariants.{One, Two, Four, Eight}
use Rattle.wmem.specs.Bytes.{bytes_of}
use Rattle.wmem.specs.Access.{reading_of, byte_count, value_read, with_bytes}
use Rattle.wmem.specs.Memory.{page_size, pages_in, zeros}
use Rattle.wmodule.specs.Syntax.{ModuleSyntax}
use Rattle.wbody.specs.Context.{is_there}
use Rattle.rules.specs.declared.trap.Trap.TheVariants.{MemoryOutOfBounds}
use Rattle.wmach.specs.Configuration.{Store, instructions, trap, Reduction, leads_to}
use Rattle.wmach.specs.Operands.{value_of, with_one}
pub use Rattle.wstore.specs.Store.{most_of, cap_of}

-- the memory's load for an instruction's
abbrev pub load_of : LoadOp → Load
load_of (loads.Whole types.I32) = load.I32
load_of (loads.Whole types.I64) = load.I64
load_of (loads.Narrow8 types.I32 Signed) = load.I32Signed8
load_of (loads.Narrow8 types.I32 Unsigned) = load.I32Unsigned8
load_of (loads.Narrow8 types.I64 Signed) = load.I64Signed8
load_of (loads.Narrow8 types.I64 Unsigned) = load.I64Unsigned8
load_of (loads.Narrow16 types.I32 Signed) = load.I32Signed16
load_of (loads.Narrow16 types.I32 Unsigned) = load.I32Unsigned16
load_of (loads.Narrow16 types.I64 Signed) = load.I64Signed16
load_of (loads.Narrow16 types.I64 Unsigned) = load.I64Unsigned16
load_of (loads.Narrow32 Signed) = load.I64Signed32
load_of (loads.Narrow32 Unsigned) = load.I64Unsigned32

-- how much a store instruction writes
abbrev pub stored_width : StoreOp → Width
stored_width (stores.Whole types.I32) = Four
stored_width (stores.Whole types.I64) = Eight
stored_width (stores.Narrow8 t) = One
stored_width (stores.Narrow16 t) = Two
stored_width stores.Narrow32 = Four

-- the bytes that a store instruction writes
abbrev pub stored_bytes : StoreOp → (number : ℕ) → List ℕ
stored_bytes op number = bytes_of (byte_count (stored_width op)) number

-- this reduction, in a module that has a memory
abbrev pub with_memory : ModuleSyntax → Option Reduction → Option Reduction
with_memory m on = if is_there m.memories then on else None

-- what memory.grow answers where it fails: -1
abbrev pub minus_one : ℕ
minus_one = 2 ^ 32 - 1

-- t.load: from the operand plus the offset, which doesn't wrap
abbrev pub reduce_load : ModuleSyntax → Store → (locals values : List Value) → LoadOp → MemArg → (rest : Body) → Option Reduction
reduce_load m store locals values op arg rest =
    with_memory m (with_one types.I32 values (λ base below.
    let r = reading_of (load_of op) in
    if nat_le (base + arg.offset + r.bytes) (length store.memory)
    then leads_to 1 store locals (instructions (value_of (load_type op) (value_read r store.memory (base + arg.offset)) ∷ below) rest)
    else leads_to 1 store locals (trap MemoryOutOfBounds)))

-- t.store: likewise, and where it is cut off nothing is written
abbrev pub reduce_store : ModuleSyntax → Store → (locals values : List Value) → StoreOp → MemArg → (rest : Body) → Option Reduction
reduce_store m store locals values op arg rest =
    with_memory m (with_one (store_type op) values (λ number others. with_one types.I32 others (λ base below.
    let bytes = stored_bytes op number in
    if nat_le (base + arg.offset + length bytes) (length store.memory)
    then leads_to 1 (record store { memory = with_bytes store.memory (base + arg.offset) bytes }) locals (instructions below rest)
    else leads_to 1 store locals (trap MemoryOutOfBounds))))

-- memory.size, in pages
abbrev pub reduce_size : ModuleSyntax → Store → (locals values : List Value) → (rest : Body) → Option Reduction
reduce_size m store locals values rest =
    with_memory m (leads_to 1 store locals (instructions (value.I32 (pages_in store.memory) ∷ values) rest))

-- memory.grow: the old size, where the new one is no more than the memory's most; else nothing
-- changes
abbrev pub reduce_grow : ModuleSyntax → Store → (locals values : List Value) → (rest : Body) → Option Reduction
reduce_grow m store locals values rest =
    with_memory m (with_one types.I32 values (λ delta below.
    if nat_le (pages_in store.memory + delta) (cap_of m.memories)
    then leads_to 1 (record store { memory = store.memory ++ zeros (page_size * delta) }) locals (instructions (value.I32 (pages_in store.memory) ∷ below) rest)
    else leads_to 1 store locals (instructions (value.I32 minus_one ∷ below) rest)))
