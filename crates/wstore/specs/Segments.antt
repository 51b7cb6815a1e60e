-- What a module's segments write (WebAssembly Core 1.0, 4.5.4), and where they are in bounds.
use Rattle.std.specs.Prelude.{ℕ, ◌+◌, ◌≤◌, List, ◌++◌, Some, map, length, take, drop}
use Rattle.wcode.specs.declared.value.Value.{Value}
use Rattle.wcode.specs.declared.value.Value.TheVariants.{I32, I64}
use Rattle.wcode.specs.declared.instruction.Plain.TheVariants.{Const}
use Rattle.wcode.specs.Syntax.{Body, done, plain}
use Rattle.wmem.specs.Access.{with_bytes}
use Rattle.wmodule.specs.Syntax.{ElementSyntax, DataSyntax}
use Rattle.wstore.specs.Store.{Store}

-- the place that a value gives, which is an i32
abbrev pub place_of : Value → ℕ
place_of (I32 n) = n
place_of (I64 n) = 0

-- the place that an offset's expression gives, which is one i32 in an accepted module
abbrev pub offset_of : Body → ℕ
offset_of (plain (Const v) done) = place_of v
offset_of _ = 0

-- a list with others in place of those from a place on
abbrev pub overwritten : {A : Type 0} → List A → ℕ → List A → List A
overwritten items at new = take at items ++ new ++ drop (at + length new) items

-- All of the segment lies within the table. An empty one does so where its offset is at most the
-- size.
abbrev pub ElementsFit : ElementSyntax → Store → Type 0
ElementsFit s store = offset_of s.offset + length s.functions ≤ length store.table

-- all of the segment lies within the memory, likewise
abbrev pub DataFits : DataSyntax → Store → Type 0
DataFits s store = offset_of s.offset + length s.bytes ≤ length store.memory

-- the store with the segment's functions in its table
abbrev pub with_elements : ElementSyntax → Store → Store
with_elements s store = record store { table = overwritten store.table (offset_of s.offset) (map Some s.functions) }

-- the store with the segment's bytes in its memory
abbrev pub with_data : DataSyntax → Store → Store
with_data s store = record store { memory = with_bytes store.memory (offset_of s.offset) s.bytes }
