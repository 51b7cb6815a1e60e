-- Which modules are accepted (WebAssembly Core 1.0, 3.4): each body is typed, each index names
-- something, and what this project asks of imports, exports and sizes.
use Rattle.std.specs.Prelude.{◌≡◌, ◌≢◌, ℕ, ◌+◌, ◌<◌, ◌≤◌, List, [], ◌∷◌, ◌⊎◌, Option, Some, None, IfSome, IsSome, IsTrue, length, slice_get, if◌then◌else◌, ◌&&◌, codes}
use Rattle.std.specs.List.{AllByRecursion}
use Rattle.std.specs.Str.{bytes_eq}
use Rattle.wcode.specs.declared.value.ValueType.{ValueType}
use Rattle.wcode.specs.declared.value.ValueType.TheVariants.{I32, I64}
use Rattle.wcode.specs.declared.value.Value.{Value}
use Rattle.wcode.specs.declared.instruction.Plain.TheVariants.{Const}
use Rattle.wcode.specs.Operators.{type_of}
use Rattle.wcode.specs.Syntax.{Body, done, plain}
use Rattle.wmodule.specs.declared.module.Limits.{Limits}
use Rattle.wmodule.specs.declared.module.ImportKind.{ImportKind}
use Rattle.wmodule.specs.declared.module.ImportKind.TheVariants as imported
use Rattle.wmodule.specs.declared.module.ExportKind.{ExportKind}
use Rattle.wmodule.specs.declared.module.ExportKind.TheVariants as exported
use Rattle.wmodule.specs.Syntax.{Signature, ImportSyntax, FunctionSyntax, GlobalSyntax, ExportSyntax, ElementSyntax, DataSyntax, ModuleSyntax}
use Rattle.wbody.specs.Context.{at_most_one, function_types, body_context}
use Rattle.wbody.specs.Typing.{Typed, is_in_range}
use Rattle.wbody.specs.Heights.{greatest_height}

-- ---- imports

-- what a function is imported by: the name of its module, and its own
abbrev pub ImportName : Type 0
ImportName = List ℕ × List ℕ

-- The functions of the host. A function's number is its place: those that hand over the records of
-- version 1, of the pod and of the node, then those of version 2, and those of version 3.
abbrev pub host_functions : List ImportName
host_functions =
    (codes "sched", codes "pod") ∷ (codes "sched", codes "node")
    ∷ (codes "sched2", codes "pod") ∷ (codes "sched2", codes "node")
    ∷ (codes "sched3", codes "pod") ∷ (codes "sched3", codes "node") ∷ []

-- the place of a name among these, which are counted from here
abbrev pub place_among : List ImportName → (from : ℕ) → ImportName → Option ℕ
place_among [] from name = None
place_among (f ∷ fs) from name = if bytes_eq name.0 f.0 && bytes_eq name.1 f.1 then Some from else place_among fs (from + 1) name

-- the number of the host's function of this name, if there is one
abbrev pub host_number : ImportName → Option ℕ
host_number name = place_among host_functions 0 name

-- their type: where to write, and the most bytes; the answer is how many bytes there are
abbrev pub host_type : Signature
host_type = record { parameters = I32 ∷ I32 ∷ []; result = Some I32 }

-- what is imported is a function of this type
abbrev pub IsImportOf : ModuleSyntax → Signature → ImportKind → Type 0
IsImportOf m type (imported.Function index) = slice_get m.types index ≡ Some type
IsImportOf m type (imported.Table l) = ⊥
IsImportOf m type (imported.Memory l) = ⊥
IsImportOf m type (imported.Global t) = ⊥

-- One of the host's functions. Each may be imported any number of times.
pub record ImportAllowed (m : ModuleSyntax) (i : ImportSyntax) : Type 0 where
  pub named : IsSome (host_number (i.module_name, i.name))
  pub typed : IsImportOf m host_type i.kind

abbrev pub ImportsRight : ModuleSyntax → Type 0
ImportsRight m = AllByRecursion (ImportAllowed m) m.imports

-- ---- typing

-- A function: its type is there, and its body takes no operands and leaves the result (3.4.1).
pub record FunctionTyped (m : ModuleSyntax) (f : FunctionSyntax) : Type 0 where
  pub type : Signature
  pub type_is : slice_get m.types (f.signature) ≡ Some type
  pub body : Typed (body_context m type f.locals) f.body [] (at_most_one type.result)

-- the least is at most the greatest, and both are at most this (3.2.1)
pub record LimitsRight (range : ℕ) (l : Limits) : Type 0 where
  pub least : l.least ≤ range
  pub most : IfSome l.most (λ most. (l.least ≤ most) × (most ≤ range))

-- the most pages of a memory, and the most elements of a table (3.2.3, 3.2.4)
abbrev pub memory_range : ℕ
memory_range = 65536

abbrev pub table_range : ℕ
table_range = 4294967296

-- An expression that is one constant of this type. No global is read by any.
pub record ConstantOf (t : ValueType) (e : Body) : Type 0 where
  pub value : Value
  pub is : e ≡ plain (Const value) done
  pub in_range : IsTrue (is_in_range value)
  pub typed : type_of value ≡ t

-- a global's first value is of its type (3.4.4)
abbrev pub GlobalTyped : GlobalSyntax → Type 0
GlobalTyped g = ConstantOf g.kind.value g.first

-- the function with this index has this type
abbrev pub HasType : ModuleSyntax → Signature → (index : ℕ) → Type 0
HasType m type index = slice_get (function_types m) index ≡ Some (Some type)

-- it takes nothing and gives nothing
abbrev pub start_type : Signature
start_type = record { parameters = []; result = None }

-- an element segment: its table and its functions are there, and its offset is an i32 (3.4.5)
pub record ElementTyped (m : ModuleSyntax) (s : ElementSyntax) : Type 0 where
  pub table : s.table < length m.tables
  pub offset : ConstantOf I32 s.offset
  pub functions : AllByRecursion (λ index. index < length (function_types m)) s.functions

-- a data segment: its memory is there, and its offset is an i32 (3.4.6)
pub record DataTyped (m : ModuleSyntax) (s : DataSyntax) : Type 0 where
  pub memory : s.memory < length m.memories
  pub offset : ConstantOf I32 s.offset

-- the export names something that is there (3.4.8)
abbrev pub NamesSomething : ModuleSyntax → ExportKind → ℕ → Type 0
NamesSomething m exported.Function index = index < length (function_types m)
NamesSomething m exported.Table index = index < length m.tables
NamesSomething m exported.Memory index = index < length m.memories
NamesSomething m exported.Global index = index < length m.globals

-- no two of them have one name
abbrev pub DistinctNames : List ExportSyntax → Type 0
DistinctNames [] = Unit {0}
DistinctNames (e ∷ es) = AllByRecursion (λ other. e.name ≢ other.name) es × DistinctNames es

-- Every export names something, and no two have one name (3.4.10).
pub record ExportsNamed (m : ModuleSyntax) : Type 0 where
  pub named : AllByRecursion (λ e. NamesSomething m e.kind e.index) m.exports
  pub distinct : DistinctNames m.exports

-- The rules of a module but for its bodies (3.4.10), where nothing but functions is imported.
pub record RulesKept (m : ModuleSyntax) : Type 0 where
  pub types_there : AllByRecursion (λ f. IsSome (slice_get m.types f.signature)) m.functions
  pub one_table : length m.tables ≤ 1
  pub tables : AllByRecursion (LimitsRight table_range) m.tables
  pub one_memory : length m.memories ≤ 1
  pub memories : AllByRecursion (LimitsRight memory_range) m.memories
  pub globals : AllByRecursion GlobalTyped m.globals
  pub exports : ExportsNamed m
  pub start : IfSome m.start (HasType m start_type)
  pub elements : AllByRecursion (ElementTyped m) m.element_segments
  pub data_segments : AllByRecursion (DataTyped m) m.data_segments

-- The module keeps the rules, and each body is typed.
pub record ModuleTyped (m : ModuleSyntax) : Type 0 where
  pub rules : RulesKept m
  pub functions : AllByRecursion (FunctionTyped m) m.functions

-- ---- exports that are called

-- the names of the exports that are called
abbrev pub filter_name : List ℕ
filter_name = codes "filter"

abbrev pub score_name : List ℕ
score_name = codes "score"

-- without parameters, and with this result
abbrev pub gives : ValueType → Signature
gives t = record { parameters = []; result = Some t }

-- the types of the exports that are called: a filter gives an i32, a score an i64
abbrev pub filter_type : Signature
filter_type = gives I32

abbrev pub score_type : Signature
score_type = gives I64

-- an export that is a function of this type
abbrev pub IsFunctionOf : ModuleSyntax → Signature → ExportSyntax → Type 0
IsFunctionOf m type e = (e.kind ≡ exported.Function) × HasType m type e.index

-- the first export of this name
abbrev pub export_named : List ℕ → List ExportSyntax → Option ExportSyntax
export_named name [] = None
export_named name (e ∷ es) = if bytes_eq e.name name then Some e else export_named name es

-- The exports that are called: one of that name is a function of its type, and one of the two is
-- there.
pub record ExportsRight (m : ModuleSyntax) : Type 0 where
  pub filter : IfSome (export_named filter_name m.exports) (IsFunctionOf m filter_type)
  pub score : IfSome (export_named score_name m.exports) (IsFunctionOf m score_type)
  pub called : IsSome (export_named filter_name m.exports) ⊎ IsSome (export_named score_name m.exports)

-- ---- sizes

-- the most parameters, locals and operands of a function together
abbrev pub most_slots : ℕ
most_slots = 1024

-- the most pages that a memory begins with, the most elements of a table, and the most globals
abbrev pub most_pages : ℕ
most_pages = 32

abbrev pub most_elements : ℕ
most_elements = 1024

abbrev pub most_globals : ℕ
most_globals = 1024

-- how many parameters, locals and operands a function of this type has at most
abbrev pub slots_of : ModuleSyntax → Signature → FunctionSyntax → ℕ
slots_of m type f =
    length type.parameters + length f.locals + greatest_height (body_context m type f.locals) f.body 0 0

-- a function with a type has no more than there may be
abbrev pub FunctionSmall : ModuleSyntax → FunctionSyntax → Type 0
FunctionSmall m f = IfSome (slice_get m.types f.signature) (λ type. slots_of m type f ≤ most_slots)

-- nothing is larger than it may be
pub record ModuleSmall (m : ModuleSyntax) : Type 0 where
  pub functions : AllByRecursion (FunctionSmall m) m.functions
  pub memories : AllByRecursion (λ l. l.least ≤ most_pages) m.memories
  pub tables : AllByRecursion (λ l. l.least ≤ most_elements) m.tables
  pub globals : length m.globals ≤ most_globals

-- ---- all of it

-- An accepted module. What isn't so is told in this order.
pub record Accepted (m : ModuleSyntax) : Type 0 where
  pub imports : ImportsRight m
  pub typed : ModuleTyped m
  pub exports : ExportsRight m
  pub small : ModuleSmall m
