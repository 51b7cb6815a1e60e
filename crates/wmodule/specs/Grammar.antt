-- How bytes spell modules (WebAssembly Core 1.0, 5.1.3, 5.3 and 5.5).
-- In each relation over three things the bytes are a spelling of something, and then the rest.
use Rattle.std.specs.Prelude.{◌≡◌, ℕ, ◌<◌, ◌≤◌, ◌⊎◌, List, [], ◌∷◌, ◌++◌, length, Option, Some, None, option_map, Bool, true, false, replicate, find, flat_map, ◌==◌}
use Rattle.std.specs.Str.{IsUtf8}
use Rattle.wcode.specs.declared.value.ValueType.{ValueType}
use Rattle.wcode.specs.declared.value.ValueType.TheVariants.{I32, I64}
use Rattle.wcode.specs.Grammar.{SpellsIndex, SpellsExpr}
use Rattle.wmodule.specs.declared.module.Limits.{Limits}
use Rattle.wmodule.specs.declared.module.GlobalType.{GlobalType}
use Rattle.wmodule.specs.declared.module.ImportKind.{ImportKind}
use Rattle.wmodule.specs.declared.module.ImportKind.TheVariants as imported
use Rattle.wmodule.specs.declared.module.ExportKind.{ExportKind}
use Rattle.wmodule.specs.declared.module.ExportKind.TheVariants as exported
use Rattle.wmodule.specs.Syntax.{Signature, ImportSyntax, FunctionSyntax, GlobalSyntax, ExportSyntax, ElementSyntax, DataSyntax, ModuleSyntax, Code, functions_with}

-- what spells something of a kind
abbrev pub Spelling : Type 0 → Type 1
Spelling A = List ℕ → A → List ℕ → Type 0

-- ---- parts that several sections share

-- the bytes are this byte, and then the rest
abbrev pub Byte : ℕ → List ℕ → List ℕ → Type 0
Byte b bytes rest = bytes ≡ b ∷ rest

-- one thing after the other
unfoldable pub SpellsEach : {A : Type 0} → Spelling A → List ℕ → List A → List ℕ → Type 0
SpellsEach S bytes [] rest = bytes ≡ rest
SpellsEach S bytes (x ∷ xs) rest = (more : List ℕ) × S bytes x more × SpellsEach S more xs rest

-- a vector: how many things, and the things (5.1.3)
abbrev pub SpellsVector : {A : Type 0} → Spelling A → Spelling (List A)
SpellsVector S bytes xs rest = (more : List ℕ) × SpellsIndex bytes (length xs) more × SpellsEach S more xs rest

-- bytes with their number before them
abbrev pub SpellsBytes : Spelling (List ℕ)
SpellsBytes bytes contents rest = SpellsIndex bytes (length contents) (contents ++ rest)

-- a name: bytes in UTF-8 (5.2.4)
abbrev pub SpellsName : Spelling (List ℕ)
SpellsName bytes name rest = SpellsBytes bytes name rest × IsUtf8 name

-- a value type (5.3.1)
abbrev pub value_type_byte : ValueType → ℕ
value_type_byte I32 = 0x7F
value_type_byte I64 = 0x7E

abbrev pub SpellsValueType : Spelling ValueType
SpellsValueType bytes type rest = Byte (value_type_byte type) bytes rest

-- a function type: parameters, and at most one result (5.3.3)
abbrev pub results_listed : Option ValueType → List ValueType
results_listed None = []
results_listed (Some t) = t ∷ []

abbrev pub SpellsResults : Spelling (Option ValueType)
SpellsResults bytes result rest = SpellsVector SpellsValueType bytes (results_listed result) rest

abbrev pub SpellsFunctionType : Spelling Signature
SpellsFunctionType bytes type rest =
    (takes gives : List ℕ) × Byte 0x60 bytes takes × SpellsVector SpellsValueType takes (type.parameters) gives
    × SpellsResults gives type.result rest

-- the least size, and the greatest where there is one (5.3.4)
abbrev pub SpellsLimits : Spelling Limits
SpellsLimits bytes limits rest =
    ((more : List ℕ) × Byte 0 bytes more × (limits.most ≡ None) × SpellsIndex more (limits.least) rest)
    ⊎ ((more last : List ℕ) × (most : ℕ) × Byte 1 bytes more × (limits.most ≡ Some most)
    × SpellsIndex more (limits.least) last × SpellsIndex last most rest)

-- a table's element type, and its limits (5.3.6)
abbrev pub SpellsTableType : Spelling Limits
SpellsTableType bytes limits rest = (more : List ℕ) × Byte 0x70 bytes more × SpellsLimits more limits rest

-- what a global holds, and whether it can be written (5.3.7)
abbrev pub mutable_byte : Bool → ℕ
mutable_byte false = 0
mutable_byte true = 1

abbrev pub SpellsMutable : Spelling Bool
SpellsMutable bytes mutable rest = Byte (mutable_byte mutable) bytes rest

abbrev pub SpellsGlobalType : Spelling GlobalType
SpellsGlobalType bytes type rest = (more : List ℕ) × SpellsValueType bytes type.value more × SpellsMutable more type.mutable rest

-- ---- the entries of sections

-- the byte of an import's kind, and behind it the index of its type or its type (5.5.5)
abbrev pub import_byte : ImportKind → ℕ
import_byte (imported.Function type) = 0
import_byte (imported.Table limits) = 1
import_byte (imported.Memory limits) = 2
import_byte (imported.Global type) = 3

abbrev pub SpellsImported : Spelling ImportKind
SpellsImported bytes (imported.Function type) rest = SpellsIndex bytes type rest
SpellsImported bytes (imported.Table limits) rest = SpellsTableType bytes limits rest
SpellsImported bytes (imported.Memory limits) rest = SpellsLimits bytes limits rest
SpellsImported bytes (imported.Global type) rest = SpellsGlobalType bytes type rest

abbrev pub SpellsImportKind : Spelling ImportKind
SpellsImportKind bytes kind rest = (more : List ℕ) × Byte (import_byte kind) bytes more × SpellsImported more kind rest

-- an import: the names of a module and of a thing in it, and what it is (5.5.5)
abbrev pub SpellsImport : Spelling ImportSyntax
SpellsImport bytes i rest =
    (name kind : List ℕ) × SpellsName bytes i.module_name name × SpellsName name i.name kind × SpellsImportKind kind i.kind rest

-- a global: its type, and the expression of its first value (5.5.9)
abbrev pub SpellsGlobal : Spelling GlobalSyntax
SpellsGlobal bytes g rest = (more : List ℕ) × SpellsGlobalType bytes g.kind more × SpellsExpr more g.first rest

-- the byte of an export's kind (5.5.10)
abbrev pub export_byte : ExportKind → ℕ
export_byte exported.Function = 0
export_byte exported.Table = 1
export_byte exported.Memory = 2
export_byte exported.Global = 3

abbrev pub SpellsExportKind : Spelling ExportKind
SpellsExportKind bytes kind rest = Byte (export_byte kind) bytes rest

-- an export: its name, its kind, and the index of what it names (5.5.10)
abbrev pub SpellsExport : Spelling ExportSyntax
SpellsExport bytes e rest =
    (kind index : List ℕ) × SpellsName bytes e.name kind × SpellsExportKind kind e.kind index × SpellsIndex index e.index rest

-- an element segment: a table, an offset, and the indices of functions (5.5.12)
abbrev pub SpellsElement : Spelling ElementSyntax
SpellsElement bytes s rest =
    (offset functions : List ℕ) × SpellsIndex bytes s.table offset × SpellsExpr offset s.offset functions
    × SpellsVector SpellsIndex functions s.functions rest

-- a data segment: a memory, an offset, and bytes (5.5.14)
abbrev pub SpellsData : Spelling DataSyntax
SpellsData bytes s rest =
    (offset contents : List ℕ) × SpellsIndex bytes s.memory offset × SpellsExpr offset s.offset contents
    × SpellsBytes contents s.bytes rest

-- so many locals of one type (5.5.13)
abbrev pub SpellsRun : Spelling (ℕ × ValueType)
SpellsRun bytes run rest = (more : List ℕ) × SpellsIndex bytes run.0 more × SpellsValueType more run.1 rest

-- the locals of runs, one after the other
abbrev pub run_locals : List (ℕ × ValueType) → List ValueType
run_locals runs = flat_map (λ run. replicate run.0 run.1) runs

-- a function's code: its size, and in as many bytes its locals in runs and its body (5.5.13)
abbrev pub SpellsCode : Spelling Code
SpellsCode bytes code rest =
    (contents body : List ℕ) × (runs : List (ℕ × ValueType)) × SpellsBytes bytes contents rest
    × SpellsVector SpellsRun contents runs body × (code.locals ≡ run_locals runs) × SpellsExpr body code.body []

-- ---- sections

-- a section: its number, and its contents
pub record Section : Type 0 where
  pub id : ℕ
  pub contents : List ℕ

-- a section: its number as one byte, the size of its contents, and the contents (5.5.2)
abbrev pub SpellsSection : Spelling Section
SpellsSection bytes s rest = (more : List ℕ) × Byte s.id bytes more × SpellsBytes more s.contents rest

-- a custom section, which leaves no trace, begins with a name (5.5.3)
abbrev pub IsCustom : Section → Type 0
IsCustom s = (s.id ≡ 0) × ((name rest : List ℕ) × SpellsName s.contents name rest)

-- Sections in their order: each number above those before it and at most 11. Custom sections stand
-- anywhere (5.5.15).
unfoldable pub InOrder : (above : ℕ) → List Section → Type 0
InOrder above [] = Unit {0}
InOrder above (s ∷ more) =
    (IsCustom s × InOrder above more) ⊎ ((above < s.id) × (s.id ≤ 11) × InOrder s.id more)

-- the contents of the section with this number, if it is there
abbrev pub contents_of : ℕ → List Section → Option (List ℕ)
contents_of id sections = option_map (λ s. s.contents) (find (λ s. s.id == id) sections)

-- The section with this number has a vector of such things, which fills it. Where it is absent
-- there are none.
abbrev pub Lists : {A : Type 0} → Spelling A → Option (List ℕ) → List A → Type 0
Lists S None xs = xs ≡ []
Lists S (Some contents) xs = SpellsVector S contents xs []

-- the start section has the index of a function (5.5.11)
abbrev pub Starts : Option (List ℕ) → Option ℕ → Type 0
Starts None start = start ≡ None
Starts (Some contents) start = (index : ℕ) × (start ≡ Some index) × SpellsIndex contents index []

-- The functions, whose types stand in one section and whose code in another, as many in one as in
-- the other (5.5.15).
pub record Functions (signatures codes : Option (List ℕ)) (functions : List FunctionSyntax) : Type 0 where
  pub indices : List ℕ
  pub bodies : List Code
  pub types_listed : Lists SpellsIndex signatures indices
  pub bodies_listed : Lists SpellsCode codes bodies
  pub as_many : length indices ≡ length bodies
  pub functions_are : functions ≡ functions_with indices bodies

-- the module that sections in their order spell
pub record Assembles (sections : List Section) (m : ModuleSyntax) : Type 0 where
  pub types : Lists SpellsFunctionType (contents_of 1 sections) m.types
  pub imports : Lists SpellsImport (contents_of 2 sections) m.imports
  pub functions : Functions (contents_of 3 sections) (contents_of 10 sections) m.functions
  pub tables : Lists SpellsTableType (contents_of 4 sections) m.tables
  pub memories : Lists SpellsLimits (contents_of 5 sections) m.memories
  pub globals : Lists SpellsGlobal (contents_of 6 sections) m.globals
  pub exports : Lists SpellsExport (contents_of 7 sections) m.exports
  pub start : Starts (contents_of 8 sections) m.start
  pub element_segments : Lists SpellsElement (contents_of 9 sections) m.element_segments
  pub data_segments : Lists SpellsData (contents_of 11 sections) m.data_segments

-- `\0asm`, and version 1 (5.5.15)
abbrev pub header : List ℕ
header = 0x00 ∷ 0x61 ∷ 0x73 ∷ 0x6D ∷ 0x01 ∷ 0x00 ∷ 0x00 ∷ 0x00 ∷ []

-- Bytes spell a module: not too many, a header, and sections in their order.
pub record Spells (bytes : List ℕ) (m : ModuleSyntax) : Type 0 where
  pub sections : List Section
  pub rest : List ℕ
  pub short : length bytes ≤ 1048576
  pub headed : bytes ≡ header ++ rest
  pub sectioned : SpellsEach SpellsSection rest sections []
  pub ordered : InOrder 0 sections
  pub assembled : Assembles sections m
