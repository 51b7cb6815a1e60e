-- The abstract syntax of modules (WebAssembly Core 1.0, 2.5): what a module is seen as.
use Rattle.std.specs.Prelude.{ℕ, List, [], ◌∷◌, ◌++◌, Option, map, replicate, take, drop}
use Rattle.std.specs.List.{zip}
use Rattle.wcode.specs.declared.value.ValueType.{ValueType}
use Rattle.wcode.specs.Syntax.{Body}
use Rattle.wcode.specs.BodyAt.{body_at}
use Rattle.wmodule.specs.declared.module.FunctionType.{FunctionType}
use Rattle.wmodule.specs.declared.module.Limits.{Limits}
use Rattle.wmodule.specs.declared.module.GlobalType.{GlobalType}
use Rattle.wmodule.specs.declared.module.ImportKind.{ImportKind}
use Rattle.wmodule.specs.declared.module.Import.{Import}
use Rattle.wmodule.specs.declared.module.LocalRun.{LocalRun}
use Rattle.wmodule.specs.declared.module.Place.{Place}
use Rattle.wmodule.specs.declared.module.GlobalVariable.{GlobalVariable}
use Rattle.wmodule.specs.declared.module.ExportKind.{ExportKind}
use Rattle.wmodule.specs.declared.module.Export.{Export}
use Rattle.wmodule.specs.declared.module.ElementSegment.{ElementSegment}
use Rattle.wmodule.specs.declared.module.DataSegment.{DataSegment}
use Rattle.wmodule.specs.declared.module.FunctionCode.{FunctionCode}
use Rattle.wmodule.specs.declared.module.Tables.{Tables}

-- what a function takes, first operand first, and what it gives
pub record Signature : Type 0 where
  pub parameters : List ValueType
  pub result : Option ValueType

-- an import: the bytes of its two names, and what it is
pub record ImportSyntax : Type 0 where
  pub module_name : List ℕ
  pub name : List ℕ
  pub kind : ImportKind

-- a function of the module: the index of its type, the types of its locals behind the parameters,
-- its body
pub record FunctionSyntax : Type 0 where
  pub signature : ℕ
  pub locals : List ValueType
  pub body : Body

-- a global of the module, with the expression of its first value
pub record GlobalSyntax : Type 0 where
  pub kind : GlobalType
  pub first : Body

-- an export: the bytes of its name, and what it names
pub record ExportSyntax : Type 0 where
  pub name : List ℕ
  pub kind : ExportKind
  pub index : ℕ

-- indices of functions for a table, from the place that the expression gives
pub record ElementSyntax : Type 0 where
  pub table : ℕ
  pub offset : Body
  pub functions : List ℕ

-- bytes for a memory, from the place that the expression gives
pub record DataSyntax : Type 0 where
  pub memory : ℕ
  pub offset : Body
  pub bytes : List ℕ

-- a module
pub record ModuleSyntax : Type 0 where
  pub types : List Signature
  pub imports : List ImportSyntax
  pub functions : List FunctionSyntax
  pub tables : List Limits
  pub memories : List Limits
  pub globals : List GlobalSyntax
  pub exports : List ExportSyntax
  pub start : Option ℕ
  pub element_segments : List ElementSyntax
  pub data_segments : List DataSyntax

-- a function without its type: its locals and its body
pub record Code : Type 0 where
  pub locals : List ValueType
  pub body : Body

-- a function of its type's index and its code
abbrev pub function_with : ℕ → Code → FunctionSyntax
function_with signature code = record { signature = signature; locals = code.locals; body = code.body }

-- what the code's parts are seen as

abbrev pub signature_of : FunctionType → Signature
signature_of t = record { parameters = t.parameters.items; result = t.result }

abbrev pub import_of : Import → ImportSyntax
import_of i = record { module_name = i.module.items; name = i.name.items; kind = i.kind }

-- the locals of runs, one after the other
abbrev pub locals_of : List LocalRun → List ValueType
locals_of [] = []
locals_of (r ∷ rs) = replicate r.count r.value ++ locals_of rs

abbrev pub export_of : Export → ExportSyntax
export_of e = record { name = e.name.items; kind = e.kind; index = e.index }

-- what the code's parts with places are seen as, in these bytes

-- the expression that begins there
abbrev pub expression_in : List ℕ → Place → Body
expression_in bytes p = body_at (drop p.begin bytes)

-- the bytes from one place to the other
abbrev pub contents_in : List ℕ → Place → List ℕ
contents_in bytes p = drop p.begin (take p.end bytes)

abbrev pub code_in : List ℕ → FunctionCode → Code
code_in bytes c = record { locals = locals_of c.locals.items; body = expression_in bytes c.body }

abbrev pub global_in : List ℕ → GlobalVariable → GlobalSyntax
global_in bytes g = record { kind = g.kind; first = expression_in bytes g.first }

abbrev pub element_in : List ℕ → ElementSegment → ElementSyntax
element_in bytes s = record { table = s.table; offset = expression_in bytes s.offset; functions = s.functions.items }

abbrev pub data_in : List ℕ → DataSegment → DataSyntax
data_in bytes s = record { memory = s.memory; offset = expression_in bytes s.offset; bytes = contents_in bytes s.contents }

-- the functions of the indices of their types and as many codes
abbrev pub functions_with : List ℕ → List Code → List FunctionSyntax
functions_with signatures codes = map (λ f. function_with f.0 f.1) (zip signatures codes)

-- the module that tables describe, in these bytes
abbrev pub syntax_in : List ℕ → Tables → ModuleSyntax
syntax_in bytes t = record {
  types = map signature_of t.types.items;
  imports = map import_of t.imports.items;
  functions = functions_with t.signatures.items (map (code_in bytes) t.codes.items);
  tables = t.tables.items;
  memories = t.memories.items;
  globals = map (global_in bytes) t.globals.items;
  exports = map export_of t.exports.items;
  start = t.start;
  element_segments = map (element_in bytes) t.element_segments.items;
  data_segments = map (data_in bytes) t.data_segments.items;
}

-- what a decoded module is seen as: its bytes, and tables of what is where in them
pub record ModuleParts : Type 0 where
  pub bytes : List ℕ
  pub tables : Tables

-- the module that it is
abbrev pub module_of : ModuleParts → ModuleSyntax
module_of m = syntax_in m.bytes m.tables
