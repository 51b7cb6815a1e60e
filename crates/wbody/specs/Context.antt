-- What the instructions of a body can refer to (WebAssembly Core 1.0, 3.1.1).
use Rattle.std.specs.Prelude.{List, [], ◌∷◌, ◌++◌, Bool, true, false, Option, Some, None, map, slice_get}
use Rattle.wcode.specs.declared.value.ValueType.{ValueType}
use Rattle.wcode.specs.declared.value.BlockType.{BlockType}
use Rattle.wcode.specs.declared.value.BlockType.TheVariants.{Empty, Result}
use Rattle.wmodule.specs.declared.module.GlobalType.{GlobalType}
use Rattle.wmodule.specs.declared.module.ImportKind.{ImportKind}
use Rattle.wmodule.specs.declared.module.ImportKind.TheVariants as imported
use Rattle.wmodule.specs.Syntax.{Signature, ImportSyntax, ModuleSyntax}

-- The types of operands, the topmost first.
abbrev pub Operands : Type 0
Operands = List ValueType

-- what is in reach of an instruction
pub record Context : Type 0 where
  -- the types that the module lists
  pub types : List Signature
  -- of each function, the imported ones first; none where an index names no type
  pub functions : List (Option Signature)
  pub has_table : Bool
  pub has_memory : Bool
  pub globals : List GlobalType
  -- the parameters and the other locals
  pub locals : List ValueType
  -- what a branch to each label carries, the innermost label first
  pub labels : List Operands
  -- what a return carries, inside a function
  pub result : Option Operands

-- none or one
abbrev pub at_most_one : Option ValueType → Operands
at_most_one None = []
at_most_one (Some t) = t ∷ []

-- what a block of this type leaves
abbrev pub results_of : BlockType → Operands
results_of Empty = []
results_of (Result t) = t ∷ []

-- inside a block whose label carries these
abbrev pub with_label : Operands → Context → Context
with_label carries c = record c { labels = carries ∷ c.labels }

-- with the type of this import before the others, if it is a function
abbrev pub imported_function : List Signature → ImportKind → List (Option Signature) → List (Option Signature)
imported_function types (imported.Function t) others = slice_get types t ∷ others
imported_function types (imported.Table l) others = others
imported_function types (imported.Memory l) others = others
imported_function types (imported.Global t) others = others

-- the types of the imported functions
abbrev pub imported_functions : List Signature → List ImportSyntax → List (Option Signature)
imported_functions types [] = []
imported_functions types (i ∷ is) = imported_function types i.kind (imported_functions types is)

-- the type of each function, the imported ones first, or none where an index names no type
abbrev pub function_types : ModuleSyntax → List (Option Signature)
function_types m = imported_functions m.types m.imports ++ map (λ f. slice_get m.types f.signature) m.functions

abbrev pub is_there : {A : Type 0} → List A → Bool
is_there [] = false
is_there (x ∷ xs) = true

-- a module, outside all functions
abbrev pub module_context : ModuleSyntax → Context
module_context m = record {
  types = m.types;
  functions = function_types m;
  has_table = is_there m.tables;
  has_memory = is_there m.memories;
  globals = map (λ g. g.kind) m.globals;
  locals = [];
  labels = [];
  result = None;
}

-- The body of a function of this type. The body is itself a label, so that a branch to it ends the
-- call.
abbrev pub body_context : ModuleSyntax → Signature → List ValueType → Context
body_context m type locals = record (module_context m) {
  locals = type.parameters ++ locals;
  labels = at_most_one type.result ∷ [];
  result = Some (at_most_one type.result);
}
