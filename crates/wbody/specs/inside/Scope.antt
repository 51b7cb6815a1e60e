-- The code's scopes and open blocks, as a context and its labels.
use Rattle.std.specs.Prelude.{◌≡◌, ℕ, List, [], ◌∷◌, ◌++◌, Option, Some, slice_get, option_map, map, reverse}
use Rattle.std.specs.Borrow.{Bor}
use Rattle.std.specs.List.{AllByRecursion}
use Rattle.wcode.specs.declared.value.ValueType.{ValueType}
use Rattle.wcode.specs.declared.instruction.Plain.{Plain}
use Rattle.wcode.specs.declared.instruction.Plain.TheVariants as plains
use Rattle.wmodule.specs.declared.module.FunctionType.{FunctionType}
use Rattle.wmodule.specs.declared.module.Import.{Import}
use Rattle.wmodule.specs.Syntax.{Signature, signature_of, import_of, locals_of}
use Rattle.wbody.specs.declared.scope.Scope.{Scope}
use Rattle.wbody.specs.declared.scope.Level.{Level}
use Rattle.wbody.specs.declared.scope.Opened.{Opened}
use Rattle.wbody.specs.declared.scope.Opened.TheVariants as opened
use Rattle.wbody.specs.Context.{Operands, Context, at_most_one, results_of, imported_functions}
use Rattle.wbody.specs.Scope.{IsFunctionImport}

-- the scope says of the context all but its labels
pub record IsScope (s : Scope) (c : Context) : Type 0 where
  pub types : c.types ≡ map signature_of s.types.now
  pub imports : AllByRecursion (λ (i : Import). IsFunctionImport i.kind) s.imports.now
  pub functions : c.functions ≡ imported_functions c.types (map import_of s.imports.now) ++ map (λ x. slice_get c.types x) s.signatures.now
  pub has_table : c.has_table ≡ s.has_table
  pub has_memory : c.has_memory ≡ s.has_memory
  pub globals : c.globals ≡ map (λ g. g.kind) s.globals.now
  pub locals : c.locals ≡ s.parameters.now ++ locals_of s.locals.now
  pub result : c.result ≡ Some (at_most_one s.result)

-- a type that was found
abbrev pub type_found : Option (Bor FunctionType) → Option Signature
type_found found = option_map (λ t. signature_of t.now) found

-- what a branch to an open block's label carries
abbrev pub carried : Opened → Operands → Operands
carried opened.Block results = results
carried opened.Loop results = []
carried opened.First results = results
carried opened.Second results = results

abbrev pub carried_by : Level → Operands
carried_by l = carried l.kind (results_of l.block_type)

-- what the labels of open blocks and of the body carry, the innermost first
abbrev pub labels_of : List Level → Option ValueType → List Operands
labels_of levels result = map carried_by (reverse levels) ++ at_most_one result ∷ []

-- a branch to each of these labels carries this
abbrev pub AllCarry : (carried : List Operands) → Operands → (labels : List ℕ) → Type 0
AllCarry carried these labels = AllByRecursion (λ l. slice_get carried l ≡ Some these) labels

-- which instructions name a local, a global, the memory, a label, or a function or type
abbrev pub NamesLocal : Plain → Type 0
NamesLocal (plains.LocalGet x) = Unit {0}
NamesLocal (plains.LocalSet x) = Unit {0}
NamesLocal (plains.LocalTee x) = Unit {0}
NamesLocal _ = ⊥

abbrev pub NamesGlobal : Plain → Type 0
NamesGlobal (plains.GlobalGet x) = Unit {0}
NamesGlobal (plains.GlobalSet x) = Unit {0}
NamesGlobal _ = ⊥

abbrev pub NamesMemory : Plain → Type 0
NamesMemory (plains.Load op arg) = Unit {0}
NamesMemory (plains.Store op arg) = Unit {0}
NamesMemory plains.MemorySize = Unit {0}
NamesMemory plains.MemoryGrow = Unit {0}
NamesMemory _ = ⊥

abbrev pub NamesLabel : Plain → Type 0
NamesLabel (plains.Br l) = Unit {0}
NamesLabel (plains.BrIf l) = Unit {0}
NamesLabel plains.Return = Unit {0}
NamesLabel _ = ⊥

abbrev pub NamesCall : Plain → Type 0
NamesCall (plains.Call f) = Unit {0}
NamesCall (plains.CallIndirect t) = Unit {0}
NamesCall _ = ⊥
