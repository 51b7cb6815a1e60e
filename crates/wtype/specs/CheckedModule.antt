-- What a checked module is seen as.
use Rattle.std.specs.Prelude.{◌≡◌, ℕ, List, Option, Some, length, option_map, slice_get}
use Rattle.wmodule.specs.Syntax.{ModuleParts, ModuleSyntax, module_of}
use Rattle.wbody.specs.declared.notes.Notes.{Notes}
use Rattle.wbody.specs.BodyTyped.{BodyTyped}
use Rattle.wtype.specs.Accepted.{export_named}

-- a module, and the notes of the bodies of its functions, in their order
pub record CheckedModule : Type 0 where
  pub content : ModuleParts
  pub notes : List Notes

-- there are notes for each body, and they are the body's
pub record NotesAgree (p : ModuleParts) (notes : List Notes) : Type 0 where
  pub count : length notes ≡ length (module_of p).functions
  pub each : (place : ℕ) (n : Notes) → slice_get notes place ≡ Some n → BodyTyped p place n

-- the index that the first export of this name gives
abbrev pub index_named : List ℕ → ModuleSyntax → Option ℕ
index_named name m = option_map (λ e. e.index) (export_named name m.exports)
