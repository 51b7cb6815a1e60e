-- What the typing of a function's body says.
use Rattle.std.specs.Prelude.{◌≡◌, ℕ, [], Some, length, drop, slice_get}
use Rattle.wcode.specs.Grammar.{SpellsExpr}
use Rattle.wmodule.specs.declared.module.FunctionCode.{FunctionCode}
use Rattle.wmodule.specs.Syntax.{Signature, FunctionSyntax, ModuleParts, module_of, ModuleSyntax}
use Rattle.wbody.specs.declared.notes.Notes.{Notes}
use Rattle.wbody.specs.Context.{at_most_one, body_context}
use Rattle.wbody.specs.Typing.{Typed}
use Rattle.wbody.specs.Heights.{greatest_height}
use Rattle.wbody.specs.Branches.{body_branches, notes_of}

-- The function at this place among those of the module has a type, and its body takes no operands
-- and leaves the result (3.4.1); the notes tell its greatest height, and where its branches lead in
-- the bytes.
pub record BodyTyped (p : ModuleParts) (place : ℕ) (notes : Notes) : Type 0 where
  pub function : FunctionSyntax
  pub function_is : slice_get (module_of p).functions place ≡ Some function
  pub type : Signature
  pub type_is : slice_get (module_of p).types (function.signature) ≡ Some type
  pub typed : Typed (body_context (module_of p) type function.locals) function.body [] (at_most_one type.result)
  pub greatest : notes.greatest_height ≡ greatest_height (body_context (module_of p) type function.locals) function.body 0 0
  -- where the body stands
  pub code : FunctionCode
  pub code_is : slice_get p.tables.codes.items place ≡ Some code
  pub branches : (spelled : SpellsExpr (drop code.body.begin p.bytes) function.body (drop code.body.end p.bytes))
      → notes.branches ≡ notes_of (body_branches (length p.bytes) (body_context (module_of p) type function.locals) function.body (length (at_most_one type.result)) (drop code.body.begin p.bytes) (drop code.body.end p.bytes) spelled)

-- The function at this place has no typing: its type isn't there, or its body can't go from no
-- operands to the result.
abbrev pub NoTyping : ModuleSyntax → (place : ℕ) → Type 0
NoTyping m place =
    (f : FunctionSyntax) (type : Signature) → slice_get m.functions place ≡ Some f → slice_get m.types (f.signature) ≡ Some type
    → Typed (body_context m type f.locals) f.body [] (at_most_one type.result) → ⊥
