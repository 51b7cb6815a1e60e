-- What the places of a decoded module say.
use Rattle.std.specs.Prelude.{◌≡◌, ℕ, ◌<◌, ◌≤◌, List, All, length}
use Rattle.wcode.specs.declared.blocks.Block.{Block}
use Rattle.wcode.specs.Blocks.{HasBlocks}
use Rattle.wmodule.specs.declared.module.Place.{Place}
use Rattle.wmodule.specs.declared.module.FunctionCode.{FunctionCode}
use Rattle.wmodule.specs.declared.module.GlobalVariable.{GlobalVariable}
use Rattle.wmodule.specs.declared.module.ElementSegment.{ElementSegment}
use Rattle.wmodule.specs.declared.module.DataSegment.{DataSegment}
use Rattle.wmodule.specs.declared.module.Tables.{Tables}
use Rattle.wmodule.specs.Syntax.{expression_in, syntax_in}
use Rattle.wmodule.specs.Grammar.{Spells}

-- An expression stands there in the bytes, from its first opcode to behind its `end`, and has these
-- blocks.
pub record StandsAt (bytes : List ℕ) (place : Place) (blocks : List Block) : Type 0 where
  pub some : place.begin < place.end
  pub within : place.end ≤ length bytes
  pub spelled : HasBlocks bytes place.begin (expression_in bytes place) place.end blocks

-- an expression stands there
abbrev pub IsExpression : List ℕ → Place → Type 0
IsExpression bytes place = (blocks : List Block) × StandsAt bytes place blocks

-- the place of contents is one in the bytes
abbrev pub IsStretch : List ℕ → Place → Type 0
IsStretch bytes place = (place.begin ≤ place.end) × (place.end ≤ length bytes)

abbrev pub IsCode : List ℕ → FunctionCode → Type 0
IsCode bytes c = StandsAt bytes c.body c.blocks.items

abbrev pub IsGlobal : List ℕ → GlobalVariable → Type 0
IsGlobal bytes g = IsExpression bytes g.first

abbrev pub IsElement : List ℕ → ElementSegment → Type 0
IsElement bytes s = IsExpression bytes s.offset

abbrev pub IsData : List ℕ → DataSegment → Type 0
IsData bytes s = IsExpression bytes s.offset × IsStretch bytes s.contents

-- Each place of the tables is right in these bytes, and there are as many signatures as codes.
pub record Places (bytes : List ℕ) (t : Tables) : Type 0 where
  pub as_many : length t.signatures.items ≡ length t.codes.items
  pub codes : All (IsCode bytes) t.codes.items
  pub globals : All (IsGlobal bytes) t.globals.items
  pub elements : All (IsElement bytes) t.element_segments.items
  pub datas : All (IsData bytes) t.data_segments.items

-- The bytes spell the module that the tables describe, and each place is right.
pub record Stands (bytes : List ℕ) (t : Tables) : Type 0 where
  pub spelled : Spells bytes (syntax_in bytes t)
  pub places : Places bytes t
