-- What the code gives for a body that it skips, and for what is inside it.
use Rattle.std.specs.Prelude.{◌≡◌, ◌≢◌, ℕ, ◌-◌, ◌<◌, ◌≤◌, ◌⊎◌, List, ◌∷◌, ◌++◌, length, drop, Bool, true, false, Option, Some, None, Result, Ok, Err}
use Rattle.wcode.specs.declared.fault.BinFault.{BinFault}
use Rattle.wcode.specs.declared.fault.BinFault.TheVariants.{NoMemory}
use Rattle.wcode.specs.declared.blocks.Block.{Block}
use Rattle.wcode.specs.declared.skipping.BodyEnd.{BodyEnd}
use Rattle.wcode.specs.declared.skipping.Step.{Step}
use Rattle.wcode.specs.declared.skipping.Step.TheVariants as steps
use Rattle.wcode.specs.declared.value.Value.{Value}
use Rattle.wcode.specs.declared.instruction.Plain.TheVariants.{Const}
use Rattle.wcode.specs.declared.instruction.Op.{Op}
use Rattle.wcode.specs.declared.instruction.Op.TheVariants as ops
use Rattle.wcode.specs.Syntax.{Body, done}
use Rattle.wcode.specs.Grammar.{Word, otherwise, end, SpellsWord, SpellsBody}
use Rattle.wcode.specs.inside.Ended.{closing, SpellsArms, NoBody, StandsFirst}
use Rattle.wcode.specs.Blocks.{GoesOn, EndsAt, SpellsBlocks}

-- These instructions stand at the front of each body that stands there, and have these blocks.
pub record BlocksFirst (bytes : List ℕ) (room : ℕ) (front : List ℕ) (f : Body → Body) (rest : List ℕ) (blocks : List Block) : Type 0 where
  pub stands : StandsFirst room front f rest
  pub sound : (last : Word) (body : Body) (after : List ℕ) (more : List Block) → SpellsBlocks bytes room last rest body after more
      → SpellsBlocks bytes room last front (f body) after (blocks ++ more)

-- the bodies of an `if`, and their blocks
abbrev pub ArmsBlocks : List ℕ → ℕ → Block → List ℕ → Body → Body → List ℕ → List Block → Type 0
ArmsBlocks bytes room here more yes_arm no_arm after inside =
    ((no_arm ≡ done) × EndsAt bytes here after × SpellsBlocks bytes room end more yes_arm after inside)
    ⊎ ((middle : List ℕ) × (place : ℕ) × (first second : List Block) × (here.else_arm ≡ Some place) × GoesOn bytes place middle
    × GoesOn bytes here.after after × (inside ≡ first ++ second)
    × SpellsBlocks bytes room otherwise more yes_arm middle first × SpellsBlocks bytes room end middle no_arm after second)

-- what is found of a body from the place on, and the blocks before and after
unfoldable pub SkipsBody : List ℕ → ℕ → ℕ → List Block → List Block → Result BodyEnd BinFault → Type 0
SkipsBody bytes room at old new (Ok x) = (x.next ≤ length bytes) × (body : Body) × (inside : List Block) × (new ≡ old ++ inside)
    × SpellsBlocks bytes room (closing x.by_else) (drop at bytes) body (drop x.next bytes) inside
SkipsBody bytes room at old new (Err e) = e ≢ NoMemory → NoBody room (drop at bytes)

-- what is found of an instruction, or of what ends a body
unfoldable pub SkipsItem : List ℕ → ℕ → ℕ → List Block → List Block → Result Step BinFault → Type 0
SkipsItem bytes room at old new (Ok (steps.Passes next)) = (next ≤ length bytes) × (at < next) × (f : Body → Body) × (inside : List Block)
    × (new ≡ old ++ inside) × BlocksFirst bytes room (drop at bytes) f (drop next bytes) inside
SkipsItem bytes room at old new (Ok (steps.Ends by_else next)) = (next ≤ length bytes) × SpellsWord (drop at bytes) (closing by_else) (drop next bytes) × (new ≡ old)
SkipsItem bytes room at old new (Err e) = e ≢ NoMemory → NoBody room (drop at bytes)

-- what is found of the body inside a block or loop, from the place on
unfoldable pub SkipsNested : List ℕ → ℕ → ℕ → List Block → List Block → Result ℕ BinFault → Type 0
SkipsNested bytes room at old new (Ok x) = (x ≤ length bytes) × (0 < room) × (body : Body) × (here : Block) × (inside : List Block)
    × (new ≡ old ++ here ∷ inside) × EndsAt bytes here (drop x bytes) × SpellsBlocks bytes (room - 1) end (drop at bytes) body (drop x bytes) inside
SkipsNested bytes room at old new (Err e) = e ≢ NoMemory → 0 < room → (body : Body) (rest : List ℕ) → SpellsBody (room - 1) end (drop at bytes) body rest → ⊥

-- what is found of the bodies of an `if`, from the place on
unfoldable pub SkipsArms : List ℕ → ℕ → ℕ → List Block → List Block → Result ℕ BinFault → Type 0
SkipsArms bytes room at old new (Ok x) = (x ≤ length bytes) × (0 < room) × (a b : Body) × (here : Block) × (inside : List Block)
    × (new ≡ old ++ here ∷ inside) × ArmsBlocks bytes (room - 1) here (drop at bytes) a b (drop x bytes) inside
SkipsArms bytes room at old new (Err e) = e ≢ NoMemory → 0 < room → (a b : Body) (rest : List ℕ) → SpellsArms (room - 1) (drop at bytes) a b rest → ⊥

-- the value of an instruction that is a constant
abbrev pub op_constant : Op → Option Value
op_constant (ops.Plain (Const value)) = Some value
op_constant _ = None

-- whether this is an `end`
abbrev pub op_ends : Op → Bool
op_ends ops.End = true
op_ends _ = false
