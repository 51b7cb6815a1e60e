-- How the typing of a body goes over one word of its bytes.
use Rattle.std.specs.Prelude.{◌≡◌, ℕ, Bool, true, false, List, [], ◌∷◌, ◌++◌, Option, None, reverse, vec_len}
use Rattle.wcode.specs.Grammar.{Word, SpellsWord}
use Rattle.wcode.specs.Syntax.{Body}
use Rattle.wcode.specs.Shown.{Shows}
use Rattle.wcode.specs.declared.instruction.Op.{Op}
use Rattle.wcode.specs.declared.instruction.Op.TheVariants as ops
use Rattle.wcode.specs.declared.value.BlockType.{BlockType}
use Rattle.wbody.specs.declared.scope.Opened.{Opened}
use Rattle.wbody.specs.declared.scope.Level.{Level}
use Rattle.wbody.specs.declared.scope.Scope.{Scope}
use Rattle.wbody.specs.declared.operand_stack.OperandStack.{OperandStack}
use Rattle.wbody.specs.Context.{Context, at_most_one, results_of}
use Rattle.wbody.specs.Typing.{Typed}
use Rattle.wbody.specs.Heights.{greatest_height}
use Rattle.wbody.specs.inside.Pass.{Stack, fresh}
use Rattle.wbody.specs.inside.Scope.{IsScope}
use Rattle.wbody.specs.inside.OperandStack.{stack_of}
use Rattle.wbody.specs.inside.Standing.{Stands}

-- the scope says all of the context of a body
abbrev pub IsBase : Scope → Context → Type 0
IsBase s c = IsScope s c × (c.labels ≡ at_most_one s.result ∷ [])

-- where the typing stands before the word, it stands behind it
abbrev pub GoesOver : Scope → Word → (old : List Level) → OperandStack → (new : List Level) → OperandStack → Type 0
GoesOver scope w old s new n =
    (c : Context) (total : Option Stack) (peak : ℕ) (final front more : List ℕ) → IsBase scope c → Stands c total peak final front (reverse old) s
    → SpellsWord front w more → Stands c total peak final more (reverse new) n

-- where it stands before the word, the body has no typing
abbrev pub StopsAt : Scope → Word → (old : List Level) → OperandStack → Type 0
StopsAt scope w old s =
    (c : Context) (total : Option Stack) (peak : ℕ) (final front more : List ℕ) → IsBase scope c → Stands c total peak final front (reverse old) s
    → SpellsWord front w more → total ≡ None

-- what is kept of a block that was opened
pub record Opens (s n : OperandStack) (v : Level) : Type 0 where
  pub stack : stack_of n ≡ fresh
  pub floor : n.floor ≡ vec_len s.items
  pub items : n.items ≡ s.items
  pub greatest : n.greatest ≡ s.greatest
  pub outer_floor : v.floor ≡ s.floor
  pub outer_reached : v.reached ≡ s.reached

-- a block of this kind and type was opened
pub record Enters (kind : Opened) (type : BlockType) (old : List Level) (s : OperandStack) (new : List Level) (n : OperandStack) : Type 0 where
  pub level : Level
  pub new_is : new ≡ old ++ level ∷ []
  pub kind_is : level.kind ≡ kind
  pub type_is : level.block_type ≡ type
  pub opens : Opens s n level

-- what a word's instruction does to where the typing stands: at the body's own `end` nothing, and
-- no block is open
abbrev pub OverOp : Scope → (bytes : List ℕ) → Op → (ended : Bool) → (old : List Level) → OperandStack → (new : List Level) → OperandStack → Type 0
OverOp scope bytes op true old s new n = (op ≡ ops.End) × (old ≡ []) × (n ≡ s)
OverOp scope bytes op false old s new n = (w : Word) → Shows bytes op w → GoesOver scope w old s new n

-- a body has a typing to these results, and these are the most operands in it
pub record IsPassed (c : Context) (body : Body) (results : BlockType) (greatest : ℕ) : Type 0 where
  pub typed : Typed c body [] (results_of results)
  pub height : greatest ≡ greatest_height c body 0 0
