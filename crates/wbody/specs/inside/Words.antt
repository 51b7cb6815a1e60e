-- How the typing of a body goes over the word that stands at a place of its bytes.
use Rattle.std.specs.Prelude.{◌≡◌, ℕ, ◌+◌, ◌<◌, ◌≤◌, Bool, true, false, List, [], Option, Some, None, Result, Err, IfOk, OnOk, drop, length, max, vec_len}
use Rattle.wcode.specs.declared.instruction.Plain.{Plain}
use Rattle.wcode.specs.declared.instruction.Op.{Op}
use Rattle.wcode.specs.Grammar.{Word, one, SpellsWord}
use Rattle.wcode.specs.Shown.{Shows}
use Rattle.wbody.specs.declared.scope.Level.{Level}
use Rattle.wbody.specs.declared.scope.Scope.{Scope}
use Rattle.wbody.specs.declared.operand_stack.OperandStack.{OperandStack}
use Rattle.wbody.specs.declared.stop.Stop.{Stop}
use Rattle.wbody.specs.declared.stop.Stop.TheVariants as stops
use Rattle.wbody.specs.Context.{Context}
use Rattle.wbody.specs.Typing.{PlainType, plain_type}
use Rattle.wbody.specs.Heights.{height_by}
use Rattle.wbody.specs.Branches.{Label, plain_branches}
use Rattle.wbody.specs.inside.Pass.{pass_type}
use Rattle.wbody.specs.inside.Scope.{IsScope}
use Rattle.wbody.specs.inside.OperandStack.{stack_of, SameBlock}
use Rattle.wbody.specs.inside.Steps.{GoesOver, OverOp, StopsAt}
use Rattle.wbody.specs.inside.Trail.{Trace, Adds, Moves, MovesUnless}

-- An instruction of this type stands there, without others inside it, which names no label.
pub record PlainHere (scope : Scope) (bytes : List ℕ) (at next : ℕ) (type : PlainType) : Type 0 where
  pub plain : Plain
  pub word : SpellsWord (drop at bytes) (one plain) (drop next bytes)
  pub past : at < next
  pub within : next ≤ length bytes
  pub no_branch : (labels : List Label) (place : ℕ) → plain_branches labels place plain ≡ []
  pub few : (floor height : ℕ) → floor ≤ height → height_by type floor height ≤ height + 1
  pub type_is : (c : Context) → IsScope scope c → plain_type c plain ≡ type

-- the operands are those behind it
pub record PlainPasses (scope : Scope) (bytes : List ℕ) (at next : ℕ) (s n : OperandStack) : Type 0 where
  pub type : PlainType
  pub here : PlainHere scope bytes at next type
  pub ok : pass_type type (stack_of s) ≡ Some (stack_of n)
  pub same : SameBlock s n
  pub greatest : n.greatest ≡ max s.greatest (vec_len n.items)

abbrev pub PlainTo : Scope → (bytes : List ℕ) → (at : ℕ) → Option ℕ → OperandStack → OperandStack → Type 0
PlainTo scope bytes at (Some next) s n = PlainPasses scope bytes at next s n
PlainTo scope bytes at None s n = ⊥

-- it has no typing there
pub record PlainStops (scope : Scope) (bytes : List ℕ) (at : ℕ) (s : OperandStack) : Type 0 where
  pub next : ℕ
  pub type : PlainType
  pub here : PlainHere scope bytes at next type
  pub stops : pass_type type (stack_of s) ≡ None

-- what comes of going over it: the place behind it, with the operands there, or that it has no
-- typing
pub record OverPlain (scope : Scope) (bytes : List ℕ) (at : ℕ) (result : Result (Option ℕ) Stop) (s n : OperandStack) : Type 0 where
  pub ok : IfOk result (λ r. PlainTo scope bytes at r s n)
  pub err : result ≡ Err stops.Untyped → PlainStops scope bytes at s

-- What comes of going over the word of an instruction that isn't the body's own `end`: where the
-- typing stands before it, it stands behind it; or the body has no typing.
pub record OverInner (scope : Scope) (bytes : List ℕ) (op : Op) (result : Result Unit Stop) (old : List Level) (s : OperandStack) (new : List Level) (n : OperandStack) : Type 0 where
  pub over : OnOk result ((w : Word) → Shows bytes op w → GoesOver scope w old s new n)
  pub moves : OnOk result (Moves scope op old s new n)
  pub err : result ≡ Err stops.Untyped → (w : Word) → Shows bytes op w → StopsAt scope w old s

-- From open blocks, operands and branches to others over the word there, behind which the next
-- place is. Whether it is the body's own `end`.
pub record Passes (scope : Scope) (bytes : List ℕ) (at next : ℕ) (ended : Bool) (old : List Level) (s : OperandStack) (a : Trace) (new : List Level) (n : OperandStack) (b : Trace) : Type 0 where
  pub op : Op
  pub word : Word
  pub shown : Shows bytes op word
  pub spelled : SpellsWord (drop at bytes) word (drop next bytes)
  pub past : at < next
  pub within : next ≤ length bytes
  pub over : OverOp scope bytes op ended old s new n
  pub moves : MovesUnless ended scope op old s new n
  pub adds : Adds bytes op at s.floor (vec_len s.items) a b

abbrev pub PassesTo : Scope → (bytes : List ℕ) → (at : ℕ) → Option ℕ → (old : List Level) → OperandStack → Trace → (new : List Level) → OperandStack → Trace → Type 0
PassesTo scope bytes at (Some next) old s a new n b = Passes scope bytes at next false old s a new n b
PassesTo scope bytes at None old s a new n b = (next : ℕ) × Passes scope bytes at next true old s a new n b

-- the body has no typing if that of what stands before the word there comes to these
pub record StopsHere (scope : Scope) (bytes : List ℕ) (at : ℕ) (old : List Level) (s : OperandStack) : Type 0 where
  pub word : Word
  pub rest : List ℕ
  pub spelled : SpellsWord (drop at bytes) word rest
  pub stops : StopsAt scope word old s

-- what comes of going over the word there: the place behind it, or none behind the body's own
-- `end`, with what is open, the operands and the branches there; or that the body has no typing
pub record OverWord (scope : Scope) (bytes : List ℕ) (at : ℕ) (result : Result (Option ℕ) Stop) (old : List Level) (s : OperandStack) (a : Trace) (new : List Level) (n : OperandStack) (b : Trace) : Type 0 where
  pub ok : IfOk result (λ r. PassesTo scope bytes at r old s a new n b)
  pub err : result ≡ Err stops.Untyped → StopsHere scope bytes at old s
