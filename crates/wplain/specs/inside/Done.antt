-- What came of a rule, beside what the definition's rule gives.
use Rattle.std.specs.Prelude.{◌≡◌, ℕ, List, Option, Some, Result, Ok, Err}
use Rattle.wcode.specs.declared.value.Value.{Value}
use Rattle.wcode.specs.declared.value.Value.TheVariants as value
use Rattle.wcode.specs.declared.value.ValueType.{ValueType}
use Rattle.wcode.specs.Syntax.{Body}
use Rattle.wnum.specs.declared.trap.Trap.{Trap as Undefined}
use Rattle.wmach.specs.Operands.{value_of}
use Rattle.wmach.specs.Configuration.{Store, Execution, instructions, trap, Reduction, leads_to}
use Rattle.wmach.specs.Reduction.{reduce_label, reduce_frame, inside_label, inside_frame}
use Rattle.wplain.specs.declared.numeric.Worked.{Worked}
use Rattle.wplain.specs.declared.numeric.Worked.TheVariants as worked
use Rattle.wplain.specs.declared.control.Left.{Left}
use Rattle.wplain.specs.declared.control.Left.TheVariants as left
use Rattle.wplain.specs.declared.control.Went.{Went}
use Rattle.wplain.specs.declared.control.Went.TheVariants as went
use Rattle.wplain.specs.inside.Seen.{place_of, execution_of, moved}

-- the number of a value, whatever its type
abbrev pub bits : Value → ℕ
bits (value.I32 n) = n
bits (value.I64 n) = n

-- a number as a value of this type, where there is one
abbrev pub typed_result : ValueType → Result ℕ Undefined → Result Value Undefined
typed_result t (Ok n) = Ok (value_of t n)
typed_result t (Err u) = Err u

-- An instruction that works on operands alone left these, or is cut off, and the definition's rule
-- gives the same, whatever lies around.
abbrev pub DoneBy : (Store → (locals values : List Value) → Body → Option Reduction) → (before after : List Value) → Worked → Type 0
DoneBy rule before after worked.Values = (store : Store) (locals : List Value) (rest : Body) → rule store locals before rest ≡ leads_to 1 store locals (instructions after rest)
DoneBy rule before after (worked.Cut t) = (store : Store) (locals : List Value) (rest : Body) → rule store locals before rest ≡ leads_to 1 store locals (trap t)

-- A place gave way to another one, or to a label or a frame that is entered, as is given.
abbrev pub WentAs : (given : Option Reduction) → Store → (locals values : List Value) → Went → Type 0
WentAs given store locals values (went.On m) = given ≡ moved store locals values m
WentAs given store locals values (went.Into cost e) = given ≡ leads_to cost store locals (execution_of e)

-- A label is left, or what is inside goes on.
abbrev pub LeavesLabel : (below : List Value) (arity : ℕ) (continuation rest : Body) (inside : Execution) → Left → Type 0
LeavesLabel below arity continuation rest inside left.Open =
    (store : Store) (locals : List Value) (r : Reduction) → reduce_label store locals below arity continuation inside rest (Some r) ≡ Some (inside_label below arity continuation rest r)
LeavesLabel below arity continuation rest inside (left.To cost p) =
    (store : Store) (locals : List Value) (on : Option Reduction) → reduce_label store locals below arity continuation inside rest on ≡ leads_to cost store locals (place_of p.values.items p.next)

-- A frame is left, or what is inside goes on.
abbrev pub LeavesFrame : (below : List Value) (arity : ℕ) (rest : Body) (inside : Execution) → Left → Type 0
LeavesFrame below arity rest inside left.Open =
    (store : Store) (outer : List Value) (r : Reduction) → reduce_frame store outer below arity inside rest (Some r) ≡ Some (inside_frame outer below arity rest r)
LeavesFrame below arity rest inside (left.To cost p) =
    (store : Store) (outer : List Value) (on : Option Reduction) → reduce_frame store outer below arity inside rest on ≡ leads_to cost store outer (place_of p.values.items p.next)
