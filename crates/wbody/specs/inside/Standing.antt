-- Where the typing of a body stands, between its instructions.
use Rattle.std.specs.Prelude.{◌≡◌, ℕ, ◌+◌, ◌-◌, ◌≤◌, List, [], ◌∷◌, Bool, true, false, Option, option_and_then, reverse, take, drop, length, max}
use Rattle.wcode.specs.declared.value.ValueType.{ValueType}
use Rattle.wcode.specs.declared.value.BlockType.{BlockType}
use Rattle.wcode.specs.Syntax.{Body, done}
use Rattle.wcode.specs.Grammar.{end, SpellsBody}
use Rattle.wcode.specs.inside.Ended.{closing}
use Rattle.wbody.specs.declared.scope.Opened.{Opened}
use Rattle.wbody.specs.declared.scope.Opened.TheVariants as opened
use Rattle.wbody.specs.declared.scope.Level.{Level}
use Rattle.wbody.specs.declared.operand_stack.OperandStack.{OperandStack}
use Rattle.wbody.specs.Context.{Context, results_of, with_label}
use Rattle.wbody.specs.Heights.{greatest_height}
use Rattle.wbody.specs.inside.Pass.{Stack, fresh, closed, pass}
use Rattle.wbody.specs.inside.Scope.{carried}
use Rattle.wbody.specs.inside.OperandStack.{stack_of, below_of}

-- An open block: what was known before it, a condition taken off; the second arm, if it is the
-- first of an `if`; what comes behind it; and the height at which the block around it began.
pub record Open : Type 0 where
  pub kind : Opened
  pub type : BlockType
  pub below : Stack
  pub second : Body
  pub next : Body
  pub floor : ℕ

-- inside open blocks, the innermost first
abbrev pub inner_context : Context → List Open → Context
inner_context c [] = c
inner_context c (o ∷ os) = with_label (carried o.kind (results_of o.type)) (inner_context c os)

-- what is known behind a block, where its last instructions came to this
abbrev pub finish : Opened → Context → BlockType → Stack → (second : Body) → Stack → Option Stack
finish opened.Block c t below second inside = closed t below inside
finish opened.Loop c t below second inside = closed t below inside
finish opened.Second c t below second inside = closed t below inside
finish opened.First c t below second inside =
    option_and_then (λ arm. option_and_then (closed t below) (pass (with_label (results_of t) c) second fresh)) (closed t below inside)

-- what is known at the end of the body, where the innermost instructions come to this
abbrev pub resume : Context → List Open → Option Stack → Option Stack
resume c [] inside = inside
resume c (o ∷ os) inside =
    resume c os (option_and_then (pass (inner_context c os) o.next) (option_and_then (finish o.kind (inner_context c os) o.type o.below o.second) inside))

-- what is known at the end of the body, where these instructions are still to come from this
abbrev pub outcome : Context → List Open → Body → Stack → Option Stack
outcome c os rest s = resume c os (pass (inner_context c os) rest s)

-- the greatest height in a second arm that is still to come
abbrev pub second_peak : Opened → Context → BlockType → (second : Body) → (low : ℕ) → ℕ
second_peak opened.Block c t second low = 0
second_peak opened.Loop c t second low = 0
second_peak opened.Second c t second low = 0
second_peak opened.First c t second low = greatest_height (with_label (results_of t) c) second low low

-- the height before a block
abbrev pub low_of : Open → ℕ
low_of o = o.floor + length o.below.operands

-- the greatest height behind the innermost open block
abbrev pub outer_peak : Context → List Open → ℕ
outer_peak c [] = 0
outer_peak c (o ∷ os) =
    max (max (second_peak o.kind (inner_context c os) o.type o.second (low_of o)) (greatest_height (inner_context c os) o.next o.floor (low_of o + length (results_of o.type)))) (outer_peak c os)

-- The code's open blocks, the innermost first, are these; below are the operands of the blocks
-- around them.
abbrev pub Layers : List Level → List Open → List (Option ValueType) → Type 0
Layers [] [] below = below ≡ []
Layers [] (o ∷ os) below = ⊥
Layers (v ∷ vs) [] below = ⊥
Layers (v ∷ vs) (o ∷ os) below =
    (o.kind ≡ v.kind) × (o.type ≡ v.block_type) × (o.floor ≡ v.floor) × (o.below ≡ record { operands = reverse (drop v.floor below); reached = v.reached })
    × (v.floor ≤ length below) × Layers vs os (take v.floor below)

-- how the bytes go on behind the instructions of the innermost block, which an `else` ends or an
-- `end`
abbrev pub ArmEnds : Opened → (second : Body) → (room : ℕ) → (by_else : Bool) → (after outer : List ℕ) → Type 0
ArmEnds opened.First second room true after outer = SpellsBody room end after second outer
ArmEnds opened.First second room false after outer = (second ≡ done) × (after ≡ outer)
ArmEnds opened.Block second room by_else after outer = (by_else ≡ false) × (after ≡ outer)
ArmEnds opened.Loop second room by_else after outer = (by_else ≡ false) × (after ≡ outer)
ArmEnds opened.Second second room by_else after outer = (by_else ≡ false) × (after ≡ outer)

abbrev pub GoesOn : List Open → (by_else : Bool) → (after final : List ℕ) → Type 0
GoesOn [] by_else after final = (by_else ≡ false) × (after ≡ final)
GoesOn (o ∷ os) by_else after final =
    (outer : List ℕ) × ArmEnds o.kind o.second (256 - length (o ∷ os)) by_else after outer
    × (outer_else : Bool) × (outer_after : List ℕ) × SpellsBody (256 - length os) (closing outer_else) outer o.next outer_after × GoesOn os outer_else outer_after final

-- The bytes from here on spell the instructions still to come, and then what comes behind each open
-- block.
pub record Spelled (os : List Open) (rest : Body) (bytes final : List ℕ) : Type 0 where
  pub by_else : Bool
  pub after : List ℕ
  pub here : SpellsBody (256 - length os) (closing by_else) bytes rest after
  pub goes_on : GoesOn os by_else after final

-- Where the typing stands: the whole body's is that of what is still to come.
pub record Stands (c : Context) (total : Option Stack) (peak : ℕ) (final bytes : List ℕ) (levels : List Level) (stack : OperandStack) : Type 0 where
  pub blocks : List Open
  pub rest : Body
  pub spelled : Spelled blocks rest bytes final
  pub layers : Layers levels blocks (below_of stack)
  pub typed : total ≡ outcome c blocks rest (stack_of stack)
  pub height : peak ≡ max stack.greatest (max (greatest_height (inner_context c blocks) rest stack.floor (length stack.items.items)) (outer_peak c blocks))
