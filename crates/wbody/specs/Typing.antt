-- Which operands instructions take and leave (WebAssembly Core 1.0, 3.3). Operands stand with the
-- topmost first.
use Rattle.std.specs.Prelude.{◌≡◌, ℕ, ◌^◌, List, [], ◌∷◌, ◌++◌, Bool, ◌&&◌, nat_le, nat_lt, Option, Some, None, option_and_then, reverse, slice_get, if◌then◌else◌}
use Rattle.std.specs.List.{AllByRecursion}
use Rattle.wcode.specs.declared.value.ValueType.{ValueType}
use Rattle.wcode.specs.declared.value.ValueType.TheVariants.{I32, I64}
use Rattle.wcode.specs.declared.value.BlockType.{BlockType}
use Rattle.wcode.specs.declared.value.Value.{Value}
use Rattle.wcode.specs.declared.value.Value.TheVariants as values
use Rattle.wcode.specs.declared.operator.CvtOp.{CvtOp}
use Rattle.wcode.specs.declared.operator.CvtOp.TheVariants.{WrapI64, ExtendI32S, ExtendI32U, Extend8S, Extend16S, Extend32S}
use Rattle.wcode.specs.declared.instruction.MemArg.{MemArg}
use Rattle.wcode.specs.declared.instruction.Plain.{Plain}
use Rattle.wcode.specs.declared.instruction.Plain.TheVariants as plains
use Rattle.wcode.specs.Operators.{type_of, load_type, load_bytes, store_type, store_bytes}
use Rattle.wcode.specs.Syntax.{Body, done, plain, block, loop, if_else, br_table}
use Rattle.wmodule.specs.Syntax.{Signature}
use Rattle.wbody.specs.Context.{Operands, Context, at_most_one, results_of, with_label}

-- ---- the table of the plain instructions

-- What a plain instruction does to the operands.
pub data PlainType : Type 0 where
  -- it takes these and gives those
  takes_gives : (takes gives : Operands) → PlainType
  -- it takes one of any type
  drops : PlainType
  -- it takes an i32 and below it two of one type, of which it gives one
  selects : PlainType
  -- it takes these, and what comes behind it isn't reached
  ends : (takes : Operands) → PlainType
  -- it has no typing
  untyped : PlainType

-- by what was found, if anything
abbrev pub of_found : {A : Type 0} → (A → PlainType) → Option A → PlainType
of_found f None = untyped
of_found f (Some x) = f x

-- only where it is so
abbrev pub only_where : Bool → PlainType → PlainType
only_where b type = if b then type else untyped

-- the type of the function with this index
abbrev pub function_at : Context → ℕ → Option Signature
function_at c index = option_and_then (λ type. type) (slice_get c.functions index)

-- A call takes the arguments, the last one topmost, and above them these; it gives the result.
abbrev pub call_type : (above : Operands) → Signature → PlainType
call_type above type = takes_gives (above ++ reverse type.parameters) (at_most_one type.result)

-- the alignment isn't greater than the access
abbrev pub is_aligned : MemArg → (bytes : ℕ) → Bool
is_aligned arg bytes = nat_le (2 ^ arg.align) bytes

-- a conversion
abbrev pub convert_type : CvtOp → PlainType
convert_type WrapI64 = takes_gives (I64 ∷ []) (I32 ∷ [])
convert_type ExtendI32S = takes_gives (I32 ∷ []) (I64 ∷ [])
convert_type ExtendI32U = takes_gives (I32 ∷ []) (I64 ∷ [])
convert_type (Extend8S t) = takes_gives (t ∷ []) (t ∷ [])
convert_type (Extend16S t) = takes_gives (t ∷ []) (t ∷ [])
convert_type Extend32S = takes_gives (I64 ∷ []) (I64 ∷ [])

-- the number of a constant is one of its type (2.2.3)
abbrev pub is_in_range : Value → Bool
is_in_range (values.I32 n) = nat_lt n (2 ^ 32)
is_in_range (values.I64 n) = nat_lt n (2 ^ 64)

-- Each plain instruction's rule (3.3.1 to 3.3.5).
abbrev pub plain_type : Context → Plain → PlainType
-- numbers (3.3.1)
plain_type c (plains.Const v) = only_where (is_in_range v) (takes_gives [] (type_of v ∷ []))
plain_type c (plains.Unary t op) = takes_gives (t ∷ []) (t ∷ [])
plain_type c (plains.Binary t op) = takes_gives (t ∷ t ∷ []) (t ∷ [])
plain_type c (plains.Test t op) = takes_gives (t ∷ []) (I32 ∷ [])
plain_type c (plains.Relation t op) = takes_gives (t ∷ t ∷ []) (I32 ∷ [])
plain_type c (plains.Convert op) = convert_type op
-- operands of any type (3.3.2)
plain_type c plains.Drop = drops
plain_type c plains.Select = selects
-- locals and globals (3.3.3)
plain_type c (plains.LocalGet x) = of_found (λ t. takes_gives [] (t ∷ [])) (slice_get c.locals x)
plain_type c (plains.LocalSet x) = of_found (λ t. takes_gives (t ∷ []) []) (slice_get c.locals x)
plain_type c (plains.LocalTee x) = of_found (λ t. takes_gives (t ∷ []) (t ∷ [])) (slice_get c.locals x)
plain_type c (plains.GlobalGet x) = of_found (λ g. takes_gives [] (g.value ∷ [])) (slice_get c.globals x)
plain_type c (plains.GlobalSet x) = of_found (λ g. only_where g.mutable (takes_gives (g.value ∷ []) [])) (slice_get c.globals x)
-- memory (3.3.4)
plain_type c (plains.Load op arg) = only_where (c.has_memory && is_aligned arg (load_bytes op)) (takes_gives (I32 ∷ []) (load_type op ∷ []))
plain_type c (plains.Store op arg) = only_where (c.has_memory && is_aligned arg (store_bytes op)) (takes_gives (store_type op ∷ I32 ∷ []) [])
plain_type c plains.MemorySize = only_where c.has_memory (takes_gives [] (I32 ∷ []))
plain_type c plains.MemoryGrow = only_where c.has_memory (takes_gives (I32 ∷ []) (I32 ∷ []))
-- control (3.3.5)
plain_type c plains.Nop = takes_gives [] []
plain_type c plains.Unreachable = ends []
plain_type c (plains.Br l) = of_found ends (slice_get c.labels l)
plain_type c (plains.BrIf l) = of_found (λ carries. takes_gives (I32 ∷ carries) carries) (slice_get c.labels l)
plain_type c plains.Return = of_found ends c.result
plain_type c (plains.Call f) = of_found (call_type []) (function_at c f)
plain_type c (plains.CallIndirect t) = only_where c.has_table (of_found (call_type (I32 ∷ [])) (slice_get c.types t))

-- ---- the relation

-- what an instruction takes from the top of the operands, and what it leaves in their place
abbrev pub Rule : Type 1
Rule = Operands → Operands → Type 0

-- It takes these and as many others as one likes, and leaves whatever one likes: nothing behind it
-- is reached.
abbrev pub Ending : (takes : Operands) → Rule
Ending first takes gives = (others : Operands) × (takes ≡ first ++ others)

-- what an instruction of this type can take and leave
abbrev pub TypeAllows : PlainType → Rule
TypeAllows (takes_gives first second) takes gives = (takes ≡ first) × (gives ≡ second)
TypeAllows drops takes gives = (t : ValueType) × (takes ≡ t ∷ []) × (gives ≡ [])
TypeAllows selects takes gives = (t : ValueType) × (takes ≡ I32 ∷ t ∷ t ∷ []) × (gives ≡ t ∷ [])
TypeAllows (ends first) takes gives = Ending first takes gives
TypeAllows untyped takes gives = ⊥

-- An instruction without others inside it (3.3.1 to 3.3.5).
abbrev pub PlainTyped : Context → Plain → Rule
PlainTyped c p = TypeAllows (plain_type c p)

-- A block or a loop: [] -> its results, where the instructions inside do so under its label
-- (3.3.5.3, 3.3.5.4).
abbrev pub BlockTyped : (Inside : Rule) → BlockType → Rule
BlockTyped Inside t takes gives = (takes ≡ []) × (gives ≡ results_of t) × Inside [] (results_of t)

-- An if: [i32] -> its results, where both arms give these (3.3.5.5). An absent second arm is an
-- empty one, and gives none.
abbrev pub IfTyped : (Yes No : Rule) → BlockType → Rule
IfTyped Yes No t takes gives = (takes ≡ I32 ∷ []) × (gives ≡ results_of t) × Yes [] (results_of t) × No [] (results_of t)

-- A branch by an index: each of its labels carries what the last one does (3.3.5.8).
abbrev pub TableTyped : Context → (labels : List ℕ) → (default : ℕ) → Rule
TableTyped c labels default takes gives =
    (carries : Operands) × (slice_get c.labels default ≡ Some carries) × AllByRecursion (λ l. slice_get c.labels l ≡ Some carries) labels
    × Ending (I32 ∷ carries) takes gives

-- Weakening: what lies below the operands that an instruction takes stays where it is (3.3.6.2).
pub record Weakened (Typing : Rule) (before after : Operands) : Type 0 where
  pub takes : Operands
  pub gives : Operands
  pub below : Operands
  pub rule : Typing takes gives
  pub before_is : before ≡ takes ++ below
  pub after_is : after ≡ gives ++ below

-- an instruction, and then others that go on from the operands between
pub record Then (First Others : Rule) (before after : Operands) : Type 0 where
  pub between : Operands
  pub first : Weakened First before between
  pub others : Others between after

-- The instructions go from operands to operands (3.3.6). A branch to a loop carries nothing, one to
-- a block or an if its results.
abbrev pub Typed : Context → Body → Rule
Typed c done before after = before ≡ after
Typed c (plain p rest) before after = Then (PlainTyped c p) (Typed c rest) before after
Typed c (block t inside rest) before after =
    Then (BlockTyped (Typed (with_label (results_of t) c) inside) t) (Typed c rest) before after
Typed c (loop t inside rest) before after =
    Then (BlockTyped (Typed (with_label [] c) inside) t) (Typed c rest) before after
Typed c (if_else t then_arm else_arm rest) before after =
    Then (IfTyped (Typed (with_label (results_of t) c) then_arm) (Typed (with_label (results_of t) c) else_arm) t) (Typed c rest) before after
Typed c (br_table labels default rest) before after = Then (TableTyped c labels default) (Typed c rest) before after
