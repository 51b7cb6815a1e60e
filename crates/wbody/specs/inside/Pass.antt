-- The stack of a pass over a body, and what each instruction takes from it and gives.
use Rattle.std.specs.Prelude.{ℕ, List, [], ◌∷◌, ◌++◌, Bool, true, false, ◌&&◌, not, Option, Some, None, option_map, option_and_then, map, slice_get, if◌then◌else◌}
use Rattle.std.specs.List.{list_all}
use Rattle.wcode.specs.declared.value.ValueType.{ValueType}
use Rattle.wcode.specs.declared.value.ValueType.TheVariants.{I32}
use Rattle.wcode.specs.declared.value.BlockType.{BlockType}
use Rattle.wcode.specs.Syntax.{Body, done, plain, block, loop, if_else, br_table}
use Rattle.wbody.specs.Context.{Operands, Context, results_of, with_label}
use Rattle.wbody.specs.Typing.{PlainType, takes_gives, drops, selects, ends, untyped, of_found, only_where, plain_type}
use Rattle.wbody.specs.Pass.{same_type, same_types}

-- What is known where instructions stand: the types of the operands that instructions of the same
-- list left, the topmost first, none where one may be of any type; and whether the place is
-- reached. Where it isn't, below these are as many operands of any types as one likes.
pub record Stack : Type 0 where
  pub operands : List (Option ValueType)
  pub reached : Bool

-- at the start of a list of instructions
abbrev pub fresh : Stack
fresh = record { operands = []; reached = true }

-- behind an instruction that is never left
abbrev pub unreached : Stack
unreached = record { operands = []; reached = false }

-- an operand may be of this type
abbrev pub may_be : ValueType → Option ValueType → Bool
may_be t None = true
may_be t (Some u) = same_type t u

-- There can be exactly these operands.
abbrev pub fit_operands : List (Option ValueType) → (reached : Bool) → Operands → Bool
fit_operands [] reached [] = true
fit_operands [] reached (t ∷ ts) = not reached
fit_operands (x ∷ xs) reached [] = false
fit_operands (x ∷ xs) reached (t ∷ ts) = may_be t x && fit_operands xs reached ts

abbrev pub fits : Stack → Operands → Bool
fits s = fit_operands s.operands s.reached

-- without operands of these types on top
abbrev pub take_types : Operands → List (Option ValueType) → (reached : Bool) → Option Stack
take_types [] xs reached = Some (record { operands = xs; reached = reached })
take_types (t ∷ ts) [] reached = if reached then None else take_types ts [] reached
take_types (t ∷ ts) (x ∷ xs) reached = if may_be t x then take_types ts xs reached else None

abbrev pub taken : Operands → Stack → Option Stack
taken types s = take_types types s.operands s.reached

-- with operands of these types on top
abbrev pub given : Operands → Stack → Stack
given types s = record { operands = map Some types ++ s.operands; reached = s.reached }

-- without the topmost operand, whatever its type
abbrev pub drop_top : List (Option ValueType) → (reached : Bool) → Option Stack
drop_top [] reached = if reached then None else Some unreached
drop_top (x ∷ xs) reached = Some (record { operands = xs; reached = reached })

-- what is known of an operand that is both
abbrev pub common : Option ValueType → Option ValueType → Option (Option ValueType)
common None y = Some y
common (Some t) None = Some (Some t)
common (Some t) (Some u) = if same_type t u then Some (Some t) else None

-- with one operand for the two on top, which are of one type
abbrev pub join_top : List (Option ValueType) → (reached : Bool) → Option Stack
join_top [] reached = if reached then None else Some (record { operands = None ∷ []; reached = false })
join_top (x ∷ []) reached = if reached then None else Some (record { operands = x ∷ []; reached = false })
join_top (x ∷ y ∷ xs) reached = option_map (λ z. record { operands = z ∷ xs; reached = reached }) (common x y)

-- behind an instruction of this type
abbrev pub pass_type : PlainType → Stack → Option Stack
pass_type (takes_gives takes gives) s = option_map (given gives) (taken takes s)
pass_type drops s = drop_top s.operands s.reached
pass_type selects s = option_and_then (λ two. join_top two.operands two.reached) (taken (I32 ∷ []) s)
pass_type (ends takes) s = option_map (λ left. unreached) (taken takes s)
pass_type untyped s = None

-- a label carries these
abbrev pub carries_these : Operands → Option Operands → Bool
carries_these types None = false
carries_these types (Some carries) = same_types carries types

-- a branch by an index
abbrev pub table_type : Context → (labels : List ℕ) → (default : ℕ) → PlainType
table_type c labels default =
    of_found (λ carries. only_where (list_all (λ l. carries_these carries (slice_get c.labels l)) labels) (ends (I32 ∷ carries))) (slice_get c.labels default)

-- Behind a block of this type that began above these operands, and inside which it came to that.
abbrev pub closed : BlockType → Stack → Stack → Option Stack
closed t below inside = if fits inside (results_of t) then Some (given (results_of t) below) else None

-- What is known behind the instructions, if they have a typing.
abbrev pub pass : Context → Body → Stack → Option Stack
pass c done s = Some s
pass c (plain p rest) s = option_and_then (pass c rest) (pass_type (plain_type c p) s)
pass c (block t inside rest) s =
    option_and_then (pass c rest) (option_and_then (closed t s) (pass (with_label (results_of t) c) inside fresh))
pass c (loop t inside rest) s =
    option_and_then (pass c rest) (option_and_then (closed t s) (pass (with_label [] c) inside fresh))
pass c (if_else t then_arm else_arm rest) s =
    let inner = with_label (results_of t) c in
    option_and_then (pass c rest) (option_and_then (λ low. option_and_then (λ arm. option_and_then (closed t low) (pass inner else_arm fresh)) (option_and_then (closed t low) (pass inner then_arm fresh))) (taken (I32 ∷ []) s))
pass c (br_table labels default rest) s = option_and_then (pass c rest) (pass_type (table_type c labels default) s)
