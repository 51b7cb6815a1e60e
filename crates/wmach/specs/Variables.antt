-- The parametric and the variable instructions (WebAssembly Core 1.0, 4.4.2 and 4.4.3).
use Rattle.std.specs.Prelude.{ℕ, List, ◌∷◌, Option, None, option_and_then, length, slice_get, slice_set, nat_lt, ◌==◌, if◌then◌else◌}
use Rattle.wcode.specs.declared.value.ValueType.TheVariants.{I32}
use Rattle.wcode.specs.declared.value.Value.{Value}
use Rattle.wcode.specs.declared.instruction.Plain.TheVariants.{LocalSet}
use Rattle.wcode.specs.Syntax.{Body, plain}
use Rattle.wmach.specs.Configuration.{Store, instructions, Reduction, leads_to}
use Rattle.wmach.specs.Operands.{with_any, with_one}

-- drop
abbrev pub reduce_drop : Store → (locals values : List Value) → (rest : Body) → Option Reduction
reduce_drop store locals values rest = with_any values (λ v below. leads_to 1 store locals (instructions below rest))

-- select: the lower one of two where the condition isn't zero, and else the upper one
abbrev pub reduce_select : Store → (locals values : List Value) → (rest : Body) → Option Reduction
reduce_select store locals values rest =
    with_one I32 values (λ condition others. with_any others (λ second more. with_any more (λ first below.
    leads_to 1 store locals (instructions ((if condition == 0 then second else first) ∷ below) rest))))

-- local.get x
abbrev pub reduce_local_get : Store → (locals values : List Value) → (x : ℕ) → (rest : Body) → Option Reduction
reduce_local_get store locals values x rest =
    option_and_then (λ v. leads_to 1 store locals (instructions (v ∷ values) rest)) (slice_get locals x)

-- local.set x
abbrev pub reduce_local_set : Store → (locals values : List Value) → (x : ℕ) → (rest : Body) → Option Reduction
reduce_local_set store locals values x rest =
    with_any values (λ v below. if nat_lt x (length locals) then leads_to 1 store (slice_set locals x v) (instructions below rest) else None)

-- local.tee x: the value once more, and then local.set x
abbrev pub reduce_local_tee : Store → (locals values : List Value) → (x : ℕ) → (rest : Body) → Option Reduction
reduce_local_tee store locals values x rest =
    with_any values (λ v below. leads_to 1 store locals (instructions (v ∷ v ∷ below) (plain (LocalSet x) rest)))

-- global.get x
abbrev pub reduce_global_get : Store → (locals values : List Value) → (x : ℕ) → (rest : Body) → Option Reduction
reduce_global_get store locals values x rest =
    option_and_then (λ v. leads_to 1 store locals (instructions (v ∷ values) rest)) (slice_get store.globals x)

-- global.set x
abbrev pub reduce_global_set : Store → (locals values : List Value) → (x : ℕ) → (rest : Body) → Option Reduction
reduce_global_set store locals values x rest =
    with_any values (λ v below. if nat_lt x (length store.globals) then leads_to 1 (record store { globals = slice_set store.globals x v }) locals (instructions below rest) else None)
