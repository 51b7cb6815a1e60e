-- How a call ends: chains of reductions, and what fuel has to do with them.
use Rattle.std.specs.Prelude.{◌≡◌, ℕ, zero, suc, ◌+◌, ◌<◌, ◌≤◌, List, [], ◌∷◌, Option, Some, None}
use Rattle.wcode.specs.declared.value.Value.{Value}
use Rattle.wcode.specs.Syntax.{done}
use Rattle.wmach.specs.declared.outcome.Outcome.{Outcome}
use Rattle.wmach.specs.declared.outcome.Outcome.TheVariants as outcome
use Rattle.wmach.specs.Configuration.{Store, Setting, Execution, instructions, label, frame, invoke, trap, Configuration, Reduction}
use Rattle.wmach.specs.Reduction.{reduce}

-- one reduction of a whole configuration
abbrev pub next : Setting → Configuration → Option Reduction
next setting c = reduce setting 0 c.store c.locals c.execution

-- So many reductions, one after the other, lead from one configuration to another. The cost is
-- their sum.
abbrev pub Chain : Setting → ℕ → Configuration → (cost : ℕ) → Configuration → Type 0
Chain setting zero from cost to = (from ≡ to) × (cost ≡ 0)
Chain setting (suc n) from cost to =
    (r : Reduction) × (next setting from ≡ Some r) × ((others : ℕ) × (cost ≡ r.cost + others) × Chain setting n (r.to) others to)

-- the end of a call: a trap, or just values
abbrev pub IsEnd : Execution → Type 0
IsEnd (instructions values rest) = rest ≡ done
IsEnd (label below arity continuation inside rest) = ⊥
IsEnd (frame below arity locals inside rest) = ⊥
IsEnd (invoke below function rest) = ⊥
IsEnd (trap t) = Unit {0}

-- not ended, and no rule applies
abbrev pub Stuck : Setting → Configuration → Type 0
Stuck setting c = ¬ (IsEnd (c.execution)) × (next setting c ≡ None)

-- the values of a result, which is one value or none
abbrev pub values_of : Option Value → List Value
values_of None = []
values_of (Some v) = v ∷ []

-- a call of the function with this index, with no arguments
abbrev pub call_of : Store → ℕ → Configuration
call_of store function = record { store = store; locals = []; execution = invoke [] function done }

-- what a call cost
abbrev pub cost_of : Outcome → ℕ
cost_of (outcome.Value result cost) = cost
cost_of (outcome.Trap name cost) = cost
cost_of (outcome.Exhausted cost) = cost

-- The outcome of a call with so much fuel, and the store where its chain stands.
abbrev pub HasOutcome : Setting → Store → (function fuel : ℕ) → Outcome → (after : Store) → Type 0
HasOutcome setting before function fuel (outcome.Value result cost) after =
    (n : ℕ) × (cost ≤ fuel) × Chain setting n (call_of before function) cost (record { store = after; locals = []; execution = instructions (values_of result) done })
HasOutcome setting before function fuel (outcome.Trap name cost) after =
    (n : ℕ) × (cost ≤ fuel) × Chain setting n (call_of before function) cost (record { store = after; locals = []; execution = trap name })
HasOutcome setting before function fuel (outcome.Exhausted cost) after =
    (n : ℕ) × (c : Configuration) × (r : Reduction) × (cost ≤ fuel) × Chain setting n (call_of before function) cost c × (next setting c ≡ Some r) × (fuel < cost + r.cost) × (c.store ≡ after)
