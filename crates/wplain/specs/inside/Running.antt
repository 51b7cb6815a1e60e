-- What one reduction more of a call comes to.
use Rattle.std.specs.Prelude.{◌≡◌, ℕ, ◌+◌, ◌<◌, ◌≤◌, [], Option, Some, None}
use Rattle.wcode.specs.Syntax.{done}
use Rattle.wmach.specs.declared.outcome.Outcome.{Outcome}
use Rattle.wmach.specs.declared.outcome.Outcome.TheVariants as outcome
use Rattle.wmach.specs.Configuration.{Setting, Store, Configuration, Reduction, instructions, trap}
use Rattle.wmach.specs.Outcome.{next, values_of}
use Rattle.wplain.specs.inside.Seen.{execution_of}
use Rattle.wplain.specs.declared.evaluation.Running.{Running}

-- where a call stands that has this store
abbrev pub configuration_of : Store → Running → Configuration
configuration_of store r = record { store = store; locals = r.locals.items; execution = execution_of r.execution }

-- a call has ended there, with just this outcome
abbrev pub EndsAs : Running → Outcome → Type 0
EndsAs r (outcome.Value result cost) = (r.locals.items ≡ []) × (execution_of r.execution ≡ instructions (values_of result) done) × (cost ≡ r.cost)
EndsAs r (outcome.Trap name cost) = (r.locals.items ≡ []) × (execution_of r.execution ≡ trap name) × (cost ≡ r.cost)
EndsAs r (outcome.Exhausted cost) = ⊥

-- the next reduction would bring the cost above the fuel
abbrev pub EndsFor : Setting → (fuel : ℕ) → Store → Running → Outcome → Type 0
EndsFor setting fuel store r (outcome.Value result cost) = EndsAs r (outcome.Value result cost)
EndsFor setting fuel store r (outcome.Trap name cost) = EndsAs r (outcome.Trap name cost)
EndsFor setting fuel store r (outcome.Exhausted cost) = (n : Reduction) × (next setting (configuration_of store r) ≡ Some n) × (fuel < cost + n.cost) × (cost ≡ r.cost)

-- a reduction from one place to the next, within the fuel
pub record Reduces (setting : Setting) (fuel : ℕ) (before : Store) (from : Running) (after : Store) (to : Running) : Type 0 where
  pub reduction : Reduction
  pub is : next setting (configuration_of before from) ≡ Some reduction
  pub leads_there : reduction.to ≡ configuration_of after to
  pub cost : to.cost ≡ from.cost + reduction.cost
  pub within : to.cost ≤ fuel

-- the outcome of a call that goes no further, or one reduction more
abbrev pub Goes : Setting → (fuel : ℕ) → (before : Store) → (from : Running) → (after : Store) → (to : Running) → Option Outcome → Type 0
Goes setting fuel before from after to (Some o) = EndsFor setting fuel before from o × (after ≡ before)
Goes setting fuel before from after to None = Reduces setting fuel before from after to
