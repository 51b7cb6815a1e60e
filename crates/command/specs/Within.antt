-- The limits within which what the words ask for stays.
use Rattle.std.specs.Prelude.{◌≡◌, ℕ, ◌≤◌, ⊤, List, length, Some, slice_get}
use Rattle.std.specs.List.{All}
use Rattle.quant.specs.declared.limits.TheConstants.{MAX_PLUGINS, MAX_WEIGHT, MAX_FUEL, MAX_WORKERS}
use Rattle.command.specs.declared.asked.Plan.{Plan}
use Rattle.command.specs.declared.asked.StormPlan.{StormPlan}
use Rattle.command.specs.declared.asked.Spec.{Spec}
use Rattle.command.specs.declared.asked.Words.{Words}
use Rattle.command.specs.declared.count.TheConstants.{MAX_STORM_THREADS}
use Rattle.command.specs.declared.asked.Words.TheVariants.{Run, Explain, Storm, Check, Translate, Live, Version}

-- a plugin's weight and fuel are within their limits
pub record IsWithinLimits (spec : Spec) : Type 0 where
  pub least_weight : 1 ≤ spec.weight
  pub most_weight : spec.weight ≤ MAX_WEIGHT
  pub least_fuel : 1 ≤ spec.fuel
  pub most_fuel : spec.fuel ≤ MAX_FUEL

-- no two plugins have one name
abbrev pub HaveDistinctNames : List Spec → Type 0
HaveDistinctNames specs =
    (j k : ℕ) (spec other : Spec) → slice_get specs j ≡ Some spec → slice_get specs k ≡ Some other → spec.name ≡ other.name → j ≡ k

-- plugins are within their limits
pub record AreWithinLimits (specs : List Spec) : Type 0 where
  pub most : length specs ≤ MAX_PLUGINS
  pub limits : All IsWithinLimits specs
  pub names : HaveDistinctNames specs

-- a run is within its limits
pub record IsPlan (plan : Plan) : Type 0 where
  pub least_workers : 1 ≤ plan.workers
  pub most_workers : plan.workers ≤ MAX_WORKERS
  pub specs : AreWithinLimits plan.specs.items

-- a storm is within its limits
pub record IsStormPlan (plan : StormPlan) : Type 0 where
  pub least_cycles : 1 ≤ plan.cycles
  pub most_cycles : plan.cycles ≤ MAX_STORM_THREADS
  pub least_binders : 1 ≤ plan.binders
  pub most_binders : plan.binders ≤ MAX_STORM_THREADS
  pub specs : AreWithinLimits plan.specs.items

-- what is asked for is within its limits
abbrev pub IsWithin : Words → Type 0
IsWithin (Run plan) = IsPlan plan
IsWithin (Explain plan) = IsPlan plan
IsWithin (Storm plan) = IsStormPlan plan
IsWithin (Check file) = ⊤
IsWithin (Translate plan) = ⊤
IsWithin (Live plan) = IsPlan plan.plan
IsWithin Version = ⊤
