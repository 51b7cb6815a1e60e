-- The plugins of a site, in the order in which they are configured.
use Rattle.std.specs.Prelude.{◌≡◌, ℕ, ◌≤◌, ◌^◌, List, map, length, Some, slice_get}
use Rattle.std.specs.List.{All, Contains}
use Rattle.wmodule.specs.Syntax.{ModuleParts}

-- a plugin: its name, how much its score counts, how much fuel its start function and each of its
-- calls have, and its module
pub record Configured : Type 0 where
  pub name : List ℕ
  pub weight : ℕ
  pub fuel : ℕ
  pub content : ModuleParts

-- the plugins' names
abbrev pub names : List Configured → List (List ℕ)
names plugins = map (λ p. p.name) plugins

-- one of the plugins has this name
abbrev pub IsTaken : List Configured → (name : List ℕ) → Type 0
IsTaken plugins name = Contains (names plugins) name

-- a weight is from 1 to 10
pub record IsWeight (weight : ℕ) : Type 0 where
  pub least : 1 ≤ weight
  pub most : weight ≤ 10

-- fuel is from 1 to 10^9
pub record IsFuel (fuel : ℕ) : Type 0 where
  pub least : 1 ≤ fuel
  pub most : fuel ≤ 10 ^ 9

-- no two of the plugins have one name
abbrev pub HaveDistinctNames : List Configured → Type 0
HaveDistinctNames plugins =
    (j k : ℕ) (plugin other : Configured) → slice_get plugins j ≡ Some plugin → slice_get plugins k ≡ Some other → plugin.name ≡ other.name → j ≡ k

-- plugins are within their limits: a site can have them
pub record AreWithinLimits (plugins : List Configured) : Type 0 where
  pub most : length plugins ≤ 16
  pub weights : All (λ p. IsWeight p.weight) plugins
  pub fuels : All (λ p. IsFuel p.fuel) plugins
  pub names : HaveDistinctNames plugins
