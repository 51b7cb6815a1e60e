-- Entries as configured plugins.
use Rattle.std.specs.Prelude.{ℕ, ◌≤◌, List, map, length}
use Rattle.std.specs.List.{All}
use Rattle.std.specs.Arc.{arc_value}
use Rattle.plugin.specs.declared.plugins.Entry.{Entry}
use Rattle.plugin.specs.declared.plugins.Plugins.TheInside.{Inside}
use Rattle.plugin.specs.Plugins.{Configured, IsWeight, IsFuel}

-- the plugin of a name and what stands under it
abbrev pub configured : List ℕ × Entry → Configured
configured e = record { name = e.0; weight = e.1.weight; fuel = e.1.fuel; content = (arc_value e.1.checked).content }

-- the entries in their order
abbrev pub plugins_of : Inside → List Configured
plugins_of p = map configured p.entries.entries

-- there are at most 16 entries, and each one's weight and fuel are within their limits
pub record AreEntries (p : Inside) : Type 0 where
  pub most : length p.entries.entries ≤ 16
  pub weights : All (λ e. IsWeight e.1.weight) p.entries.entries
  pub fuels : All (λ e. IsFuel e.1.fuel) p.entries.entries
