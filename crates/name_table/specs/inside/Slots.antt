-- A number that an entry has, where there is one.
use Rattle.std.specs.Prelude.{ℕ, Option}
use Rattle.std.specs.Option.{option_map_or}
use Rattle.name_table.specs.declared.entry.Entry.{Entry}

-- a number of a slot's value, and 0 where it is free
abbrev pub number_in : {X : Type 0} → (X → ℕ) → Option (Entry X) → ℕ
number_in number o = option_map_or (λ e. number e.value) o 0
