-- What contracts see of the book's tables: a finite map, and how many entries there is room for.
use Rattle.std.specs.Prelude.{◌&&◌, ℕ, List, Bool, not, map, nat_le}
use Rattle.std.specs.FinMap.{FinMap, contains_key, len}
use Rattle.book.specs.Cluster.{name_cmp}

-- a key is new, and the table has as many entries as there is room for
abbrev pub is_full_for : {X : Type 0} → FinMap name_cmp X → ℕ → List ℕ → Bool
is_full_for map room key = not (contains_key map key) && nat_le room (len map)
