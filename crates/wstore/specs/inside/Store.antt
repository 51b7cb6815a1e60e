-- The least size of a memory or a table.
use Rattle.std.specs.Prelude.{ℕ, List, [], ◌∷◌}
use Rattle.wmodule.specs.declared.module.Limits.{Limits}

-- how many there are at first, of the memory or the table of these limits
abbrev pub least_of : List Limits → ℕ
least_of [] = 0
least_of (l ∷ ls) = l.least
