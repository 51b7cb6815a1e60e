-- Where the runs of a function's locals end, counted from the first of them.
use Rattle.std.specs.Prelude.{ℕ, ◌+◌, ◌^◌, List, [], ◌∷◌, min}
use Rattle.wmodule.specs.declared.module.LocalRun.{LocalRun}

-- the end of a run that begins at a place. What is past every index is all one, so that the ends
-- stay small
abbrev pub end_of : (start : ℕ) → LocalRun → ℕ
end_of start r = min (start + r.count) (2 ^ 32)

-- the ends of runs of which the first begins at a place
abbrev pub ends_from : (start : ℕ) → List LocalRun → List ℕ
ends_from start [] = []
ends_from start (r ∷ rs) = end_of start r ∷ ends_from (end_of start r) rs

abbrev pub ends_of : List LocalRun → List ℕ
ends_of runs = ends_from 0 runs
