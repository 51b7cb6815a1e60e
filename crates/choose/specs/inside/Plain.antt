-- What is decided where there is no rule, and it is known which plain node goes first.
use Rattle.std.specs.Prelude.{◌≡◌, ℕ, ◌<◌, ◌≤◌, Bool, true, ◌&&◌, ◌||◌, ◌==◌, nat_lt, if◌then◌else◌, List, length, map, Option, Some, None, IfSome, slice_index_or}
use Rattle.quant.specs.declared.objects.Pod.{Pod}
use Rattle.desk.specs.declared.snapshot.Row.{Row}
use Rattle.desk.specs.Plain.{is_plain}
use Rattle.desk.specs.Shown.{Shown, shown}
use Rattle.choose.specs.declared.best.Found.{Found}
use Rattle.choose.specs.declared.alone.Told.{Told}
use Rattle.choose.specs.Choice.{Judged, total_of}
use Rattle.choose.specs.inside.Alone.{alone, judged_alone, told_of}
use Rattle.choose.specs.inside.Finding.{node_at}

-- the total of the node at a place
abbrev pub total_at : (most : ℕ) → List Judged → ℕ → Option ℕ
total_at most nodes k = total_of most (node_at nodes k).verdict

-- the node at a place doesn't go before what was found
abbrev pub GoesAfter : (most : ℕ) → List Judged → Option Found → ℕ → Type 0
GoesAfter most nodes None k = total_at most nodes k ≡ None
GoesAfter most nodes (Some found) k = IfSome (total_at most nodes k) (λ total. (total ≤ found.worth) × (total ≡ found.worth → found.at ≤ k))

-- what was found is a node that passes, with its total
abbrev pub IsPassing : (most : ℕ) → List Judged → Found → Type 0
IsPassing most nodes found = (found.at < length nodes) × (total_at most nodes found.at ≡ Some found.worth)

-- what was found passes, and no plain node goes before it
pub record LeadsPlain (most : ℕ) (pod : Pod) (rows : List Row) (first : Option Found) : Type 0 where
  pub there : IfSome first (IsPassing most (judged_alone pod (map shown rows)))
  pub leads : (k : ℕ) (row : Row) → k < length rows → row ≡ slice_index_or rows k row → is_plain row.node ≡ true → GoesAfter most (judged_alone pod (map shown rows)) first k

-- what is told of a node that isn't plain, and nothing of one that is
abbrev pub told_unless_plain : (most : ℕ) → Pod → Shown → Told
told_unless_plain most pod s = if is_plain s.node then record { count = 0; worth = None } else told_of most 0 (alone pod s)

-- a node with a total goes behind what was found: that is worth more, or as much and stands before
-- it
abbrev pub goes_later : Found → (at worth : ℕ) → Bool
goes_later found at worth = nat_lt worth found.worth || ((worth == found.worth) && nat_lt found.at at)

-- which goes first, what was found so far, or one more
abbrev pub first_of_both : Option Found → (at : ℕ) → Option ℕ → Option Found
first_of_both first at None = first
first_of_both None at (Some worth) = Some (record { at = at; worth = worth })
first_of_both (Some found) at (Some worth) = if goes_later found at worth then Some found else Some (record { at = at; worth = worth })
