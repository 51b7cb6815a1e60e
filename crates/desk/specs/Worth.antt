-- What plain nodes are worth to pods of a request, and which of them goes first by that.
use Rattle.std.specs.Prelude.{◌≡◌, ℕ, ◌+◌, ◌<◌, ◌≤◌, true, if◌then◌else◌, List, length, map, Option, Some, None, slice_index}
use Rattle.std.specs.List.{All}
use Rattle.quant.specs.declared.amount.Request.{Request}
use Rattle.fit.specs.Fit.{fit_of}
use Rattle.fit.specs.Score.{least_allocated_score, score_from}
use Rattle.desk.specs.Plain.{is_plain}
use Rattle.desk.specs.Shown.{Shown}
use Rattle.desk.specs.declared.sought.Sought.{Sought}

-- one more than a score, if there is one
abbrev pub after_score : Option ℕ → ℕ
after_score None = 0
after_score (Some score) = score + 1

-- what a node is worth to a request: one more than its score where it is plain and has room, and
-- else 0
abbrev pub worth : Request → Shown → ℕ
worth request s =
    if is_plain s.node then after_score (score_from 0 (fit_of s.node.allocatable s.used request) (least_allocated_score s.node.allocatable s.used request)) else 0

-- the first of the greatest numbers, which isn't 0; or all are 0
abbrev pub IsFirstGreatest : List ℕ → Option ℕ → Type 0
IsFirstGreatest worths None = (k : ℕ) → k < length worths → slice_index worths k ≡ 0
IsFirstGreatest worths (Some at) = (at < length worths) × (1 ≤ slice_index worths at)
    × ((k : ℕ) → k < length worths → slice_index worths k ≤ slice_index worths at)
    × ((k : ℕ) → k < at → slice_index worths k < slice_index worths at)

-- all nodes are plain
abbrev pub ArePlain : List Shown → Type 0
ArePlain nodes = All (λ s. is_plain s.node ≡ true) nodes

-- what was sought among these nodes was found
pub record IsSought (nodes : List Shown) (sought : Sought) : Type 0 where
  pub first : IsFirstGreatest (map (worth sought.request) nodes) sought.first
  pub plain : sought.all_plain ≡ true → ArePlain nodes
