-- The totals that the book keeps, and what ties them to the places.
use Rattle.std.specs.Prelude.{◌≡◌, ℕ, ◌+◌, ◌*◌, ◌≤◌, ◌==◌, Bool, true, false, List, if◌then◌else◌, unwrap_or, sum_by}
use Rattle.std.specs.Str.{bytes_eq}
use Rattle.std.specs.FinMap.{FinMap, get, len, values}
use Rattle.quant.specs.declared.amount.Res.{Res}
use Rattle.quant.specs.declared.limits.TheConstants.{MAX_CPU, MAX_MEM, MAX_PLACED}
use Rattle.quant.specs.declared.amount.Request.{Request}
use Rattle.book.specs.Cluster.{name_cmp, Places}
use Rattle.book.specs.Used.{nothing, used, assumed}

-- the totals of nodes, by name
abbrev pub Totals : Type 0
Totals = FinMap name_cmp Res

-- a node's total: nothing, where none is kept
abbrev pub total_at : Totals → List ℕ → Res
total_at totals node = unwrap_or (get totals node) nothing

-- the sum of two amounts, number by number
abbrev pub plus : Res → Res → Res
plus a b = record { cpu = record { 0 = a.cpu.0 + b.cpu.0 }; mem = record { 0 = a.mem.0 + b.mem.0 }; pods = a.pods + b.pods }

-- what one pod with this request uses
abbrev pub one_pod : Request → Res
one_pod request = record { cpu = request.cpu; mem = request.mem; pods = 1 }

-- what a pod on one node adds to another, or to that one
abbrev pub adds : List ℕ → Request → List ℕ → Res
adds home request node = if bytes_eq home node then one_pod request else nothing

-- no more than as many pods can use
abbrev pub most_of : ℕ → Res
most_of pods = record { cpu = record { 0 = pods * MAX_CPU }; mem = record { 0 = pods * MAX_MEM }; pods = pods }

-- how many pods the totals count together
abbrev pub pods_in : Totals → ℕ
pods_in totals = sum_by (λ r. r.pods) (values totals)

-- 1 for a total that counts no pod, and 0 for any other
abbrev pub idle_if : Bool → ℕ
idle_if true = 1
idle_if false = 0

abbrev pub idle : Res → ℕ
idle total = idle_if (total.pods == 0)

-- how many totals count no pod
abbrev pub idle_in : Totals → ℕ
idle_in totals = sum_by idle (values totals)

-- the kept numbers are those of the places, and there is room for a total for each
pub record IsCounted (places : Places) (most : ℕ) (totals : Totals) (totals_most : ℕ) (kept : ℕ) : Type 0 where
  pub each : (node : List ℕ) → total_at totals node ≡ used places node
  pub assumed : kept ≡ assumed places
  pub pods : pods_in totals ≡ len places
  pub in_use : idle_in totals ≡ 0
  pub few : len places ≤ most
  pub small : most ≤ MAX_PLACED
  pub same : totals_most ≡ most
