-- The score by which nodes with fewer untolerated taints come first (Kubernetes, "Scheduler
-- Configuration", "Scheduling plugins": TaintToleration).
use Rattle.std.specs.Prelude.{ℕ, ◌-◌, ◌*◌, ◌/◌, ◌==◌, if◌then◌else◌}

-- a node with `count` such taints, where the most that a node has is `most`: 100 where no node has
-- any, and else 100 less the hundredths of the most, rounded down
unfoldable pub taint_score : (count most : ℕ) → ℕ
taint_score count most = if most == 0 then 100 else 100 - 100 * count / most
