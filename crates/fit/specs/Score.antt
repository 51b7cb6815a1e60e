-- How much of a node would be left with a pod on it (Kubernetes, "Scheduler Configuration",
-- "Scheduling plugins": NodeResourcesFit with the strategy LeastAllocated).
use Rattle.std.specs.Prelude.{ℕ, ◌+◌, ◌-◌, ◌*◌, ◌/◌, ◌||◌, ◌==◌, nat_le, nat_lt, if◌then◌else◌, Option, Some, None, Result, Ok, Err}
use Rattle.quant.specs.declared.amount.Res.{Res}
use Rattle.quant.specs.declared.amount.Request.{Request}
use Rattle.fit.specs.declared.room.Shortage.{Shortage}

-- the hundredths of a resource that are left, rounded down: none where there is nothing allocatable
-- or more is used
abbrev pub part_left : (allocatable used : ℕ) → ℕ
part_left allocatable used =
    if (allocatable == 0) || nat_lt allocatable used then 0 else (allocatable - used) * 100 / allocatable

-- the mean of what is left of CPU and of memory, rounded down, where the pod is counted as used
unfoldable pub least_allocated_score : (allocatable used : Res) → Request → ℕ
least_allocated_score allocatable used request =
    (part_left allocatable.cpu.0 (used.cpu.0 + request.cpu.0)
    + part_left allocatable.mem.0 (used.mem.0 + request.mem.0)) / 2

-- a score, where the pod fits and it is at least so much
abbrev pub score_from : (least : ℕ) → Result (Unit {0}) Shortage → (score : ℕ) → Option ℕ
score_from least (Ok fits) score = if nat_le least score then Some score else None
score_from least (Err shortage) score = None
