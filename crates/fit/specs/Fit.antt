-- Whether a node has room for a pod. That the sum of requests stays within what is allocatable is
-- Kubernetes' ("Resource Management for Pods and Containers", "How Pods with resource requests are
-- scheduled"); that a request of 0 passes also where more is used, and the order in which reasons
-- are told, are this project's own.
use Rattle.std.specs.Prelude.{ℕ, ◌+◌, Bool, ◌||◌, ◌==◌, nat_le, if◌then◌else◌, Result, Ok, Err}
use Rattle.quant.specs.declared.amount.Res.{Res}
use Rattle.quant.specs.declared.amount.Request.{Request}
use Rattle.fit.specs.declared.room.Shortage.{Shortage}
use Rattle.fit.specs.declared.room.Shortage.TheVariants.{Cpu, Memory, Pods}

-- there is room for what is asked of a resource: nothing is asked, or what is used and what is
-- asked are together at most what is allocatable
abbrev pub has_room : (allocatable used asked : ℕ) → Bool
has_room allocatable used asked = (asked == 0) || nat_le (used + asked) allocatable

-- a pod fits on a node, or the first resource of which there is too little, in the order CPU,
-- memory, pods. A pod always asks one place among the node's pods
unfoldable pub fit_of : (allocatable used : Res) → Request → Result (Unit {0}) Shortage
fit_of allocatable used request =
    if has_room allocatable.cpu.0 used.cpu.0 request.cpu.0
    then (if has_room allocatable.mem.0 used.mem.0 request.mem.0
    then (if has_room allocatable.pods used.pods 1 then Ok tt else Err Pods)
    else Err Memory)
    else Err Cpu
