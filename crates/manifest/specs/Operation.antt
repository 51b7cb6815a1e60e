-- How a script spells the names of its operations.
use Rattle.std.specs.Prelude.{ℕ, List, codes, bytes_eq, Option, Some, None, if◌then◌else◌}
use Rattle.manifest.specs.declared.operation.Operation.{Operation}
use Rattle.manifest.specs.declared.operation.Operation.TheVariants.{Node, Gone, Pod, Bound, Deleted, Tick, Cycle, Done, Forget, Dump, Judge}

-- the operation of a name
unfoldable pub operation_named : List ℕ → Option Operation
operation_named name =
    if bytes_eq name (codes "node") then Some Node
    else if bytes_eq name (codes "gone") then Some Gone
    else if bytes_eq name (codes "pod") then Some Pod
    else if bytes_eq name (codes "bound") then Some Bound
    else if bytes_eq name (codes "deleted") then Some Deleted
    else if bytes_eq name (codes "tick") then Some Tick
    else if bytes_eq name (codes "cycle") then Some Cycle
    else if bytes_eq name (codes "done") then Some Done
    else if bytes_eq name (codes "forget") then Some Forget
    else if bytes_eq name (codes "dump") then Some Dump
    else if bytes_eq name (codes "judge") then Some Judge
    else None
