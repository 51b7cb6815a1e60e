-- How much a run may hold.
use Rattle.std.proofs.Common.{lit≤}
use Rattle.quant.specs.declared.limits.TheConstants.{MAX_NODES, MAX_PLACED, MAX_QUEUED}
use Rattle.book.specs.declared.limits.Limits.{Limits}

-- the program's limits, the greatest that there are
abbrev pub limits : Limits
limits = record { nodes = MAX_NODES; placed = MAX_PLACED; queued = MAX_QUEUED; few_nodes = lit≤ tt; few_placed = lit≤ tt; few_queued = lit≤ tt }
