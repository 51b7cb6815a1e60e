-- What a look shows of a node.
use Rattle.quant.specs.declared.objects.Node.{Node}
use Rattle.quant.specs.declared.amount.Res.{Res}
use Rattle.desk.specs.declared.snapshot.Row.{Row}

-- a node's row, and what the pods on it use together
pub record Shown : Type 0 where
  pub node : Node
  pub used : Res

-- a row of a snapshot, without where the node's row lies in memory
abbrev pub shown : Row → Shown
shown row = record { node = row.node; used = row.used }
