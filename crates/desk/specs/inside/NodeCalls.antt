-- The calls of a history that tell of nodes, and the nodes that a history leaves.
use Rattle.std.specs.Prelude.{ℕ, Bool, List, is_some, map, count_by}
use Rattle.std.specs.FinMap.{entries}
use Rattle.quant.specs.declared.objects.Node.{Node}
use Rattle.book.specs.Cluster.{Cluster}
use Rattle.desk.specs.declared.snapshot.Row.{Row}
use Rattle.desk.specs.declared.step.Step.{Step}
use Rattle.desk.specs.History.{Call, node_in}

-- a step that tells of a node
abbrev pub tells_of_node : Step → Bool
tells_of_node e = is_some (node_in e)

-- how many calls of a history tell of a node, whether they were taken or refused
abbrev pub calls_on_nodes : List Call → ℕ
calls_on_nodes l = count_by (λ c. tells_of_node c.step) l

-- the nodes of a cluster, in the order of their names' bytes
abbrev pub nodes_in : Cluster → List Node
nodes_in c = map (λ e. e.1) (entries c.nodes)

-- the nodes that rows show
abbrev pub nodes_of : List Row → List Node
nodes_of rows = map (λ row. row.node) rows
