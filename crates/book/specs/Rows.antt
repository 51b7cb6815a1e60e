-- The rows of the node table, as the code keeps them.
use Rattle.std.specs.Prelude.{◌≡◌, ℕ, ◌<◌, List, map, length}
use Rattle.std.specs.declared.cmp.Ordering.{Ordering}
use Rattle.std.specs.declared.cmp.Ordering.TheVariants.{Less, Equal, Greater}
use Rattle.std.specs.List.{HoldsAt}
use Rattle.std.specs.List.Sorted.{IsPartitionPoint}
use Rattle.std.specs.FinMap.{entries}
use Rattle.quant.specs.declared.objects.Node.{Node}
use Rattle.book.specs.Cluster.{name_cmp, Nodes}

-- rows, wherever they lie in memory
abbrev pub Rows : Type 0
Rows = List Node

-- a row with its name
abbrev pub named_row : Node → List ℕ × Node
named_row row = (row.name, row)

-- the rows with their names
abbrev pub named : Rows → List (List ℕ × Node)
named rows = map named_row rows

-- the rows of a node table, in the order of their names' bytes
abbrev pub rows_in : Nodes → Rows
rows_in nodes = map (λ e. e.1) (entries nodes)

-- how a row's name compares with a name
abbrev pub compared : List ℕ → Node → Ordering
compared name row = name_cmp row.name name

-- the row at this place has the name
pub record IsRowOf (rows : Rows) (name : List ℕ) (at : ℕ) : Type 0 where
  pub in_range : at < length rows
  pub same : HoldsAt (λ row. compared name row ≡ Equal) rows at

-- no row has the name, and it would go to this place
abbrev pub IsGapFor : Rows → List ℕ → ℕ → Type 0
IsGapFor rows name at = IsPartitionPoint (λ row. compared name row ≡ Less) (λ row. compared name row ≡ Greater) rows at
