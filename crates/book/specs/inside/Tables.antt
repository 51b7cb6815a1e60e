-- The book's tables as they stand: with their rooms, and what is used beside the nodes.
use Rattle.std.specs.Prelude.{◌≡◌, ℕ, List, false, map}
use Rattle.std.specs.Str.{bytes_eq}
use Rattle.std.specs.FinMap.{FinMap, entries}
use Rattle.quant.specs.declared.amount.Res.{Res}
use Rattle.book.specs.Cluster.{name_cmp, Nodes}

-- what a table holds by name, and how many names it may hold
pub record Held (X : Type 0) : Type 0 where
  pub map : FinMap name_cmp X
  pub room : ℕ

-- the nodes by name, how many there may be, and what is used of each, in the order of their names'
-- bytes
pub record NodeTable : Type 0 where
  pub map : Nodes
  pub room : ℕ
  pub used : List Res

-- what is used of each node is what a function has for its name
abbrev pub IsShown : (List ℕ → Res) → NodeTable → Type 0
IsShown f t = t.used ≡ map (λ e. f e.0) (entries t.map)

-- two functions have the same for each name but one
abbrev pub IsAlikeBut : List ℕ → (List ℕ → Res) → (List ℕ → Res) → Type 0
IsAlikeBut name f g = (other : List ℕ) → bytes_eq name other ≡ false → g other ≡ f other
