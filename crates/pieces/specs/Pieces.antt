-- How nodes are cut into pieces, one a kit.
use Rattle.std.specs.Prelude.{◌≡◌, ℕ, zero, suc, ◌+◌, ◌-◌, ◌*◌, ◌/◌, ◌<◌, ◌≤◌, List, [], ◌++◌, length, take, drop}
use Rattle.desk.specs.Shown.{Shown}

-- the place at which a piece begins, where so many nodes are cut into so many pieces
abbrev pub begins : (nodes pieces piece : ℕ) → ℕ
begins nodes pieces piece = piece * nodes / pieces

-- how many nodes some pieces have, from the first of them on
abbrev pub places_of : (nodes pieces first many : ℕ) → ℕ
places_of nodes pieces first many = begins nodes pieces (first + many) - begins nodes pieces first

-- the nodes of some pieces, one piece after the other
abbrev pub nodes_of : {Node : Type 0} → List Node → (pieces first many : ℕ) → List Node
nodes_of nodes pieces first many = take (places_of (length nodes) pieces first many) (drop (begins (length nodes) pieces first) nodes)

-- some of at most 64 pieces, from the first of them on, have so many places
pub record ArePieces (nodes pieces first many places : ℕ) : Type 0 where
  pub some : 0 < many
  pub few : pieces ≤ 64
  pub there : first + many ≤ pieces
  pub all : places ≡ places_of nodes pieces first many

-- the first pieces, put together in order
abbrev pub first_pieces : {Node : Type 0} → List Node → (pieces many : ℕ) → List Node
first_pieces nodes pieces zero = []
first_pieces nodes pieces (suc many) = first_pieces nodes pieces many ++ nodes_of nodes pieces many 1

-- all pieces, put together in order, are the nodes
abbrev pub PiecesAreAllNodes : Type 0
PiecesAreAllNodes = (nodes : List Shown) (pieces : ℕ) → 0 < pieces → first_pieces nodes pieces pieces ≡ nodes
