-- In which order a look shows the nodes.
use Rattle.std.specs.Prelude.{◌≡◌, ℕ, ◌<◌, true, List, [], length, map, slice_index_or}
use Rattle.quant.specs.Name.{is_before}
use Rattle.desk.specs.Shown.{Shown}

-- the name of the node at a place
abbrev pub name_at : List Shown → ℕ → List ℕ
name_at nodes at = slice_index_or (map (λ shown. shown.node.name) nodes) at []

-- the nodes stand in the order of their names' bytes, and no two of them have one name
abbrev pub AreInOrder : List Shown → Type 0
AreInOrder nodes = (i j : ℕ) → i < j → j < length nodes → is_before (name_at nodes i) (name_at nodes j) ≡ true
