-- The lines of a snapshot's rows.
use Rattle.std.proofs.Common.{◌≡◌, ◌∙◌, ◌+◌, ◌<◌, List, [], ◌∷◌, ◌++◌, get_or, length, map, refl, sym, take, ap}
use Rattle.std.proofs.lemmas.List.{flat_map_more, take_more}
use Rattle.std.specs.List.{flat_map}
use Rattle.std.specs.Prelude.{ℕ}
use Rattle.desk.specs.Shown.{shown}
use Rattle.desk.specs.declared.snapshot.Row.{Row}
use Rattle.output_lines.specs.Text.{node_line}
use Rattle.output_lines.specs.Replies.{snapshot_lines}

-- the line of a row
abbrev pub row_line : Row → List ℕ
row_line row = node_line row.node row.used

-- the lines of the rows are those of what they show
pub flat_map-shown : (rows : List Row) → flat_map row_line rows ≡ snapshot_lines (map shown rows)
flat_map-shown [] = refl
flat_map-shown (row ∷ rows) = ap (λ t. row_line row ++ t) (flat_map-shown rows)

-- one element more
pub one_more : {X : Type 0} (f : X → List ℕ) (xs : List X) (i : ℕ) (x : X) → i < length xs → x ≡ get_or xs i x → flat_map f (take i xs) ++ f x ≡ flat_map f (take (i + 1) xs)
one_more f xs i x below is = flat_map_more f [] (take i xs) x ∙ ap (flat_map f) (ap (λ y. take i xs ++ y ∷ []) is ∙ sym (take_more xs i x below))
