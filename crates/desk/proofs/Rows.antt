-- What a look shows of the book's rows.
use Rattle.std.proofs.Common.{◌≡◌, List, [], ◌∷◌, map, length, refl, sym, ap, ◌∙◌}
use Rattle.std.proofs.lemmas.List.{length-map}
use Rattle.std.specs.FinMap as fin
use Rattle.quant.specs.declared.amount.Res.{Res}
use Rattle.quant.specs.declared.objects.Node.{Node}
use Rattle.book.specs.Cluster.{Nodes, Places}
use Rattle.book.specs.Used.{used}
use Rattle.book.specs.Rows.{named, named_row}
use Rattle.desk.specs.Shown.{Shown}

-- the snapshot of a state with these nodes and places
abbrev pub shows : Nodes → Places → List Shown
shows nodes places = map (λ e. record { node = e.1; used = used places e.0 }) (fin.entries nodes)

-- what a look shows of a row
abbrev pub shown_of : Places → Node → Shown
shown_of places row = record { node = row; used = used places row.name }

-- the rows are shown one by one
shown_each : (places : Places) (nodes : List Node) → map (λ e. record { node = e.1; used = used places e.0 }) (named nodes) ≡ map (shown_of places) nodes
shown_each places [] = refl
shown_each places (node ∷ nodes) = ap (λ r. shown_of places node ∷ r) (shown_each places nodes)

-- rows that list the entries of a map show it
pub shown_all : (nodes : List Node) (m : Nodes) (places : Places) → named nodes ≡ fin.entries m → map (shown_of places) nodes ≡ shows m places
shown_all nodes m places h = sym (shown_each places nodes) ∙ ap (map (λ e. record { node = e.1; used = used places e.0 })) h

-- what is used of each entry of a map is what is used of each row
used_each : (places : Places) (nodes : List Node) → map (λ e. used places e.0) (named nodes) ≡ map (λ node. used places node.name) nodes
used_each places [] = refl
used_each places (node ∷ nodes) = ap (λ r. used places node.name ∷ r) (used_each places nodes)

-- so amounts that list it stand beside the rows
pub beside_rows : (nodes : List Node) (m : Nodes) (places : Places) (totals : List Res) → named nodes ≡ fin.entries m → totals ≡ map (λ e. used places e.0) (fin.entries m) → totals ≡ map (λ node. used places node.name) nodes
beside_rows nodes m places totals h t = t ∙ ap (map (λ e. used places e.0)) (sym h) ∙ used_each places nodes

-- as many as there are
pub as_many_rows : (nodes : List Node) (m : Nodes) (places : Places) (totals : List Res) → named nodes ≡ fin.entries m → totals ≡ map (λ e. used places e.0) (fin.entries m) → length totals ≡ length nodes
as_many_rows nodes m places totals h t = ap length (beside_rows nodes m places totals h t) ∙ length-map nodes (λ node. used places node.name)

-- and it has as many as there are rows
pub len_all : (nodes : List Node) (m : Nodes) → named nodes ≡ fin.entries m → fin.len m ≡ length nodes
len_all nodes m h = fin.len-entries m ∙ ap length (sym h) ∙ length-map nodes named_row
