-- How the values that contracts see are stored, by which a proof tells them apart.
use Rattle.std.specs.Prelude.{ℕ, List, refl}
use Rattle.std.specs.Coded.{Coded, code_by, coded×, coded_ℕ, coded_list}
use Rattle.std.specs.FinMap.{FinMap, code}
use Rattle.quant.specs.contracts.amount.Res as res
use Rattle.quant.specs.contracts.objects.Node as node
use Rattle.quant.specs.declared.amount.Res.{Res}
use Rattle.book.specs.contracts.place.Place as place
use Rattle.book.specs.contracts.limits.Limits as limits
use Rattle.book.specs.declared.limits.Limits.{Limits}
use Rattle.book.specs.Cluster.{name_cmp, Nodes, Places, Cluster}
use Rattle.book.specs.inside.Tables.{Held, NodeTable}

-- a table is stored as the pair of its fields
abbrev pub held_code : {X : Type 0} → Coded X → Coded (Held X)
held_code {X} x =
    code_by (FinMap name_cmp X × ℕ) (coded× (code (coded_list coded_ℕ) x) coded_ℕ) (λ t. (t.map, t.room)) (λ p. record { map = p.0; room = p.1 }) (λ _. refl)

-- the table of nodes as the triple of its fields
abbrev pub nodes_code : Coded NodeTable
nodes_code =
    code_by (Nodes × (ℕ × List Res)) (coded× (code (coded_list coded_ℕ) node.the_row.coded) (coded× coded_ℕ (coded_list res.the_row.coded))) (λ t. (t.map, (t.room, t.used)))
    (λ p. record { map = p.0; room = p.1.0; used = p.1.1 })
    (λ _. refl)

-- and so is a cluster's state, as the tuple of its fields
abbrev pub cluster_code : Coded Cluster
cluster_code =
    code_by (Limits × (ℕ × (Nodes × (Places × ℕ))))
    (coded× limits.the_row.coded (coded× coded_ℕ (coded× (code (coded_list coded_ℕ) node.the_row.coded) (coded× (code (coded_list coded_ℕ) place.the_row.coded) coded_ℕ))))
    (λ c. (c.limits, (c.version, (c.nodes, (c.places, c.ticket)))))
    (λ p. record { limits = p.0; version = p.1.0; nodes = p.1.1.0; places = p.1.1.1.0; ticket = p.1.1.1.1 })
    (λ _. refl)
