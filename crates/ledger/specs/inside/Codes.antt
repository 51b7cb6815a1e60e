-- How a ledger's state is stored, by which a proof tells states apart.
use Rattle.std.specs.Prelude.{ℕ, Bool, refl}
use Rattle.std.specs.Coded.{Coded, code_by, coded×, coded_ℕ, coded_bool, coded_list}
use Rattle.std.specs.FinMap.{FinMap, code}
use Rattle.book.specs.Cluster.{name_cmp, Cluster}
use Rattle.book.specs.inside.Codes.{cluster_code}
use Rattle.ledger.specs.contracts.known.Known as known
use Rattle.ledger.specs.contracts.known.Seen as seen
use Rattle.ledger.specs.contracts.known.Heard as heard
use Rattle.ledger.specs.contracts.known.LeftOut as left_out
use Rattle.ledger.specs.declared.known.Known.{Known}
use Rattle.ledger.specs.declared.known.Seen.{Seen}
use Rattle.ledger.specs.declared.known.Heard.{Heard}
use Rattle.ledger.specs.declared.known.LeftOut.{LeftOut}
use Rattle.ledger.specs.State.{State}

-- a state as the tuple of its fields
abbrev pub state_code : Coded State
state_code =
    code_by (Cluster × (ℕ × (FinMap name_cmp Known × (FinMap name_cmp Seen × (Heard × (Heard × (Bool × LeftOut)))))))
    (coded× cluster_code (coded× coded_ℕ (coded× (code (coded_list coded_ℕ) known.the_row.coded) (coded× (code (coded_list coded_ℕ) seen.the_row.coded)
    (coded× heard.the_row.coded (coded× heard.the_row.coded (coded× coded_bool left_out.the_row.coded)))))))
    (λ s. (s.cluster, (s.room, (s.pods, (s.nodes, (s.of_nodes, (s.of_pods, (s.rested, s.left_out))))))))
    (λ p. record { cluster = p.0; room = p.1.0; pods = p.1.1.0; nodes = p.1.1.1.0; of_nodes = p.1.1.1.1.0; of_pods = p.1.1.1.1.1.0; rested = p.1.1.1.1.1.1.0; left_out = p.1.1.1.1.1.1.1 })
    (λ _. refl)
