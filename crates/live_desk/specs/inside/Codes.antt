-- How what is known is stored, by which a proof tells it apart.
use Rattle.std.specs.Prelude.{ℕ, refl}
use Rattle.std.specs.Coded.{Coded, code_by, coded×, coded_ℕ, coded_list}
use Rattle.std.specs.FinMap.{FinMap, code}
use Rattle.book.specs.Cluster.{name_cmp}
use Rattle.desk.specs.Machine as machine
use Rattle.desk.specs.inside.Codes as desk
use Rattle.ledger.specs.State as ledger
use Rattle.ledger.specs.inside.Codes as ledger_codes
use Rattle.live_desk.specs.contracts.offered.Offered as offered
use Rattle.live_desk.specs.declared.offered.Offered.{Offered}
use Rattle.live_desk.specs.State.{Live}

-- what is known, as the tuple of its fields
abbrev pub live_code : Coded Live
live_code =
    code_by (ledger.State × (machine.State × (FinMap name_cmp Offered × (ℕ × ℕ))))
    (coded× ledger_codes.state_code (coded× desk.state_code (coded× (code (coded_list coded_ℕ) offered.the_row.coded) (coded× coded_ℕ coded_ℕ))))
    (λ s. (s.ledger, (s.desk, (s.offered, (s.room, s.told)))))
    (λ p. record { ledger = p.0; desk = p.1.0; offered = p.1.1.0; room = p.1.1.1.0; told = p.1.1.1.1 })
    (λ _. refl)
