-- How what is published of a desk is stored.
use Rattle.std.specs.Prelude.{ℕ, List, refl}
use Rattle.std.specs.Coded.{Coded, code_by, coded×, coded_ℕ, coded_list}
use Rattle.quant.specs.contracts.objects.Node as node
use Rattle.quant.specs.contracts.amount.Res as res
use Rattle.quant.specs.declared.objects.Node.{Node}
use Rattle.quant.specs.declared.amount.Res.{Res}
use Rattle.desk.specs.inside.Shared.{Prefix}
use Rattle.desk.specs.inside.SharedCodes.{prefix_code}
use Rattle.desk.specs.inside.Board.{Board}

-- a board as the tuple of its fields
abbrev pub board_code : Coded Board
board_code =
    code_by (List Node × (List Res × (ℕ × (List ℕ × Prefix))))
    (coded× (coded_list node.the_row.coded) (coded× (coded_list res.the_row.coded) (coded× coded_ℕ (coded× (coded_list coded_ℕ) prefix_code))))
    (λ b. (b.nodes, (b.used, (b.room, (b.calls, b.prefix)))))
    (λ p. record { nodes = p.0; used = p.1.0; room = p.1.1.0; calls = p.1.1.1.0; prefix = p.1.1.1.1 })
    (λ _. refl)
