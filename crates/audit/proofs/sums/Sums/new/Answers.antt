use Rattle.audit.proofs.Summing.{of_none}
use Rattle.audit.proofs.sums.Sums.new.Goals as goal

-- an empty table has nothing
pub returns : goal.returns
returns c = λ node. of_none (record { by_node = c.new.result }) node c.new.ensures.empty
