use Rattle.row_record.proofs.KeyOrderLemmas.{order_moves, order_rises}
use Rattle.row_record.proofs.laws.labels_are_in_order.Goals as goal

pub returns : goal.returns
returns c = record { same = order_moves; rising = order_rises }
