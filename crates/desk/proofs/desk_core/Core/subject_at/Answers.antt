use Rattle.std.proofs.Common.{length, ap, arith}
use Rattle.std.proofs.lemmas.List.{length-map}
use Rattle.std.specs.FinMap.{entries}
use Rattle.book.specs.Rows.{named_row}
use Rattle.desk.specs.inside.Caller.{Core}
use Rattle.desk.proofs.desk_core.Core.subject_at.Goals as goal

-- there is room for what is used of each node
pub returns : goal.returns
returns c =
    let rows = c.rows.result.now in
    let room = c.in-Ok.ensures.capacity in
    (c.in-Ok.ensures.items, omega (arith, room, length-map rows named_row, ap length c.rows.ensures, ap (λ (d : Core). length (entries d.state.cluster.nodes)) c.self.view_is))
