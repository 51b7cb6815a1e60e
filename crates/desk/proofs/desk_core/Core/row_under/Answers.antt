use Rattle.std.proofs.Common.{None, sym, ap, subst, ◌∙◌}
use Rattle.std.specs.Option.{option_copied}
use Rattle.std.specs.FinMap as fin
use Rattle.book.specs.Cluster.{Cluster}
use Rattle.book.specs.Rows.{rows_in}
use Rattle.desk.specs.inside.Board.{IsRowUnder}
use Rattle.desk.specs.inside.Caller.{Core}
use Rattle.desk.proofs.Changes.{no_row}
use Rattle.desk.proofs.desk_core.Core.row_under.Goals as goal

-- the node isn't there
pub returns-in-Err : goal.returns-in-Err
returns-in-Err c =
    let place = c.in_ok-place.place.now in
    subst (λ (k : Cluster). IsRowUnder (rows_in k.nodes) (fin.get k.places c.args.uid.now) None) (ap (λ (d : Core). d.state.cluster) c.self.view_is)
    (subst (λ o. IsRowUnder (rows_in c.self.inside.book.nodes) o None) (sym (ap option_copied c.in_ok-place.was) ∙ c.place_of.ensures) (no_row (rows_in c.self.inside.book.nodes) place.node c.in-Err.field-0 c.in-Err.ensures.absent))
