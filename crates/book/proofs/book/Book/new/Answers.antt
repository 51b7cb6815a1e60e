use Rattle.std.proofs.Common.{map, sym, ap, subst}
use Rattle.quant.specs.declared.objects.Node.{Node}
use Rattle.book.specs.declared.place.Place.{Place}
use Rattle.book.specs.inside.Tables.{NodeTable, Held, IsShown}
use Rattle.book.specs.Used.{used}
use Rattle.book.proofs.SumLemmas.{entries_empty}
use Rattle.book.proofs.book.Book.new.Goals as goal

-- no nodes are shown with nothing beside them
pub invariant_of-result : goal.invariant_of-result
invariant_of-result c =
    let f = used c.in-Ok-new.places.map in (
      ap (λ (t : NodeTable). t.room) c.in-Ok.ensures,
      ap (λ (t : Held Place). t.room) c.in-Ok-new.ensures,
      subst (IsShown f) (sym c.in-Ok.ensures) (sym (ap (map (λ e. f e.0)) (entries_empty Node))),
    )

pub returns : goal.returns
returns c = λ i. record { limits = c.args.limits; version = 0; nodes = (c.in-Ok.ensures i).map; places = (c.in-Ok-new.ensures i).map; ticket = 0 }
