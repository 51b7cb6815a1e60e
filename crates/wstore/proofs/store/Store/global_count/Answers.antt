use Rattle.std.proofs.Common.{◌≡◌, ◌∙◌, length, sym, ap, subst}
use Rattle.wstore.specs.State.{StoreState}
use Rattle.wstore.specs.inside.Inside.{parts_of}
use Rattle.wstore.proofs.Globals.{length-values}
use Rattle.wstore.proofs.store.Store.global_count.Goals as goal

pub returns : goal.returns
returns c =
    let s = c.self.inside in
    subst (λ (t : StoreState). length c.places.result.now ≡ length t.current.globals) c.self.view_is
    (ap length c.places.ensures ∙ sym (length-values (parts_of s).tables.globals.items s.globals.places c.self.invariant.globals.as_many))
