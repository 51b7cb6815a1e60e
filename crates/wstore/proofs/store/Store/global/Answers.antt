use Rattle.std.proofs.Common.{◌≡◌, ◌<◌, ◌∙◌, Some, length, sym, subst}
use Rattle.std.specs.Prelude.{slice_get, option_map}
use Rattle.wstore.specs.Values.{word_of}
use Rattle.wstore.specs.State.{StoreState}
use Rattle.wstore.specs.inside.Inside.{parts_of}
use Rattle.wstore.proofs.Globals.{word_at}
use Rattle.wstore.proofs.Changes.{there}
use Rattle.wstore.proofs.store.Store.global.Goals as goal

pub get-requires : goal.get-requires
get-requires c =
    there c.self.inside c.args.index c.self.invariant (subst (λ (s : StoreState). c.args.index < length s.current.globals) (sym c.self.view_is) c.requires)

pub returns : goal.returns
returns c =
    let s = c.self.inside in
    subst (λ (t : StoreState). option_map word_of (slice_get t.current.globals c.args.index) ≡ Some c.get.result) c.self.view_is
    (word_at (parts_of s).tables.globals.items s.globals.places c.args.index c.self.invariant.globals.as_many ∙ c.get.ensures)
