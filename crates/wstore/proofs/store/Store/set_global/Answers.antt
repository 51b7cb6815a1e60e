use Rattle.std.proofs.Common.{◌<◌, ◌∙◌, length, sym, ap, subst}
use Rattle.std.specs.Prelude.{slice_get, IfSome}
use Rattle.wcode.specs.Operators.{type_of}
use Rattle.wstore.specs.Values.{value_of, InRange}
use Rattle.wstore.specs.State.{StoreState, with_globals, with_number}
use Rattle.wstore.proofs.Changes.{there, set_sound, set_view}
use Rattle.wstore.proofs.store.Store.set_global.Goals as goal

pub set-requires : goal.set-requires
set-requires c =
    there c.self.inside c.args.index c.self.invariant (subst (λ (s : StoreState). c.args.index < length s.current.globals) (sym c.self.view_is) c.requires.there)

pub invariant_of-self : goal.invariant_of-self
invariant_of-self c =
    set_sound c.self.inside c.set.new.self c.args.index c.args.number c.self.invariant c.set.ensures.places c.set.ensures.image
    (subst (λ (s : StoreState). IfSome (slice_get s.current.globals c.args.index) (λ v. InRange (value_of (type_of v) c.args.number))) (sym c.self.view_is) c.requires.in_range)

pub returns : goal.returns
returns c =
    set_view c.self.inside c.set.new.self c.args.index c.args.number c.set.ensures.places c.set.ensures.image
    ∙ ap (λ (s : StoreState). with_globals s (with_number s.current.globals c.args.index c.args.number)) c.self.view_is
