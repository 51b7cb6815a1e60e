use Rattle.std.proofs.Common.{subst}
use Rattle.wstore.specs.Fits.{StoreFits}
use Rattle.wstore.specs.State.{StoreState, syntax_of}
use Rattle.wstore.proofs.Changes.{current_fits, image_fits}
use Rattle.wstore.proofs.store.Store.always_fits.Goals as goal

pub returns-clause-current : goal.returns-clause-current
returns-clause-current c =
    subst (λ (s : StoreState). StoreFits (syntax_of s) s.current) c.self.view_is
    (current_fits c.self.inside c.self.invariant c.is_memory.ensures (rw c.bytes.ensures at c.are_bytes.ensures))

pub returns-clause-image : goal.returns-clause-image
returns-clause-image c =
    subst (λ (s : StoreState). StoreFits (syntax_of s) s.image) c.self.view_is
    (image_fits c.self.inside c.self.invariant c.is_memory.ensures (rw c.image.ensures at c.are_bytes-2.ensures))
