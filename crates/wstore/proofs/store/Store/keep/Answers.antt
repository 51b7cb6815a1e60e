use Rattle.wstore.proofs.Changes.{keep_sound}
use Rattle.wstore.proofs.store.Store.keep.Goals as goal

pub invariant_of-self : goal.invariant_of-self
invariant_of-self c =
    keep_sound c.self.inside c.keep.new.self c.keep-2.new.self c.keep-3.new.self c.self.invariant c.is_memory.ensures c.keep.ensures
    c.keep-2.ensures.places c.keep-2.ensures.image c.keep-3.ensures.places c.keep-3.ensures.image
