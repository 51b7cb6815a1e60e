use Rattle.std.proofs.Common.{arith}
use Rattle.wmem.proofs.Changes.{keep_sound}
use Rattle.wmem.proofs.memory.Memory.keep.Goals as goal

pub invariant_of-self : goal.invariant_of-self
invariant_of-self c = keep_sound c.self.inside c.keep.new.self _ c.self.invariant c.keep.ensures.bytes c.keep.ensures.image c.keep.ensures.room (omega arith)
