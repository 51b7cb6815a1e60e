use Rattle.std.proofs.Common.{sym}
use Rattle.wmem.proofs.Changes.{length-bytes}
use Rattle.wmem.proofs.memory.Memory.byte_size.Goals as goal

pub returns : goal.returns
returns c = rw (← c.self.view_is) (sym (length-bytes c.self.inside c.self.invariant))
