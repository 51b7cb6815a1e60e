use Rattle.wmem.proofs.Changes.{touches}
use Rattle.wmem.proofs.memory.Memory.touched.Goals as goal

pub returns : goal.returns
returns c = rw (← c.self.view_is) (touches c.self.inside c.touched.result c.self.invariant c.touched.ensures.tracked c.touched.ensures.pages)
