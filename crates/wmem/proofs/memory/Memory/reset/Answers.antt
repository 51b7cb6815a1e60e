use Rattle.std.proofs.Common.{arith}
use Rattle.wmem.proofs.Changes.{reset_sound}
use Rattle.wmem.proofs.memory.Memory.reset.Goals as goal

pub invariant_of-self : goal.invariant_of-self
invariant_of-self c =
    let sound = c.self.invariant in
    reset_sound c.self.inside c.reset.new.self _ sound c.reset.ensures.bytes c.reset.ensures.image c.reset.ensures.room
    (omega (arith, sound.whole_image, sound.whole_pages)) (omega (arith, sound.grown)) (omega (arith, sound.grown))
