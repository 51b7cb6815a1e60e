use Rattle.std.proofs.Common.{◌+◌, ◌≤◌, length, arith}
use Rattle.wmem.proofs.Changes.{length-bytes, write_sound, write_view}
use Rattle.wmem.proofs.memory.Memory.copy_at.Goals as goal

pub copy_at-requires : goal.copy_at-requires
copy_at-requires c =
    let memory = c.self.inside in
    let within : c.args.at + length c.args.bytes.now ≤ memory.len =
    rw (← c.self.view_is, length-bytes memory c.self.invariant) at c.requires in
    omega (arith, c.self.invariant.opened)

pub invariant_of-self : goal.invariant_of-self
invariant_of-self c =
    let memory = c.self.inside in
    let within : c.args.at + length c.args.bytes.now ≤ memory.len =
    rw (← c.self.view_is, length-bytes memory c.self.invariant) at c.requires in
    write_sound memory c.copy_at.new.self c.args.at c.args.bytes.now c.self.invariant within c.copy_at.ensures.bytes c.copy_at.ensures.image c.copy_at.ensures.room

pub returns : goal.returns
returns c =
    let memory = c.self.inside in
    let within : c.args.at + length c.args.bytes.now ≤ memory.len =
    rw (← c.self.view_is, length-bytes memory c.self.invariant) at c.requires in
    rw (← c.self.view_is)
    (write_view memory c.copy_at.new.self c.args.at c.args.bytes.now c.self.invariant within c.copy_at.ensures.bytes c.copy_at.ensures.image)
