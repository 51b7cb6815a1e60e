use Rattle.std.proofs.Common.{◌+◌, ◌≤◌, List, ℕ, arith}
use Rattle.wmem.specs.Access.{byte_count}
use Rattle.wmem.specs.Bytes.{bytes_of}
use Rattle.wmem.proofs.Buffers.{length-bytes_of}
use Rattle.wmem.proofs.Changes.{length-bytes, write_sound, write_view}
use Rattle.wmem.proofs.memory.Memory.write_at.Goals as goal

pub write-requires : goal.write-requires
write-requires c =
    let memory = c.self.inside in
    let within : c.args.address + byte_count c.args.width ≤ memory.len =
    rw (← c.self.view_is, length-bytes memory c.self.invariant) at c.requires in
    omega (arith, c.self.invariant.opened)

pub invariant_of-self : goal.invariant_of-self
invariant_of-self c =
    let memory = c.self.inside in
    let new : List ℕ = bytes_of (byte_count c.args.width) c.args.value in
    let count = length-bytes_of (byte_count c.args.width) c.args.value in
    let within : c.args.address + byte_count c.args.width ≤ memory.len =
    rw (← c.self.view_is, length-bytes memory c.self.invariant) at c.requires in
    write_sound memory c.write.new.self c.args.address new c.self.invariant (omega arith) c.write.ensures.bytes c.write.ensures.image c.write.ensures.room

pub returns : goal.returns
returns c =
    let memory = c.self.inside in
    let new : List ℕ = bytes_of (byte_count c.args.width) c.args.value in
    let count = length-bytes_of (byte_count c.args.width) c.args.value in
    let within : c.args.address + byte_count c.args.width ≤ memory.len =
    rw (← c.self.view_is, length-bytes memory c.self.invariant) at c.requires in
    rw (← c.self.view_is)
    (write_view memory c.write.new.self c.args.address new c.self.invariant (omega arith) c.write.ensures.bytes c.write.ensures.image)
