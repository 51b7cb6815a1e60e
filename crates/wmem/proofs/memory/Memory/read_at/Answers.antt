use Rattle.std.proofs.Common.{◌+◌, ◌≤◌, List, ℕ, arith, sym, ap, ◌∙◌}
use Rattle.wmem.specs.Access.{reading_of, value_read}
use Rattle.wmem.proofs.Buffers.{value_read-take}
use Rattle.wmem.proofs.Changes.{length-bytes}
use Rattle.wmem.proofs.memory.Memory.read_at.Goals as goal

pub read-requires : goal.read-requires
read-requires c =
    let memory = c.self.inside in
    let within : c.args.address + (reading_of c.args.load).bytes ≤ memory.len =
    rw (← c.self.view_is, length-bytes memory c.self.invariant) at c.requires in
    rw c.bytes.ensures (omega (arith, c.self.invariant.opened))

pub returns-clause-value : goal.returns-clause-value
returns-clause-value c =
    let memory = c.self.inside in
    let within : c.args.address + (reading_of c.args.load).bytes ≤ memory.len =
    rw (← c.self.view_is, length-bytes memory c.self.invariant) at c.requires in
    rw (← c.self.view_is)
    (c.read.ensures.value
    ∙ ap (λ (xs : List ℕ). value_read (reading_of c.args.load) xs c.args.address) c.bytes.ensures
    ∙ sym (value_read-take (reading_of c.args.load) memory.tracked.bytes memory.len c.args.address within))
