use Rattle.std.proofs.Common.{◌≡◌, ℕ, ◌+◌, ◌-◌, ◌*◌, ◌/◌, ◌≤◌, length, arith, ap, ◌∙◌}
use Rattle.wmem.specs.inside.Tracked.{stretch}
use Rattle.wmem.proofs.Buffers.{length-longer}
use Rattle.wmem.proofs.Changes.{length-bytes, extend_sound, extend_view, grow_sound, grow_view, grown_is}
use Rattle.wmem.proofs.memory.Memory.grow.Goals as goal

pub extend-requires : goal.extend-requires
extend-requires c =
    let memory = c.self.inside in
    let seen = length-bytes memory c.self.invariant in
    let pages : c.size-pages.result ≡ memory.len / 65536 = rw (← c.self.view_is, seen) at c.size-pages.ensures.pages in
    omega (arith, c.self.invariant.room, c.self.invariant.whole_pages)

pub invariant_of-self : goal.invariant_of-self
invariant_of-self c =
    let memory = c.self.inside in
    let sound = c.self.invariant in
    let seen = length-bytes memory sound in
    let pages : c.size-pages.result ≡ memory.len / 65536 = rw (← c.self.view_is, seen) at c.size-pages.ensures.pages in
    let more : ℕ = c.args.delta * 65536 in
    let longer = ap length c.extend.ensures.bytes ∙ length-longer memory.tracked.bytes (stretch * ((memory.len + more) / 256) - length memory.tracked.bytes) in
    let opened : memory.len + more ≤ length c.extend.new.self.bytes = omega (arith, longer, sound.whole_pages) in
    grow_sound (record memory { tracked = c.extend.new.self }) more
    (extend_sound memory c.extend.new.self ((memory.len + more) / 256) sound c.extend.ensures.bytes c.extend.ensures.image c.extend.ensures.room)
    (omega arith) (omega (arith, sound.whole_pages)) opened

pub returns : goal.returns
returns c =
    let memory = c.self.inside in
    let sound = c.self.invariant in
    let seen = length-bytes memory sound in
    let pages : c.size-pages.result ≡ memory.len / 65536 = rw (← c.self.view_is, seen) at c.size-pages.ensures.pages in
    let more : ℕ = c.args.delta * 65536 in
    let turned : more ≡ 65536 * c.args.delta = omega arith in
    let longer = ap length c.extend.ensures.bytes ∙ length-longer memory.tracked.bytes (stretch * ((memory.len + more) / 256) - length memory.tracked.bytes) in
    let opened : memory.len + more ≤ length c.extend.new.self.bytes = omega (arith, longer, sound.whole_pages) in
    let same = extend_view memory c.extend.new.self ((memory.len + more) / 256) sound c.extend.ensures.bytes c.extend.ensures.image in
    let later = extend_sound memory c.extend.new.self ((memory.len + more) / 256) sound c.extend.ensures.bytes c.extend.ensures.image c.extend.ensures.room in
    rw (← c.self.view_is) (
      rw seen (omega arith),
      rw seen pages,
      rw (← turned) (grown_is memory c.extend.new.self more same (grow_view (record memory { tracked = c.extend.new.self }) more later opened)),
    )
