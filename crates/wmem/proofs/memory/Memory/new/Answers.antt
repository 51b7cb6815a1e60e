use Rattle.std.proofs.Common.{◌≡◌, ◌*◌, ◌/◌, arith, ap, ◌∙◌}
use Rattle.wmem.specs.Memory.{zeros}
use Rattle.wmem.specs.inside.Tracked.{stretch}
use Rattle.wmem.proofs.Changes.{new_sound, new_view}
use Rattle.wmem.proofs.Buffers.{extended_from_none}
use Rattle.wmem.proofs.memory.Memory.new.Goals as goal

pub extend-requires : goal.extend-requires
extend-requires c = omega (arith, c.in_ok-tracked.ensures.room, c.requires.within)

pub invariant_of-result : goal.invariant_of-result
invariant_of-result c =
    let count : 256 * (c.args.min * 65536 / 256) ≡ 65536 * c.args.min = omega arith in
    let room : stretch * c.extend.new.self.noted.room ≡ 65536 * c.args.cap = omega (arith, c.extend.ensures.room, c.in_ok-tracked.ensures.room) in
    new_sound _ c.args.min c.requires.within c.requires.limited
    (c.extend.ensures.bytes ∙ extended_from_none c.in_ok-tracked.tracked.bytes (c.args.min * 65536 / 256) c.in_ok-tracked.ensures.bytes ∙ ap zeros count)
    (c.extend.ensures.image ∙ extended_from_none c.in_ok-tracked.tracked.image (c.args.min * 65536 / 256) c.in_ok-tracked.ensures.image ∙ ap zeros count)
    room (omega arith) (omega arith)

pub returns : goal.returns
returns c =
    let count : 256 * (c.args.min * 65536 / 256) ≡ 65536 * c.args.min = omega arith in
    new_view
    (record { tracked = c.extend.new.self; len = c.args.min * 65536; image_len = c.args.min * 65536; cap = c.args.cap })
    c.args.min
    (c.extend.ensures.bytes ∙ extended_from_none c.in_ok-tracked.tracked.bytes (c.args.min * 65536 / 256) c.in_ok-tracked.ensures.bytes ∙ ap zeros count)
    (c.extend.ensures.image ∙ extended_from_none c.in_ok-tracked.tracked.image (c.args.min * 65536 / 256) c.in_ok-tracked.ensures.image ∙ ap zeros count)
    (omega arith) (omega arith)
