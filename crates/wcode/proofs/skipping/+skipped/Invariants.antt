use Rattle.std.proofs.Common.{◌+◌, ◌-◌, ◌*◌, length}
use Rattle.wcode.proofs.BlockLists.{HasPassed}
use Rattle.wcode.proofs.skipping.+skipped.Given as goal

abbrev pub decreases-skip_arms : goal.decreases-skip_arms
decreases-skip_arms l = 4 * l.room + 1

abbrev pub decreases-skip_body : goal.decreases-skip_body
decreases-skip_body l = 4 * l.room + 3

abbrev pub decreases-skip_item : goal.decreases-skip_item
decreases-skip_item l = 4 * l.room + 2

abbrev pub decreases-skip_nested : goal.decreases-skip_nested
decreases-skip_nested l = 4 * l.room

abbrev pub invariant-skip_body-items : goal.invariant-skip_body-items
invariant-skip_body-items l = HasPassed l.bytes l.room l.at l.fn.blocks.items l.place l.blocks.items

abbrev pub decreases-skip_body-items : goal.decreases-skip_body-items
decreases-skip_body-items l = length l.bytes - l.place
