use Rattle.std.proofs.Common.{◌+◌, ◌-◌, ◌*◌, length}
use Rattle.wcode.proofs.Lists.{HasItems}
use Rattle.wcode.proofs.expression.+body.Given as goal

abbrev pub decreases-read_arms : goal.decreases-read_arms
decreases-read_arms l = 4 * l.room + 1

abbrev pub decreases-read_body : goal.decreases-read_body
decreases-read_body l = 4 * l.room + 3

abbrev pub decreases-read_item : goal.decreases-read_item
decreases-read_item l = 4 * l.room + 2

abbrev pub decreases-read_nested : goal.decreases-read_nested
decreases-read_nested l = 4 * l.room

abbrev pub invariant-read_body-items : goal.invariant-read_body-items
invariant-read_body-items l = HasItems l.bytes l.room l.at l.body.items l.place

abbrev pub decreases-read_body-items : goal.decreases-read_body-items
decreases-read_body-items l = length l.bytes - l.place
