use Rattle.std.proofs.Common.{◌-◌, length}
use Rattle.wbin.proofs.Sections.{HasOutline}
use Rattle.wbin.proofs.section.find_sections.Given as goal

abbrev pub invariant-loop-place : goal.invariant-loop-place
invariant-loop-place l = HasOutline l.bytes l.at l.sections.items l.place l.above

abbrev pub decreases-loop-place : goal.decreases-loop-place
decreases-loop-place l = length l.bytes - l.place
