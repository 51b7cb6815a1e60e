use Rattle.std.proofs.Common.{◌≡◌, map, take}
use Rattle.fault_line.specs.Excerpt.{shown_byte}
use Rattle.fault_line.proofs.excerpt.excerpt_of.Given as goal

-- the bytes so far are shown
abbrev pub invariant-loop-byte : goal.invariant-loop-byte
invariant-loop-byte l = l.shown.items ≡ map shown_byte (take l.byte-index l.front)
