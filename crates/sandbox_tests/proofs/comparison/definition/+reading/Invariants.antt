use Rattle.std.specs.Prelude.{suc}
use Rattle.std.proofs.Common.{◌+◌}
use Rattle.sandbox_tests.proofs.comparison.definition.+reading.Given as goal

-- a sequence of so much room, and then its bodies, of no more
abbrev pub decreases-code_of : goal.decreases-code_of
decreases-code_of g l = l.room + l.room

abbrev pub decreases-code_before : goal.decreases-code_before
decreases-code_before g l = suc (l.room + l.room)
