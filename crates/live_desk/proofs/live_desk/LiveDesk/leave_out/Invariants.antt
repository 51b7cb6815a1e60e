use Rattle.std.proofs.Common.{◌≡◌, drop}
use Rattle.live_desk.specs.Telling.{left_out}
use Rattle.live_desk.proofs.live_desk.LiveDesk.leave_out.Given as goal

-- with those that are left it comes to the same
abbrev pub invariant-loop-name : goal.invariant-loop-name
invariant-loop-name g l = left_out l.self l.kind (drop l.name-index l.names) ≡ left_out l.initial.self l.kind l.names
