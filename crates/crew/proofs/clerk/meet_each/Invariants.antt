use Rattle.crew.specs.inside.Meeting.{HaveMetFirst}
use Rattle.crew.proofs.clerk.meet_each.Given as goal

-- the first ones were met
abbrev pub invariant-loop-k : goal.invariant-loop-k
invariant-loop-k g l = HaveMetFirst l.desk l.k l.initial.clerk l.initial.workers l.clerk l.workers
