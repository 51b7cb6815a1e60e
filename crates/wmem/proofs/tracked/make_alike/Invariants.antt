use Rattle.std.proofs.Common.{◌≡◌, ◌*◌, length}
use Rattle.wmem.specs.inside.Tracked.{AgreesElsewhere, stretch}
use Rattle.wmem.proofs.tracked.make_alike.Given as goal

abbrev pub invariant-loop-page : goal.invariant-loop-page
invariant-loop-page l = record {
  whole : length l.to ≡ stretch * length l.noted.flags;
  pages : length l.noted.flags ≡ length l.initial.noted.flags;
  room : l.noted.room ≡ l.initial.noted.room;
  agrees : AgreesElsewhere l.to l.from l.noted;
}

abbrev pub decreases-loop-page : goal.decreases-loop-page
decreases-loop-page l = length l.noted.order
