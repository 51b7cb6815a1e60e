use Rattle.std.proofs.Common.{◌-◌, ◌≤◌, vec_len}
use Rattle.storm_site.proofs.stand_in.storm_by.Given as goal

-- so many binders at most
abbrev pub invariant-loop-stand_in : goal.invariant-loop-stand_in
invariant-loop-stand_in g l = vec_len l.boxes ≤ l.binders

abbrev pub decreases-loop-stand_in : goal.decreases-loop-stand_in
decreases-loop-stand_in g l = l.binders - vec_len l.boxes
