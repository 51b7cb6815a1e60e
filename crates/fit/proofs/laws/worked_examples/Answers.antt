use Rattle.std.proofs.Common.{refl}
use Rattle.fit.specs.Fit.{fit_of}
use Rattle.fit.specs.Score.{least_allocated_score}
use Rattle.fit.proofs.laws.worked_examples.Goals as goal

pub returns : goal.returns
unfolding fit_of least_allocated_score
returns c = record {
  small = refl;
  small_score = refl;
  exactly_full = refl;
  no_cpu = refl;
  no_memory = refl;
  larger = refl;
  smaller = refl;
  asks_nothing = refl;
  scores_half = refl;
  asks_little = refl;
  no_place = refl;
  cpu_first = refl;
  nothing_there = refl;
  all_free = refl;
}
