use Rattle.std.proofs.Common.{refl}
use Rattle.taints.specs.Tolerance.{tolerated_by, tolerated, rejection, first_untolerated, prefer_not}
use Rattle.taints.specs.TaintScore.{taint_score}
use Rattle.taints.proofs.laws.worked_examples.Goals as goal

pub returns : goal.returns
unfolding tolerated_by tolerated rejection first_untolerated prefer_not taint_score
returns c = record {
  equal = refl;
  exists = refl;
  other_value = refl;
  other_key = refl;
  other_effect = refl;
  every_effect = refl;
  every_key = refl;
  no_key = refl;
  third_taint = refl;
  third_is_first = refl;
  two_taints = refl;
  bare = refl;
  stays = refl;
  counted = refl;
  tolerant = refl;
  none_untolerated = refl;
  not_counted = refl;
  mark_first = refl;
  taint_then = refl;
  mark_alone = refl;
  both_tolerated = refl;
  one_of_three = refl;
  none_anywhere = refl;
  none_here = refl;
  the_most = refl;
}
