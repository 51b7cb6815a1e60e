use Rattle.std.proofs.Common.{◌≡◌, ◌*◌, ◌≤◌, Some, slice_get, rules, refl, arith, subst, ◌∙◌}
use Rattle.desk.specs.Shown.{shown}
use Rattle.choose.specs.Verdict.{told_of}
use Rattle.rules.specs.declared.verdict.ScoreVerdict.TheVariants as score
use Rattle.choose.proofs.AskedRules.{good_before_none, good_before_more, product_within}
use Rattle.choose.proofs.asking.scored.Goals as goal

pub loop-place-init : goal.loop-place-init
loop-place-init g c = record {
  stays = refl;
  last = search rules;
  within = omega arith;
  few = search rules;
  small = omega arith;
  places = refl;
  before = good_before_none _ _;
}

pub loop-place-preserved : goal.loop-place-preserved
loop-place-preserved g c =
    let told = told_of c.args.pod.now (shown c.args.row.now) in
    let said : (g.R.Rules.answers c.args.rules.now).Scores c.loop-place.place told (score.Good c.in-Good.score) =
    subst (λ r. (g.R.Rules.answers r).Scores c.loop-place.place told (score.Good c.in-Good.score)) c.loop-place.invariant.stays c.in-Good.ensures.says in
    let weighs : slice_get (g.R.Rules.answers c.args.rules.now).weights c.loop-place.place ≡ Some c.weight.result =
    subst (λ r. slice_get (g.R.Rules.answers r).weights c.loop-place.place ≡ Some c.weight.result) (c.score.ensures.stays ∙ c.loop-place.invariant.stays) c.weight.ensures.value in
    let good : c.in-Good.score ≤ 100 = c.in-Good.ensures.within in
    let within : c.weight.result * c.in-Good.score ≤ 1000 = product_within _ _ c.weight.ensures.most good in
    record {
      stays = c.score.ensures.stays ∙ c.loop-place.invariant.stays;
      last = c.loop-place.invariant.last;
      within = omega (arith, c.loop-place-test.true);
      few = c.loop-place.invariant.few;
      small = rw (c.from.ensures, c.from-in-Good.ensures) (omega (arith, within));
      places = search rules;
      before = rw (c.from.ensures, c.from-in-Good.ensures) (good_before_more _ _ _ _ _ _ _ (omega (arith, c.loop-place.invariant.few)) c.loop-place.invariant.before weighs said);
    }

-- no score changes the rules
pub returns-in-Errs-clause-stays : goal.returns-in-Errs-clause-stays
returns-in-Errs-clause-stays g c = c.score.ensures.stays ∙ c.loop-place.invariant.stays
