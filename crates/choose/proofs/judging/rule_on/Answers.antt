use Rattle.std.proofs.Common.{◌<◌, ◌∙◌, length, rules, refl, arith, subst}
use Rattle.desk.specs.Shown.{shown}
use Rattle.choose.specs.Verdict.{HasRuling, asked}
use Rattle.choose.proofs.Verdicts.{all_zip_set}
use Rattle.choose.proofs.judging.rule_on.Goals as goal

pub loop-at-preserved : goal.loop-at-preserved
loop-at-preserved g c =
    let below : c.loop-at.at < length c.args.rows.now = c.loop-at-test.true in
    let room : c.loop-at.at < length c.loop-at.verdicts = omega (arith, below, c.loop-at.invariant.places) in
    let is : HasRuling (asked c.args.filters_alone (g.R.Rules.answers c.args.rules.now)) c.args.pod.now (shown c.index-rows-at.result) c.ruling_of.result =
    subst (λ r. HasRuling (asked c.args.filters_alone (g.R.Rules.answers r)) c.args.pod.now (shown c.index-rows-at.result) c.ruling_of.result) c.loop-at.invariant.stays c.ruling_of.ensures.is in
    record {
      last = refl;
      places = search rules;
      stays = c.ruling_of.ensures.stays ∙ c.loop-at.invariant.stays;
      of_pod = c.ruling_of.ensures.pod;
      are = all_zip_set _ shown c.args.rows.now c.loop-at.verdicts c.loop-at.at c.index-rows-at.result c.ruling_of.result below room c.index-rows-at.is c.loop-at.invariant.are is;
    }
