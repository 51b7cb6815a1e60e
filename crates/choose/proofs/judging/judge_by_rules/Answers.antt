use Rattle.std.proofs.Common.{◌<◌, ◌∙◌, length, rules, refl, arith, subst}
use Rattle.desk.specs.Shown.{shown}
use Rattle.choose.specs.Verdict.{HasVerdict}
use Rattle.choose.proofs.Verdicts.{all_zip_set}
use Rattle.choose.proofs.judging.judge_by_rules.Goals as goal

pub loop-at-preserved : goal.loop-at-preserved
loop-at-preserved g c =
    let below : c.loop-at.at < length c.args.rows.now = c.loop-at-test.true in
    let room : c.loop-at.at < length c.loop-at.verdicts = omega (arith, below, c.loop-at.invariant.places) in
    let is : HasVerdict (g.R.Rules.answers c.args.rules.now) c.args.pod.now (shown c.index-rows-at.result) c.verdict_of.result =
    subst (λ r. HasVerdict (g.R.Rules.answers r) c.args.pod.now (shown c.index-rows-at.result) c.verdict_of.result) c.loop-at.invariant.stays c.verdict_of.ensures.is in
    record {
      last = refl;
      places = search rules;
      stays = c.verdict_of.ensures.stays ∙ c.loop-at.invariant.stays;
      of_pod = c.verdict_of.ensures.pod;
      are = all_zip_set _ shown c.args.rows.now c.loop-at.verdicts c.loop-at.at c.index-rows-at.result c.verdict_of.result below room c.index-rows-at.is c.loop-at.invariant.are is;
    }
