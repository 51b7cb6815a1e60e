use Rattle.std.proofs.Common.{◌<◌, length, rules, arith}
use Rattle.desk.specs.Shown.{shown}
use Rattle.choose.proofs.Verdicts.{all_zip_set}
use Rattle.choose.proofs.judging.judge_alone.Goals as goal

-- one verdict more is written
pub loop-at-preserved : goal.loop-at-preserved
loop-at-preserved c =
    let below : c.loop-at.at < length c.args.rows.now = c.loop-at-test.true in
    let room : c.loop-at.at < length c.loop-at.verdicts = omega (arith, below, c.loop-at.invariant.places) in
    record {
      last = search rules;
      places = search rules;
      are = all_zip_set _ shown c.args.rows.now c.loop-at.verdicts c.loop-at.at c.index-rows-at.result c.built_in_verdict.result below room c.index-rows-at.is c.loop-at.invariant.are c.built_in_verdict.ensures;
    }
