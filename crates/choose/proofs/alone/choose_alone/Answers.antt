use Rattle.std.proofs.Common.{subst}
use Rattle.choose.specs.Choice.{IsChoice}
use Rattle.choose.specs.inside.Alone.{verdicts_alone, judged_alone}
use Rattle.choose.proofs.AskedRules.{all_without_rules}
use Rattle.choose.proofs.OnePass.{are_alone}
use Rattle.choose.proofs.alone.choose_alone.Goals as goal

-- the verdicts of the built-in filters and scores are those where there is no rule
pub returns : goal.returns
returns g c =
    let pod = c.args.pod.now in
    let nodes = c.args.snapshot.now in
    record {
      verdicts = verdicts_alone pod nodes;
      are = all_without_rules (g.R.Rules.answers c.args._rules.now) pod nodes (verdicts_alone pod nodes) c.requires (are_alone pod nodes);
      is = subst (λ rows. IsChoice (judged_alone pod rows) c.decide_by.result) c.rows-rows.ensures c.decide_by.ensures;
    }
