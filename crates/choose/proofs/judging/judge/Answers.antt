use Rattle.std.proofs.Common.{◌≡◌, length, rules}
use Rattle.choose.proofs.AskedRules.{all_without_rules}
use Rattle.choose.proofs.judging.judge.Goals as goal

pub returns-then-count-eq0-clause-are : goal.returns-then-count-eq0-clause-are
returns-then-count-eq0-clause-are g c =
    let none : length (g.R.Rules.answers c.args.rules.now).weights ≡ 0 = search rules in
    all_without_rules _ _ _ _ none c.judge_alone.ensures
