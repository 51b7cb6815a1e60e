use Rattle.std.proofs.Common.{map}
use Rattle.desk.specs.Shown.{shown}
use Rattle.choose.specs.Verdict.{asked}
use Rattle.choose.specs.Choice.{AreRulings}
use Rattle.fleet.proofs.Alike.{first_is}
use Rattle.fleet.proofs.fleet.rule_by_first.Goals as goal

pub returns-clause-are : goal.returns-clause-are
returns-clause-are g c =
    first_is g.K.Rules.answers (λ rules. AreRulings (asked c.args.filters_alone rules) c.args.pod.now (map shown c.args.rows.now) c.rule_on.new.verdicts) c.args.kits.now c.index-kits-0.result c.requires.some c.rule_on.ensures.are
