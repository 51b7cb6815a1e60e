use Rattle.std.proofs.Common.{◌<◌, length, sym, arith}
use Rattle.plugin.proofs.KitLemmas.{as_many, weight_at}
use Rattle.plugin.proofs.kit_rules.KitRulesRules.weight.Goals as goal

pub returns-clause-value : goal.returns-clause-value
returns-clause-value c =
    let kit = c.self.inside.kit in
    let below : c.args.place < length kit = omega (arith, as_many kit, rw (sym c.self.view_is) at c.requires) in
    rw (sym c.self.view_is) (weight_at kit c.args.place c.weight.result below c.weight.ensures.value)

pub weight-requires : goal.weight-requires
weight-requires c = omega (arith, as_many c.self.inside.kit, rw (sym c.self.view_is) at c.requires)
