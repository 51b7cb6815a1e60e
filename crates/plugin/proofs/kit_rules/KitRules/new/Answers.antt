use Rattle.plugin.specs.Kit.{ready_parts}
use Rattle.plugin.proofs.kit_rules.KitRules.new.Goals as goal

pub invariant_of-result : goal.invariant_of-result
invariant_of-result c = c.new-kept.ensures (ready_parts c.args.kit)
