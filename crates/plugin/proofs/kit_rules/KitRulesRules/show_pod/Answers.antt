use Rattle.plugin.specs.Kit.{ready_parts}
use Rattle.plugin.proofs.kit_rules.KitRulesRules.show_pod.Goals as goal

pub invariant_of-self : goal.invariant_of-self
invariant_of-self c = c.of_pod.ensures.kept (ready_parts c.self.inside.kit) c.self.invariant
