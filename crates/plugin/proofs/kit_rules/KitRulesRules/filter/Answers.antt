use Rattle.std.proofs.Common.{◌∙◌, sym, subst, List, arith}
use Rattle.plugin.specs.Kit.{Ready}
use Rattle.plugin.specs.inside.Kept.{KeptHolds}
use Rattle.plugin.proofs.KitLemmas.{as_many}
use Rattle.plugin.proofs.kit_rules.KitRulesRules.filter.Goals as goal

pub returns-clause-says : goal.returns-clause-says
returns-clause-says c = rw (sym c.self.view_is) c.ask_filter.ensures.says

pub returns-clause-stays : goal.returns-clause-stays
returns-clause-stays c = c.ask_filter.ensures.kit ∙ c.self.view_is

pub invariant_of-self : goal.invariant_of-self
invariant_of-self c = subst (λ (plugins : List Ready). KeptHolds plugins c.ask_filter.new.kept) (sym c.ask_filter.ensures.kit) (c.ask_filter.ensures.kept c.self.invariant)

pub ask_filter-requires-clause-there : goal.ask_filter-requires-clause-there
ask_filter-requires-clause-there c = omega (arith, as_many c.self.inside.kit, rw (sym c.self.view_is) at c.requires.there)
