-- What is decided by a kit's rules is decided by its plugins' calls.
use Rattle.std.proofs.Common.{List, refl}
use Rattle.plugin.specs.Kit.{Ready, rules_of}
use Rattle.plugin.specs.Laws.{RulesAreCalls}
use Rattle.site.specs.Decision.{calls_of, DecidedByCalls}
use Rattle.site.proofs.Agreeing.{Agree, verdict_by, ruling_by, choice_by}

-- what the rules say the calls give
as_calls : RulesAreCalls → (kit : List Ready) → Agree (rules_of kit) (calls_of kit)
as_calls laws kit = record {
  weights = refl;
  filters = λ place told verdict said. (laws.filters kit place told.pod told.node told.used verdict).0 said;
  scores = λ place told verdict said. (laws.scores kit place told.pod told.node told.used verdict).0 said;
}

-- and what the calls give the rules say
as_rules : RulesAreCalls → (kit : List Ready) → Agree (calls_of kit) (rules_of kit)
as_rules laws kit = record {
  weights = refl;
  filters = λ place told verdict said. (laws.filters kit place told.pod told.node told.used verdict).1 said;
  scores = λ place told verdict said. (laws.scores kit place told.pod told.node told.used verdict).1 said;
}

pub decided_by_calls : RulesAreCalls → DecidedByCalls
decided_by_calls laws = record {
  verdict = λ kit pod shown verdict. (
    verdict_by (rules_of kit) (calls_of kit) (as_calls laws kit) pod shown verdict,
    verdict_by (calls_of kit) (rules_of kit) (as_rules laws kit) pod shown verdict,
  );
  ruling = λ filters_alone kit pod shown ruling. (
    ruling_by (rules_of kit) (calls_of kit) (as_calls laws kit) filters_alone pod shown ruling,
    ruling_by (calls_of kit) (rules_of kit) (as_rules laws kit) filters_alone pod shown ruling,
  );
  choice = λ kit nodes pod decision. (
    choice_by (rules_of kit) (calls_of kit) (as_calls laws kit) nodes pod decision,
    choice_by (calls_of kit) (rules_of kit) (as_rules laws kit) nodes pod decision,
  );
}
