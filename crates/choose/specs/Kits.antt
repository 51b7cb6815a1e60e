-- Kits of rules: those that are as good as one another, and for whose rules they stand.
use Rattle.std.specs.List.{Contains}
use Rattle.std.specs.Prelude.{Bool, List, [], ◌∷◌}
use Rattle.quant.specs.declared.objects.Pod.{Pod}
use Rattle.desk.specs.Shown.{Shown}
use Rattle.rules.specs.RuleSet.{RuleSet, no_rules}
use Rattle.choose.specs.declared.decision.Verdict.{Verdict}
use Rattle.choose.specs.Verdict.{HasVerdict, HasRuling, asked}

-- the verdict that one of the kits has on a node is the verdict of each of them
abbrev pub JudgeAlike : {Kit : Type 0} → (answers : Kit → RuleSet) → (kits : List Kit) → Type 0
JudgeAlike answers kits =
    (one other : _) (pod : Pod) (shown : Shown) (verdict : Verdict) → Contains kits one → Contains kits other →
    HasVerdict (answers one) pod shown verdict → HasVerdict (answers other) pod shown verdict

-- the ruling that one of the kits gives on a node is the ruling of each of them, by all of its rules
-- and by their filters alone
abbrev pub RuleAlike : {Kit : Type 0} → (answers : Kit → RuleSet) → (kits : List Kit) → Type 0
RuleAlike answers kits =
    (filters_alone : Bool) (one other : _) (pod : Pod) (shown : Shown) (ruling : Verdict) → Contains kits one → Contains kits other →
    HasRuling (asked filters_alone (answers one)) pod shown ruling → HasRuling (asked filters_alone (answers other)) pod shown ruling

-- the rules of kits that judge alike: those of the first
abbrev pub rules_of : {Kit : Type 0} → (answers : Kit → RuleSet) → List Kit → RuleSet
rules_of answers [] = no_rules
rules_of answers (kit ∷ kits) = answers kit
