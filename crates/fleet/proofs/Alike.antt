-- Kits that are the same judge alike.
use Rattle.std.specs.List.{Contains}
use Rattle.std.proofs.Common.{◌≡◌, ◌<◌, List, [], ◌∷◌, length, get_or, slice_index_or, sym, subst, ◌∙◌, arith}
use Rattle.rules.specs.RuleSet.{RuleSet}
use Rattle.choose.specs.Verdict.{HasVerdict}
use Rattle.choose.specs.Kits.{JudgeAlike, rules_of}

pub alike_where_same : {Kit : Type 0} (answers : Kit → RuleSet) (kits : List Kit) → ((one other : Kit) → Contains kits one → Contains kits other → one ≡ other) → JudgeAlike answers kits
alike_where_same answers kits same = λ one other pod shown verdict first second found.
    subst (λ kit. HasVerdict (answers kit) pod shown verdict) (same one other first second) found

-- what one kit alone contains is that kit
alone : {Kit : Type 0} (kit other : Kit) → Contains (kit ∷ []) other → kit ≡ other
alone kit other there =
    let first : there.0 ≡ 0 = omega (arith, there.1) in
    subst (λ k. slice_index_or (kit ∷ []) k other ≡ other) first there.2

-- so one kit judges alike
pub one_alike : {Kit : Type 0} (answers : Kit → RuleSet) (kit : Kit) → JudgeAlike answers (kit ∷ [])
one_alike answers kit = alike_where_same answers (kit ∷ []) (λ one other first second. sym (alone kit one first) ∙ alone kit other second)

-- what holds of the rules of the kit that stands first holds of the first's
pub first_is : {Kit : Type 0} (answers : Kit → RuleSet) (Holds : RuleSet → Type 0) (kits : List Kit) (other : Kit) → 0 < length kits → Holds (answers (get_or kits 0 other)) → Holds (rules_of answers kits)
first_is answers Holds [] other some holds = absurd (omega (arith, some))
first_is answers Holds (kit ∷ kits) other some holds = holds
