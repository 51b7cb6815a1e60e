-- What kits that judge alike found of some nodes and of those behind them, each of them finds of
-- all these nodes.
use Rattle.std.proofs.Common.{◌≡◌, ◌<◌, List, [], ◌∷◌, ◌++◌, length, get_or, subst}
use Rattle.std.specs.List.{All, Contains}
use Rattle.std.proofs.lemmas.List.Elements.{Contains-get_or, Contains-append_left, Contains-append_right}
use Rattle.quant.specs.declared.objects.Pod.{Pod}
use Rattle.desk.specs.Shown.{Shown}
use Rattle.rules.specs.RuleSet.{RuleSet}
use Rattle.choose.specs.declared.decision.Verdict.{Verdict}
use Rattle.choose.specs.Verdict.{HasVerdict}
use Rattle.choose.specs.Choice.{AreVerdicts}
use Rattle.choose.proofs.Verdicts.{all_zip_append}
use Rattle.choose.specs.Kits.{JudgeAlike}

-- kits that judge alike do so without those behind them, or before them
pub alike_front : {Kit : Type 0} (answers : Kit → RuleSet) (front back : List Kit) → JudgeAlike answers (front ++ back) → JudgeAlike answers front
alike_front answers front back alike = λ one other pod shown verdict is_one is_other.
    alike one other pod shown verdict (Contains-append_left front back one is_one) (Contains-append_left front back other is_other)

pub alike_back : {Kit : Type 0} (answers : Kit → RuleSet) (front back : List Kit) → JudgeAlike answers (front ++ back) → JudgeAlike answers back
alike_back answers front back alike = λ one other pod shown verdict is_one is_other.
    alike one other pod shown verdict (Contains-append_right front back one is_one) (Contains-append_right front back other is_other)

-- the verdicts of one kit are those of another that judges alike
pub verdicts_alike : (one other : RuleSet) (pod : Pod) → ((shown : Shown) (verdict : Verdict) → HasVerdict one pod shown verdict → HasVerdict other pod shown verdict) →
    (nodes : List Shown) (verdicts : List Verdict) → AreVerdicts one pod nodes verdicts → AreVerdicts other pod nodes verdicts
verdicts_alike one other pod alike [] [] are = tt
verdicts_alike one other pod alike [] (v ∷ verdicts) are = absurd are
verdicts_alike one other pod alike (x ∷ nodes) [] are = absurd are
verdicts_alike one other pod alike (x ∷ nodes) (v ∷ verdicts) are = (alike x v are.0, verdicts_alike one other pod alike nodes verdicts are.1)

pub found_by_all : {Kit : Type 0} (answers : Kit → RuleSet) (front back : List Kit) (pod : Pod) (first others all : List Shown) (vs ws : List Verdict) →
    JudgeAlike answers (front ++ back) → 0 < length front → 0 < length back → first ++ others ≡ all →
    All (λ kit. AreVerdicts (answers kit) pod first vs) front → All (λ kit. AreVerdicts (answers kit) pod others ws) back →
    All (λ kit. AreVerdicts (answers kit) pod all (vs ++ ws)) (front ++ back)
found_by_all answers front back pod first others all vs ws alike some more both here there = λ k d below.
    let kit = get_or (front ++ back) k d in
    let one = get_or front 0 d in
    let other = get_or back 0 d in
    let known : Contains (front ++ back) kit = Contains-get_or (front ++ back) k d below in
    let one_known : Contains (front ++ back) one = Contains-append_left front back one (Contains-get_or front 0 d some) in
    let other_known : Contains (front ++ back) other = Contains-append_right front back other (Contains-get_or back 0 d more) in
    subst (λ nodes. AreVerdicts (answers kit) pod nodes (vs ++ ws)) both
    (all_zip_append (HasVerdict (answers kit) pod) first vs others ws
    (verdicts_alike (answers one) (answers kit) pod (λ shown verdict found. alike one kit pod shown verdict one_known known found) first vs (here 0 d some))
    (verdicts_alike (answers other) (answers kit) pod (λ shown verdict found. alike other kit pod shown verdict other_known known found) others ws (there 0 d more)))
