-- There is one decision among nodes that have names of their own.
use Rattle.std.proofs.Common.{◌≡◌, ℕ, ◌<◌, ◌≤◌, true, false, List, length, get_or, Some, None, IfSome, refl, ap, sym, ◌∙◌, subst, arith}
use Rattle.std.specs.declared.cmp.Ordering.{Ordering}
use Rattle.std.specs.declared.cmp.Ordering.TheVariants.{Less, Equal, Greater}
use Rattle.std.specs.Ordering.{is_lt, nat_cmp, ordering_reverse}
use Rattle.std.specs.Cmp.Lexicographic.{slice_cmp}
use Rattle.std.specs.FinMap.{slice_cmp-IsAntisymmetric, nat_cmp-IsAntisymmetric}
use Rattle.std.specs.List.{All, Contains}
use Rattle.std.proofs.lemmas.Cmp.{nat_list_cmp_total}
use Rattle.std.proofs.lemmas.List.{get_or_default}
use Rattle.std.proofs.lemmas.List.Elements.{All-contains}
use Rattle.quant.specs.declared.objects.Pod.{Pod}
use Rattle.desk.specs.Shown.{Shown}
use Rattle.rules.specs.declared.verdict.Cause.{Cause}
use Rattle.rules.specs.RuleSet.{RuleSet, SayOneThing}
use Rattle.choose.specs.declared.decision.Verdict.{Verdict}
use Rattle.choose.specs.declared.decision.Verdict.TheVariants.{Errs}
use Rattle.choose.specs.declared.decision.Decision.{Decision}
use Rattle.choose.specs.declared.decision.Decision.TheVariants as decision
use Rattle.choose.specs.Choice.{Judged, judged, errs, most_of, total_of, NoneErrs, LeastErring, IsFirst, IsChoice, Choice}
use Rattle.quant.specs.Name.{is_before}
use Rattle.desk.specs.Order.{name_at}
use Rattle.choose.specs.inside.Finding.{nobody}
use Rattle.choose.specs.Laws.{HaveOwnNames}
use Rattle.choose.proofs.First.{judged_length, judged_name}
use Rattle.choose.proofs.Verdicts.{all_zip_length}
use Rattle.choose.proofs.OneVerdict.{one_list}

by_order : (a b : List ℕ) (o : Ordering) → slice_cmp nat_cmp a b ≡ o → is_before a b ≡ false → is_before b a ≡ false → a ≡ b
by_order a b Less e first other =
    let told : is_before a b ≡ true = ap is_lt e in
    cc
by_order a b Equal e first other = slice_cmp-IsAntisymmetric nat_cmp-IsAntisymmetric a b e
by_order a b Greater e first other =
    let back : slice_cmp nat_cmp b a ≡ Less = nat_list_cmp_total.antisymm b a ∙ ap ordering_reverse e in
    let told : is_before b a ≡ true = ap is_lt back in
    cc

-- of two names of which none comes before the other there is one
same_name : (a b : List ℕ) → is_before a b ≡ false → is_before b a ≡ false → a ≡ b
same_name a b first other = by_order a b (slice_cmp nat_cmp a b) refl first other

-- nodes of one name are one
pub record Apart (nodes : List Judged) : Type 0 where
  pub one : (a b : Judged) → Contains nodes a → Contains nodes b → a.name ≡ b.name → a ≡ b

pub apart : (nodes : List Shown) (verdicts : List Verdict) → HaveOwnNames nodes → length verdicts ≡ length nodes → Apart (judged nodes verdicts)
apart nodes verdicts own same = record { one = one }
  where
    read : (k : ℕ) (a : Judged) → k < length (judged nodes verdicts) → get_or (judged nodes verdicts) k a ≡ a → name_at nodes k ≡ a.name
    read k a below is =
        let all : length (judged nodes verdicts) ≡ length nodes = judged_length nodes verdicts same in
        sym (judged_name nodes verdicts k same (omega (arith, all, below))) ∙ ap (λ (j : Judged). j.name) (get_or_default (judged nodes verdicts) k nobody a below ∙ is)

    one : (a b : Judged) → Contains (judged nodes verdicts) a → Contains (judged nodes verdicts) b → a.name ≡ b.name → a ≡ b
    one a b here there named =
        let all : length (judged nodes verdicts) ≡ length nodes = judged_length nodes verdicts same in
        let place : here.0 ≡ there.0 = own here.0 there.0 (omega (arith, all, here.1)) (omega (arith, all, there.1)) (read here.0 a here.1 here.2 ∙ (named ∙ sym (read there.0 b there.1 there.2))) in
        sym here.2 ∙ (get_or_default (judged nodes verdicts) here.0 a b here.1 ∙ (ap (λ k. get_or (judged nodes verdicts) k b) place ∙ there.2))

one_error : (nodes : List Judged) (a b : Judged) → Apart nodes → LeastErring nodes a → LeastErring nodes b → a ≡ b
one_error nodes a b apart first other =
    apart.one a b first.there other.there (same_name a.name b.name
    (All-contains (λ x. errs x.verdict ≡ true → is_before x.name b.name ≡ false) nodes a other.least first.there first.says_nothing)
    (All-contains (λ x. errs x.verdict ≡ true → is_before x.name a.name ≡ false) nodes b first.least other.there other.says_nothing))

-- an error and that there is none don't go together
not_both : (nodes : List Judged) (a : Judged) → LeastErring nodes a → NoneErrs nodes → ⊥
not_both nodes a error none =
    let not : errs a.verdict ≡ false = All-contains (λ x. errs x.verdict ≡ false) nodes a none error.there in
    let told : errs a.verdict ≡ true = error.says_nothing in
    cc

not_passing : (nodes : List Judged) (most : ℕ) (a : Judged) (total : ℕ) → IsFirst nodes (total_of most) a total → All (λ x. total_of most x.verdict ≡ None) nodes → ⊥
not_passing nodes most a total first none =
    let not : total_of most a.verdict ≡ None = All-contains (λ x. total_of most x.verdict ≡ None) nodes a none first.there in
    let has : total_of most a.verdict ≡ Some total = first.has in
    cc

at_most : (nodes : List Judged) (most : ℕ) (a b : Judged) (s t : ℕ) → IsFirst nodes (total_of most) a s → IsFirst nodes (total_of most) b t → s ≤ t
at_most nodes most a b s t first other =
    subst (λ o. IfSome o (λ w. w ≤ t)) first.has (All-contains (λ x. IfSome (total_of most x.verdict) (λ w. w ≤ t)) nodes a other.none_greater first.there)

same_total : (nodes : List Judged) (most : ℕ) (a b : Judged) (s t : ℕ) → IsFirst nodes (total_of most) a s → IsFirst nodes (total_of most) b t → s ≡ t
same_total nodes most a b s t first other = omega (arith, at_most nodes most a b s t first other, at_most nodes most b a t s other first)

same_best : (nodes : List Judged) (most : ℕ) (a b : Judged) (s t : ℕ) → IsFirst nodes (total_of most) a s → IsFirst nodes (total_of most) b t → a.name ≡ b.name
same_best nodes most a b s t first other =
    let totals : s ≡ t = same_total nodes most a b s t first other in
    same_name a.name b.name
    (All-contains (λ x. total_of most x.verdict ≡ Some t → is_before x.name b.name ≡ false) nodes a other.none_earlier first.there (first.has ∙ ap (λ n. Some n) totals))
    (All-contains (λ x. total_of most x.verdict ≡ Some s → is_before x.name a.name ≡ false) nodes b first.none_earlier other.there (other.has ∙ ap (λ n. Some n) (sym totals)))

told_by : (place other_place : ℕ) (name other_name : List ℕ) (why other_why : Cause) → Errs place why ≡ Errs other_place other_why → name ≡ other_name → decision.PluginError place name why ≡ decision.PluginError other_place other_name other_why
told_by place other_place name other_name why other_why a b = cc

chosen_by : (name other_name : List ℕ) (total other_total : ℕ) → name ≡ other_name → total ≡ other_total → decision.Node name total ≡ decision.Node other_name other_total
chosen_by name other_name total other_total a b = cc

one_choice : (nodes : List Judged) (a b : Decision) → Apart nodes → IsChoice nodes a → IsChoice nodes b → a ≡ b
one_choice nodes (decision.PluginError p n v) (decision.PluginError q m w) apart a b =
    let same : record { name = n; verdict = Errs p v } ≡ record { name = m; verdict = Errs q w } = one_error nodes (record { name = n; verdict = Errs p v }) (record { name = m; verdict = Errs q w }) apart a b in
    told_by p q n m v w (ap (λ (j : Judged). j.verdict) same) (ap (λ (j : Judged). j.name) same)
one_choice nodes (decision.PluginError p n v) (decision.Node m t) apart a b = absurd (not_both nodes _ a b.0)
one_choice nodes (decision.PluginError p n v) (decision.Unschedulable c) apart a b = absurd (not_both nodes _ a b.0)
one_choice nodes (decision.Node n s) (decision.PluginError q m w) apart a b = absurd (not_both nodes _ b a.0)
one_choice nodes (decision.Node n s) (decision.Node m t) apart a b = chosen_by n m s t (same_best nodes (most_of nodes) _ _ s t a.1.1 b.1.1) (same_total nodes (most_of nodes) _ _ s t a.1.1 b.1.1)
one_choice nodes (decision.Node n s) (decision.Unschedulable c) apart a b = absurd (not_passing nodes (most_of nodes) _ s a.1.1 b.1)
one_choice nodes (decision.Unschedulable c) (decision.PluginError q m w) apart a b = absurd (not_both nodes _ b a.0)
one_choice nodes (decision.Unschedulable c) (decision.Node m t) apart a b = absurd (not_passing nodes (most_of nodes) _ t b.1.1 a.1)
one_choice nodes (decision.Unschedulable c) (decision.Unschedulable d) apart a b = ap (λ x. decision.Unschedulable x) (a.2 ∙ sym b.2)

pub one_decision : (rules : RuleSet) (nodes : List Shown) (pod : Pod) (a b : Decision) → SayOneThing rules → HaveOwnNames nodes → Choice rules nodes pod a → Choice rules nodes pod b → a ≡ b
one_decision rules nodes pod a b once own first other =
    let same : first.verdicts ≡ other.verdicts = one_list rules pod nodes first.verdicts other.verdicts once first.are other.are in
    one_choice (judged nodes other.verdicts) a b (apart nodes other.verdicts own (all_zip_length _ nodes other.verdicts other.are))
    (subst (λ vs. IsChoice (judged nodes vs) a) same first.is) other.is
