-- There is one verdict on a node.
use Rattle.std.proofs.Common.{◌≡◌, ℕ, ◌<◌, Bool, true, false, nat_lt, ◌⊎◌, inl, inr, List, [], ◌∷◌, length, Option, Some, None, Result, Ok, Err, MatchOption, slice_index, get_or, refl, ap, sym, ◌∙◌, subst, arith}
use Rattle.std.specs.List.{AllZip}
use Rattle.std.proofs.lemmas.Bool.{ltb-true, ltb-false}
use Rattle.std.proofs.lemmas.Grind.{same_number_lists}
use Rattle.quant.specs.declared.objects.Pod.{Pod}
use Rattle.desk.specs.Shown.{Shown}
use Rattle.rules.specs.RuleSet.{RuleSet, Told, SayOneThing}
use Rattle.rules.specs.declared.verdict.FilterVerdict.TheVariants as filter
use Rattle.rules.specs.declared.verdict.ScoreVerdict.TheVariants as score
use Rattle.choose.specs.declared.asking.Added.{Added}
use Rattle.choose.specs.declared.decision.Reason.{Reason}
use Rattle.choose.specs.declared.decision.Verdict.{Verdict}
use Rattle.choose.specs.declared.decision.Verdict.TheVariants.{Rejected, Errs}
use Rattle.choose.specs.Verdict.{built_in, told_of, stopped_by, StopsAt, Filtered, AreScores, weighted, in_places, ScoreErrs, Scored, made_by, passing, passing_alone, ByScores, ByRules, HasVerdict, HasRuling, asked}
use Rattle.choose.specs.Choice.{AreVerdicts, AreRulings}

by_less : (m n : ℕ) (a : Bool) → nat_lt m n ≡ a → (b : Bool) → nat_lt n m ≡ b → (m < n) ⊎ ((m ≡ n) ⊎ (n < m))
by_less m n true e b f = inl (ltb-true m n e)
by_less m n false e true f = inr (inr (ltb-true n m f))
by_less m n false e false f = inr (inl (omega (arith, ltb-false m n e, ltb-false n m f)))

-- one number is less than another, equal or greater
pub three_ways : (m n : ℕ) → (m < n) ⊎ ((m ≡ n) ⊎ (n < m))
three_ways m n = by_less m n (nat_lt m n) refl (nat_lt n m) refl

-- where a rule's filter passes, it doesn't stop there
not_stopped : (rules : RuleSet) (told : Told) (verdict : Verdict) → SayOneThing rules → (stops : StopsAt rules told verdict) → rules.Filters stops.place told filter.Passes → ⊥
not_stopped rules told verdict once stops passes =
    let same : stops.said ≡ filter.Passes = once.filter stops.place told stops.said filter.Passes stops.says passes in
    let none : stopped_by stops.place stops.said ≡ None = ap (stopped_by stops.place) same in
    cc (stops.makes)

one_stop : (rules : RuleSet) (told : Told) (v w : Verdict) → SayOneThing rules → StopsAt rules told v → StopsAt rules told w → v ≡ w
one_stop rules told v w once one other = elim (three_ways one.place other.place) [
  | inl less ↦ absurd (not_stopped rules told v once one (other.before one.place less))
  | inr more ↦ elim more [
    | inl same ↦
        let says : rules.Filters other.place told one.said = subst (λ k. rules.Filters k told one.said) same one.says in
        let said : one.said ≡ other.said = once.filter other.place told one.said other.said says other.says in
        let made : stopped_by one.place one.said ≡ stopped_by other.place other.said = ap (λ k. stopped_by k one.said) same ∙ ap (stopped_by other.place) said in
        let both : Some v ≡ Some w = sym one.makes ∙ (made ∙ other.makes) in
        cc
    | inr greater ↦ absurd (not_stopped rules told w once other (one.before other.place greater))
  ]
]

one_filtered : (rules : RuleSet) (told : Told) (one other : Option Verdict) → SayOneThing rules → Filtered rules told one → Filtered rules told other → one ≡ other
one_filtered rules told None None once a b = refl
one_filtered rules told None (Some w) once a b = absurd (not_stopped rules told w once b (a b.place b.there))
one_filtered rules told (Some v) None once a b = absurd (not_stopped rules told v once a (b a.place a.there))
one_filtered rules told (Some v) (Some w) once a b = ap (λ x. Some x) (one_stop rules told v w once a b)

-- a score that is good doesn't err
not_erring : (rules : RuleSet) (told : Told) (verdict : Verdict) (scores : List ℕ) → SayOneThing rules → (errs : ScoreErrs rules told verdict) → AreScores rules told scores → length errs.before < length scores → ⊥
not_erring rules told verdict scores once errs are there =
    let same : score.Errs errs.why ≡ score.Good (slice_index scores (length errs.before)) = once.score (length errs.before) told _ _ errs.says (are (length errs.before) there) in
    cc

same_scores : (rules : RuleSet) (told : Told) (xs ys : List ℕ) → SayOneThing rules → length xs ≡ length ys → AreScores rules told xs → AreScores rules told ys → xs ≡ ys
same_scores rules told xs ys once many one other = same_number_lists xs ys many (λ k below.
    let same : score.Good (get_or xs k 0) ≡ score.Good (get_or ys k 0) = once.score k told _ _ (one k below) (other k (omega (arith, below, many))) in
    cc)

one_error : (rules : RuleSet) (told : Told) (v w : Verdict) → SayOneThing rules → ScoreErrs rules told v → ScoreErrs rules told w → v ≡ w
one_error rules told v w once one other = elim (three_ways (length one.before) (length other.before)) [
  | inl less ↦ absurd (not_erring rules told v other.before once one other.are less)
  | inr more ↦ elim more [
    | inl same ↦
        let says : rules.Scores (length other.before) told (score.Errs one.why) = subst (λ k. rules.Scores k told (score.Errs one.why)) same one.says in
        let said : score.Errs one.why ≡ score.Errs other.why = once.score (length other.before) told _ _ says other.says in
        let why : one.why ≡ other.why = cc in
        one.makes ∙ (ap (λ k. Errs k one.why) same ∙ (ap (λ why. Errs (length other.before) why) why ∙ sym other.makes))
    | inr greater ↦ absurd (not_erring rules told w one.before once other one.are greater)
  ]
]

-- what is added is told by its sum and its scores
same_added : (one other : Added) → one.sum ≡ other.sum → one.scores ≡ other.scores → one ≡ other
same_added one other sums scores = λ k. record { sum = sums k; scores = scores k }

one_scored : (rules : RuleSet) (told : Told) (one other : Result Added Verdict) → SayOneThing rules → Scored rules told one → Scored rules told other → one ≡ other
one_scored rules told (Ok m) (Ok n) once a b =
    let same : a.scores ≡ b.scores = same_scores rules told a.scores b.scores once (a.all ∙ sym b.all) a.are b.are in
    ap (λ x. Ok x) (same_added m n (a.adds ∙ (ap (weighted rules.weights) same ∙ sym b.adds)) (a.shows ∙ (ap in_places same ∙ sym b.shows)))
one_scored rules told (Ok m) (Err w) once a b = absurd (not_erring rules told w a.scores once b a.are (omega (arith, b.there, a.all)))
one_scored rules told (Err v) (Ok n) once a b = absurd (not_erring rules told v b.scores once a b.are (omega (arith, a.there, b.all)))
one_scored rules told (Err v) (Err w) once a b = ap (λ x. Err x) (one_error rules told v w once a b)

module _ (rules : RuleSet) (told : Told) (made : Added → Verdict) (once : SayOneThing rules) where
  one_by_scores : (v w : Verdict) → ByScores rules told made v → ByScores rules told made w → v ≡ w
  one_by_scores v w a b = a.is ∙ (ap (made_by made) (one_scored rules told a.scored b.scored once a.are b.are) ∙ sym b.is)

  one_after_filters : (v w : Verdict) (filtered : Option Verdict) → MatchOption filtered (ByScores rules told made v) (λ stopped. v ≡ stopped)
      → MatchOption filtered (ByScores rules told made w) (λ stopped. w ≡ stopped) → v ≡ w
  one_after_filters v w None a b = one_by_scores v w a b
  one_after_filters v w (Some stopped) a b = a ∙ sym b

  -- there is one verdict of the rules
  one_by_rules : (v w : Verdict) → ByRules rules told made v → ByRules rules told made w → v ≡ w
  one_by_rules v w a b =
      let same : a.filtered ≡ b.filtered = one_filtered rules told a.filtered b.filtered once a.are b.are in
      one_after_filters v w b.filtered (subst (λ found. MatchOption found (ByScores rules told made v) (λ stopped. v ≡ stopped)) same a.is) b.is

one_by_built_in : (rules : RuleSet) (pod : Pod) (shown : Shown) (v w : Verdict) (found : Option Reason) → SayOneThing rules → MatchOption found (ByRules rules (told_of pod shown) (passing shown pod) v) (λ reason. v ≡ Rejected reason)
    → MatchOption found (ByRules rules (told_of pod shown) (passing shown pod) w) (λ reason. w ≡ Rejected reason) → v ≡ w
one_by_built_in rules pod shown v w None once a b = one_by_rules rules (told_of pod shown) (passing shown pod) once v w a b
one_by_built_in rules pod shown v w (Some reason) once a b = a ∙ sym b

pub one_verdict : (rules : RuleSet) (pod : Pod) (shown : Shown) (v w : Verdict) → SayOneThing rules → HasVerdict rules pod shown v → HasVerdict rules pod shown w → v ≡ w
one_verdict rules pod shown v w once a b = one_by_built_in rules pod shown v w (built_in shown pod) once a b

-- where rules say one thing, so do those that are asked
pub once_asked : (filters_alone : Bool) (rules : RuleSet) → SayOneThing rules → SayOneThing (asked filters_alone rules)
once_asked false rules once = once
once_asked true rules once = record { filter = once.filter; score = λ place told one other a b. a ∙ sym b }

-- and there is one ruling
pub one_ruling : (filters_alone : Bool) (rules : RuleSet) (pod : Pod) (shown : Shown) (v w : Verdict) → SayOneThing rules → HasRuling (asked filters_alone rules) pod shown v
    → HasRuling (asked filters_alone rules) pod shown w → v ≡ w
one_ruling filters_alone rules pod shown v w once a b = one_by_rules (asked filters_alone rules) (told_of pod shown) passing_alone (once_asked filters_alone rules once) v w a b

-- where there is one for each node, there is one list of them
one_of_each : (R : Shown → Verdict → Type 0) (nodes : List Shown) (vs ws : List Verdict) → ((node : Shown) (v w : Verdict) → R node v → R node w → v ≡ w) → AllZip R nodes vs → AllZip R nodes ws → vs ≡ ws
one_of_each R [] [] [] one a b = refl
one_of_each R [] [] (w ∷ ws) one a b = absurd b
one_of_each R [] (v ∷ vs) ws one a b = absurd a
one_of_each R (x ∷ nodes) [] ws one a b = absurd a
one_of_each R (x ∷ nodes) (v ∷ vs) [] one a b = absurd b
one_of_each R (x ∷ nodes) (v ∷ vs) (w ∷ ws) one a b = ap (λ y. y ∷ vs) (one x v w a.0 b.0) ∙ ap (λ ys. w ∷ ys) (one_of_each R nodes vs ws one a.1 b.1)

-- so there is one list of verdicts on the nodes
pub one_list : (rules : RuleSet) (pod : Pod) (nodes : List Shown) (vs ws : List Verdict) → SayOneThing rules → AreVerdicts rules pod nodes vs → AreVerdicts rules pod nodes ws → vs ≡ ws
one_list rules pod nodes vs ws once a b = one_of_each (HasVerdict rules pod) nodes vs ws (λ node v w. one_verdict rules pod node v w once) a b

-- and one of rulings
pub one_ruled : (filters_alone : Bool) (rules : RuleSet) (pod : Pod) (nodes : List Shown) (vs ws : List Verdict) → SayOneThing rules → AreRulings (asked filters_alone rules) pod nodes vs
    → AreRulings (asked filters_alone rules) pod nodes ws → vs ≡ ws
one_ruled filters_alone rules pod nodes vs ws once a b =
    one_of_each (HasRuling (asked filters_alone rules) pod) nodes vs ws (λ node v w. one_ruling filters_alone rules pod node v w once) a b
