-- What is known of the rules that were asked, one after the other.
use Rattle.std.proofs.Common.{◌≡◌, ℕ, zero, suc, ◌+◌, ◌*◌, ◌<◌, ◌≤◌, List, [], ◌∷◌, ◌++◌, length, drop, replicate, set, Option, Some, None, Ok, MatchOption, slice_get, get_or, refl, ap, sym, ◌∙◌, subst, arith, length-append}
use Rattle.std.specs.List.{AllZip}
use Rattle.std.proofs.lemmas.List.{get_or_append_left, get_or_push, length-replicate}
use Rattle.std.proofs.lemmas.Nat.{mul-le}
use borrow.Author.Count.{below_more}
use Rattle.rules.specs.RuleSet.{RuleSet, Told}
use Rattle.rules.specs.declared.verdict.ScoreVerdict.TheVariants as score
use Rattle.quant.specs.declared.objects.Pod.{Pod}
use Rattle.desk.specs.Shown.{Shown}
use Rattle.choose.specs.declared.decision.Reason.{Reason}
use Rattle.choose.specs.declared.decision.Verdict.{Verdict}
use Rattle.choose.specs.declared.decision.Verdict.TheVariants.{Rejected}
use Rattle.choose.specs.Verdict.{AreScores, ScoresAdd, Filtered, weighted, no_scores, in_places, built_in, told_of, passing, passing_alone, without_scores, ByRules, HasVerdict}
use Rattle.choose.specs.inside.Verdict.{nothing_added}
use Rattle.choose.specs.Choice.{AreVerdicts}
use Rattle.choose.specs.inside.Finding.{IsBuiltIn}

-- the scores of the rules before a place are good, this is their weighted sum, and these are they
-- in their places
pub record GoodBefore (rules : RuleSet) (told : Told) (place sum : ℕ) (shown : List ℕ) : Type 0 where
  pub scores : List ℕ
  pub many : length scores ≡ place
  pub are : AreScores rules told scores
  pub adds : sum ≡ weighted rules.weights scores
  pub shows : shown ≡ in_places scores

-- where no score is known, nothing is added
pub nothing : (weights : List ℕ) → 0 ≡ weighted weights []
nothing [] = refl
nothing (w ∷ ws) = refl

pub good_before_none : (rules : RuleSet) (told : Told) → GoodBefore rules told 0 0 no_scores
good_before_none rules told = record {
  scores = [];
  many = refl;
  are = λ k below. absurd (omega (arith, below));
  adds = nothing rules.weights;
  shows = refl;
}

-- a score more stands in the place behind those that are there
set_behind : (scores places : List ℕ) (s : ℕ) → length scores < length places
    → set (scores ++ drop (length scores) places) (length scores) s ≡ (scores ++ s ∷ []) ++ drop (suc (length scores)) places
set_behind scores [] s below = absurd (omega (arith, below))
set_behind [] (x ∷ places) s below = refl
set_behind (y ∷ scores) (x ∷ places) s below = ap (λ t. y ∷ t) (set_behind scores places s (omega (arith, below)))

in_places_push : (scores : List ℕ) (s : ℕ) → length scores < 16 → set (in_places scores) (length scores) s ≡ in_places (scores ++ s ∷ [])
in_places_push scores s below =
    let longer : suc (length scores) ≡ length (scores ++ s ∷ []) = omega (arith, length-append scores (s ∷ [])) in
    set_behind scores no_scores s below ∙ ap (λ n. (scores ++ s ∷ []) ++ drop n no_scores) longer

-- one score more adds it as often as its rule's weight says
weighted_push : (weights scores : List ℕ) (w s : ℕ) → slice_get weights (length scores) ≡ Some w → weighted weights (scores ++ s ∷ []) ≡ weighted weights scores + w * s
weighted_push [] [] w s at = cc
weighted_push [] (x ∷ scores) w s at = cc
weighted_push (v ∷ weights) [] w s at =
    let e : v ≡ w = cc in
    let none : 0 ≡ weighted weights [] = nothing weights in
    ap (λ x. x * s + weighted weights []) e ∙ omega (arith, none)
weighted_push (v ∷ weights) (x ∷ scores) w s at =
    let more : weighted weights (scores ++ s ∷ []) ≡ weighted weights scores + w * s = weighted_push weights scores w s at in
    omega (arith, more)

-- one good score more
are_push : (rules : RuleSet) (told : Told) (scores : List ℕ) (s : ℕ) → AreScores rules told scores → rules.Scores (length scores) told (score.Good s) → AreScores rules told (scores ++ s ∷ [])
are_push rules told scores s are says = λ k below.
    below_more (λ n. rules.Scores n told (score.Good (get_or (scores ++ s ∷ []) n 0))) (length scores)
    (λ n lower. subst (λ v. rules.Scores n told (score.Good v)) (sym (get_or_append_left scores (s ∷ []) 0 n lower)) (are n lower))
    (subst (λ v. rules.Scores (length scores) told (score.Good v)) (sym (get_or_push scores s 0 (length scores) refl)) says)
    k (omega (arith, below, length-append scores (s ∷ [])))

pub good_before_more : (rules : RuleSet) (told : Told) (place sum w s : ℕ) (shown : List ℕ) → place < 16 → GoodBefore rules told place sum shown → slice_get rules.weights place ≡ Some w
    → rules.Scores place told (score.Good s) → GoodBefore rules told (place + 1) (sum + w * s) (set shown place s)
good_before_more rules told place sum w s shown below before at says = record {
  scores = before.scores ++ s ∷ [];
  many = simp length-append (omega (arith, before.many));
  are = are_push rules told before.scores s before.are (subst (λ n. rules.Scores n told (score.Good s)) (sym before.many) says);
  adds = omega (arith, before.adds, weighted_push rules.weights before.scores w s (rw before.many at));
  shows = ap (λ t. set t place s) before.shows ∙ (ap (λ n. set (in_places before.scores) n s) (sym before.many) ∙ in_places_push before.scores s (omega (arith, below, before.many)));
}

-- a weight and a good score make at most 1,000
pub product_within : (w s : ℕ) → w ≤ 10 → s ≤ 100 → w * s ≤ 1000
product_within w s few good = mul-le w s 10 100 few good

-- where there is no rule, the verdict is that of the built-in filters and scores
without_rules : (rules : RuleSet) (pod : Pod) (shown : Shown) (verdict : Verdict) → length rules.weights ≡ 0 → IsBuiltIn pod shown verdict → HasVerdict rules pod shown verdict
without_rules rules pod shown verdict none = cases (built_in shown pod)
  where
    cases : (found : Option Reason) → MatchOption found (verdict ≡ passing shown pod nothing_added) (λ reason. verdict ≡ Rejected reason)
        → MatchOption found (ByRules rules (told_of pod shown) (passing shown pod) verdict) (λ reason. verdict ≡ Rejected reason)
    cases None is = record {
      filtered = None;
      are = λ k below. absurd (omega (arith, below, none));
      is = record {
        scored = Ok nothing_added;
        are = record {
          scores = [];
          all = sym none;
          are = λ k below. absurd (omega (arith, below));
          adds = nothing rules.weights;
          shows = refl;
        };
        is = is;
      };
    }
    cases (Some reason) is = is

-- and so on all nodes
pub all_without_rules : (rules : RuleSet) (pod : Pod) (nodes : List Shown) (verdicts : List Verdict) → length rules.weights ≡ 0
    → AllZip (IsBuiltIn pod) nodes verdicts → AreVerdicts rules pod nodes verdicts
all_without_rules rules pod [] [] none are = tt
all_without_rules rules pod [] (v ∷ verdicts) none are = absurd are
all_without_rules rules pod (x ∷ nodes) [] none are = absurd are
all_without_rules rules pod (x ∷ nodes) (v ∷ verdicts) none are =
    (without_rules rules pod x v none are.0, all_without_rules rules pod nodes verdicts none are.1)

-- ---- filters alone

-- so many scores of 0
abbrev nones : ℕ → List ℕ
nones n = replicate n 0

weighted_none : (weights : List ℕ) (n : ℕ) → 0 ≡ weighted weights (nones n)
weighted_none [] n = refl
weighted_none (w ∷ ws) zero = refl
weighted_none (w ∷ ws) (suc n) = omega (arith, weighted_none ws n)

none_at : (n k : ℕ) → get_or (nones n) k 0 ≡ zero
none_at zero k = refl
none_at (suc n) zero = refl
none_at (suc n) (suc k) = none_at n k

none_in_places : (n m : ℕ) → n ≤ m → nones m ≡ nones n ++ drop n (nones m)
none_in_places zero m few = refl
none_in_places (suc n) zero few = absurd (omega (arith, few))
none_in_places (suc n) (suc m) few = ap (λ t. 0 ∷ t) (none_in_places n m (omega (arith, few)))

-- and where no rule has a score, nothing is added
scores_add_none : (rules : RuleSet) (told : Told) → length rules.weights ≤ 16 → ScoresAdd (without_scores rules) told nothing_added
scores_add_none rules told few =
    let n = length rules.weights in
    let many : length (nones n) ≡ n = length-replicate n 0 in
    record {
      scores = nones n;
      all = many;
      are = λ k below. ap (λ s. score.Good s) (none_at n k);
      adds = weighted_none rules.weights n;
      shows = none_in_places n 16 few ∙ ap (λ m. nones n ++ drop m no_scores) (sym many);
    }

-- so a node that all filters pass is told so
pub passes_by_filters : (rules : RuleSet) (told : Told) → length rules.weights ≤ 16 → Filtered rules told None → ByRules (without_scores rules) told passing_alone (passing_alone nothing_added)
passes_by_filters rules told few pass = record {
  filtered = None;
  are = pass;
  is = record { scored = Ok nothing_added; are = scores_add_none rules told few; is = refl };
}
