-- Rules that say the same come to the same verdicts and choices.
use Rattle.std.proofs.Common.{◌≡◌, ◌∙◌, ℕ, Bool, true, false, List, [], ◌∷◌, length, Option, Some, None, Result, Ok, Err, MatchOption, slice_index, sym, subst, ap, arith}
use Rattle.quant.specs.declared.objects.Pod.{Pod}
use Rattle.desk.specs.Shown.{Shown}
use Rattle.rules.specs.declared.verdict.FilterVerdict.{FilterVerdict}
use Rattle.rules.specs.declared.verdict.FilterVerdict.TheVariants as filter
use Rattle.rules.specs.declared.verdict.ScoreVerdict.{ScoreVerdict}
use Rattle.rules.specs.declared.verdict.ScoreVerdict.TheVariants as score
use Rattle.rules.specs.RuleSet.{RuleSet, Told}
use Rattle.choose.specs.declared.asking.Added.{Added}
use Rattle.choose.specs.declared.decision.Reason.{Reason}
use Rattle.choose.specs.declared.decision.Verdict.{Verdict}
use Rattle.choose.specs.declared.decision.Verdict.TheVariants.{Rejected}
use Rattle.choose.specs.declared.decision.Decision.{Decision}
use Rattle.choose.specs.Verdict.{built_in, told_of, weighted, Filtered, Scored, passing, passing_alone, ByScores, ByRules, HasVerdict, HasRuling, asked}
use Rattle.choose.specs.Choice.{AreVerdicts, Choice}

-- what the one says the other says
pub record Agree (one other : RuleSet) : Type 0 where
  pub weights : one.weights ≡ other.weights
  pub filters : (place : ℕ) (told : Told) (verdict : FilterVerdict) → one.Filters place told verdict → other.Filters place told verdict
  pub scores : (place : ℕ) (told : Told) (verdict : ScoreVerdict) → one.Scores place told verdict → other.Scores place told verdict

module _ (one other : RuleSet) (agree : Agree one other) where
  as_many : length other.weights ≡ length one.weights
  as_many = ap length (sym agree.weights)

  filtered : (told : Told) (f : Option Verdict) → Filtered one told f → Filtered other told f
  filtered told None passes = λ k below. agree.filters k told filter.Passes (passes k (omega (arith, below, as_many)))
  filtered told (Some verdict) stops = record {
    place = stops.place;
    there = omega (arith, stops.there, as_many);
    before = λ k below. agree.filters k told filter.Passes (stops.before k below);
    said = stops.said;
    says = agree.filters stops.place told stops.said stops.says;
    makes = stops.makes;
  }

  scored : (told : Told) (r : Result Added Verdict) → Scored one told r → Scored other told r
  scored told (Ok added) sums = record {
    scores = sums.scores;
    all = sums.all ∙ sym as_many;
    are = λ k below. agree.scores k told (score.Good (slice_index sums.scores k)) (sums.are k below);
    adds = subst (λ ws. added.sum ≡ weighted ws sums.scores) agree.weights sums.adds;
    shows = sums.shows;
  }
  scored told (Err verdict) errs = record {
    before = errs.before;
    there = omega (arith, errs.there, as_many);
    are = λ k below. agree.scores k told (score.Good (slice_index errs.before k)) (errs.are k below);
    why = errs.why;
    says = agree.scores (length errs.before) told (score.Errs errs.why) errs.says;
    makes = errs.makes;
  }

  by_scores : (told : Told) (made : Added → Verdict) (verdict : Verdict) → ByScores one told made verdict → ByScores other told made verdict
  by_scores told made verdict by = record { scored = by.scored; are = scored told by.scored by.are; is = by.is }

  or_by_scores : (f : Option Verdict) (told : Told) (made : Added → Verdict) (verdict : Verdict) → MatchOption f (ByScores one told made verdict) (λ stopped. verdict ≡ stopped)
      → MatchOption f (ByScores other told made verdict) (λ stopped. verdict ≡ stopped)
  or_by_scores None told made verdict by = by_scores told made verdict by
  or_by_scores (Some stopped) told made verdict is = is

  by_rules : (told : Told) (made : Added → Verdict) (verdict : Verdict) → ByRules one told made verdict → ByRules other told made verdict
  by_rules told made verdict by = record { filtered = by.filtered; are = filtered told by.filtered by.are; is = or_by_scores by.filtered told made verdict by.is }

  -- have the same verdicts
  pub verdict_by : (pod : Pod) (shown : Shown) (verdict : Verdict) → HasVerdict one pod shown verdict → HasVerdict other pod shown verdict
  verdict_by pod shown verdict has = by (built_in shown pod) has
    where
      by : (b : Option Reason) → MatchOption b (ByRules one (told_of pod shown) (passing shown pod) verdict) (λ reason. verdict ≡ Rejected reason) → MatchOption b (ByRules other (told_of pod shown) (passing shown pod) verdict) (λ reason. verdict ≡ Rejected reason)
      by None rules = by_rules (told_of pod shown) (passing shown pod) verdict rules
      by (Some reason) is = is

  -- on all nodes
  pub verdicts_by : (pod : Pod) (nodes : List Shown) (verdicts : List Verdict) → AreVerdicts one pod nodes verdicts → AreVerdicts other pod nodes verdicts
  verdicts_by pod [] [] are = tt
  verdicts_by pod [] (v ∷ verdicts) are = absurd are
  verdicts_by pod (x ∷ nodes) [] are = absurd are
  verdicts_by pod (x ∷ nodes) (v ∷ verdicts) are = (verdict_by pod x v are.0, verdicts_by pod nodes verdicts are.1)

  -- and the same choice
  pub choice_by : (nodes : List Shown) (pod : Pod) (decision : Decision) → Choice one nodes pod decision → Choice other nodes pod decision
  choice_by nodes pod decision choice = record { verdicts = choice.verdicts; are = verdicts_by pod nodes choice.verdicts choice.are; is = choice.is }

-- where rules agree, so do those that are asked
agree_asked : (filters_alone : Bool) (one other : RuleSet) → Agree one other → Agree (asked filters_alone one) (asked filters_alone other)
agree_asked false one other agree = agree
agree_asked true one other agree = record { weights = agree.weights; filters = agree.filters; scores = λ place told verdict said. said }

-- and they give the same rulings
pub ruling_by : (one other : RuleSet) (agree : Agree one other) (filters_alone : Bool) (pod : Pod) (shown : Shown) (ruling : Verdict) → HasRuling (asked filters_alone one) pod shown ruling
    → HasRuling (asked filters_alone other) pod shown ruling
ruling_by one other agree filters_alone pod shown ruling has =
    by_rules (asked filters_alone one) (asked filters_alone other) (agree_asked filters_alone one other agree) (told_of pod shown) passing_alone ruling has
