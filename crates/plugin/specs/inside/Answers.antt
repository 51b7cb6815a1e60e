-- What is known of what rules say, a byte an answer.
use Rattle.std.specs.Prelude.{◌≡◌, ℕ, ◌==◌, nat_le, if◌then◌else◌, ◌⊎◌, Option, Some, None, option_and_then, slice_get, slice_set}
use Rattle.rules.specs.declared.verdict.FilterVerdict.{FilterVerdict}
use Rattle.rules.specs.declared.verdict.FilterVerdict.TheVariants as filter
use Rattle.rules.specs.declared.verdict.Rejection.TheVariants.{Unschedulable, UnschedulableAndUnresolvable}
use Rattle.rules.specs.declared.verdict.ScoreVerdict.{ScoreVerdict}
use Rattle.rules.specs.declared.verdict.ScoreVerdict.TheVariants as score
use Rattle.plugin.specs.declared.answers.Answers.{Answers}
use Rattle.plugin.specs.declared.answers.Known.{Known}
use Rattle.plugin.specs.declared.answers.Heard.{Heard}
use Rattle.plugin.specs.declared.answers.Heard.TheVariants as heard

-- what a filter said, by its byte; an error has none
abbrev pub filter_of : ℕ → Option FilterVerdict
filter_of byte =
    if byte == 1 then Some filter.Passes
    else if byte == 2 then Some (filter.Rejects Unschedulable)
    else if byte == 3 then Some (filter.Rejects UnschedulableAndUnresolvable)
    else None

abbrev pub filter_byte : FilterVerdict → ℕ
filter_byte filter.Passes = 1
filter_byte (filter.Rejects Unschedulable) = 2
filter_byte (filter.Rejects UnschedulableAndUnresolvable) = 3
filter_byte (filter.Errs why) = 0

-- what a score said, by its byte
abbrev pub score_of : ℕ → Option ScoreVerdict
score_of byte = if nat_le byte 100 then Some (score.Good byte) else None

abbrev pub score_byte : ScoreVerdict → ℕ
score_byte (score.Good n) = n
score_byte (score.Errs why) = 255

-- answers with what the rule at a place said
abbrev pub noted : Answers → (place : ℕ) → Heard → Answers
noted answers place (heard.Filter said) = record answers { filters = slice_set answers.filters place (filter_byte said) }
noted answers place (heard.Score said) = record answers { scores = slice_set answers.scores place (score_byte said) }

-- what the filter of the rule at a place said, where that is known, and what its score said
abbrev pub filter_at : Answers → (place : ℕ) → Option FilterVerdict
filter_at answers place = option_and_then filter_of (slice_get answers.filters place)

abbrev pub score_at : Answers → (place : ℕ) → Option ScoreVerdict
score_at answers place = option_and_then score_of (slice_get answers.scores place)

abbrev pub KnowsFilter : Known → (place : ℕ) → FilterVerdict → Type 0
KnowsFilter known place said = (filter_at known.always place ≡ Some said) ⊎ (filter_at known.by_used place ≡ Some said)

abbrev pub KnowsScore : Known → (place : ℕ) → ScoreVerdict → Type 0
KnowsScore known place said = (score_at known.always place ≡ Some said) ⊎ (score_at known.by_used place ≡ Some said)

-- each answer is what a rule says
pub record AnswersHold (Says : ℕ → Heard → Type 0) (answers : Answers) : Type 0 where
  pub filters : (place : ℕ) (said : FilterVerdict) → filter_at answers place ≡ Some said → Says place (heard.Filter said)
  pub scores : (place : ℕ) (said : ScoreVerdict) → score_at answers place ≡ Some said → Says place (heard.Score said)
