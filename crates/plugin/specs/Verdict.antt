-- What a plugin says of a node, by how its call ended. The codes' names are those of the Kubernetes
-- page "Scheduling Framework"; the codes, the range of scores and the causes are this project's
-- own.
use Rattle.std.specs.Prelude.{ℕ, ◌==◌, nat_le, if◌then◌else◌, Some}
use Rattle.std.specs.Int.{cast_signed, w32, w64}
use Rattle.wcode.specs.declared.value.Value.TheVariants.{I32, I64}
use Rattle.wmach.specs.declared.outcome.Outcome.{Outcome}
use Rattle.wmach.specs.declared.outcome.Outcome.TheVariants as outcome
use Rattle.rules.specs.declared.verdict.Rejection.TheVariants.{Unschedulable, UnschedulableAndUnresolvable}
use Rattle.rules.specs.declared.verdict.Cause.TheVariants as cause
use Rattle.rules.specs.declared.verdict.FilterVerdict.{FilterVerdict}
use Rattle.rules.specs.declared.verdict.FilterVerdict.TheVariants as filter
use Rattle.rules.specs.declared.verdict.ScoreVerdict.{ScoreVerdict}
use Rattle.rules.specs.declared.verdict.ScoreVerdict.TheVariants as score

-- what a filter's number says
abbrev pub code_said : (bits : ℕ) → FilterVerdict
code_said bits =
    if bits == 0 then filter.Passes
    else if bits == 2 then filter.Rejects Unschedulable
    else if bits == 3 then filter.Rejects UnschedulableAndUnresolvable
    else filter.Errs (cause.Code (cast_signed w32 bits))

-- what a score's number says
abbrev pub number_said : (bits : ℕ) → ScoreVerdict
number_said bits = if nat_le bits 100 then score.Good bits else score.Errs (cause.Score (cast_signed w64 bits))

-- what a filter says by how its call ended. A filter's result is an i32, so that the last case
-- stands for nothing that comes.
abbrev pub filter_said : Outcome → FilterVerdict
filter_said (outcome.Value (Some (I32 bits)) cost) = code_said bits
filter_said (outcome.Trap name cost) = filter.Errs (cause.Trap name)
filter_said (outcome.Exhausted cost) = filter.Errs cause.Exhausted
filter_said (outcome.Value _ cost) = filter.Errs cause.Exhausted

-- what a score says by how its call ended. A score's result is an i64.
abbrev pub score_said : Outcome → ScoreVerdict
score_said (outcome.Value (Some (I64 bits)) cost) = number_said bits
score_said (outcome.Trap name cost) = score.Errs (cause.Trap name)
score_said (outcome.Exhausted cost) = score.Errs cause.Exhausted
score_said (outcome.Value _ cost) = score.Errs cause.Exhausted
