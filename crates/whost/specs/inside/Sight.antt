-- What is handed over of the records, by what is shown.
use Rattle.std.specs.Prelude.{ℕ, Bool, true, false, List, Option, None, if◌then◌else◌}
use Rattle.wmach.specs.declared.outcome.Outcome.{Outcome}
use Rattle.wmach.specs.declared.outcome.Outcome.TheVariants as outcome
use Rattle.rules.specs.declared.trap.Trap.TheVariants.{NoRecord}
use Rattle.whost.specs.declared.records.Records.{Records}
use Rattle.whost.specs.declared.sight.Shows.{Shows}
use Rattle.whost.specs.Handed.{record_of, gives}

-- what is handed over
abbrev pub handed : Shows → Records → ℕ → Option (List ℕ)
handed shows records import = if gives shows import then record_of records import else None

-- a call was cut off for want of a record
abbrev pub wants_record : Outcome → Bool
wants_record (outcome.Trap NoRecord cost) = true
wants_record how = false
