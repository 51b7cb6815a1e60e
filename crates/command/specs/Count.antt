-- The numbers that options ask for.
use Rattle.std.specs.Prelude.{ℕ, ◌&&◌, nat_le, List, codes, Option, Some, None, if◌then◌else◌}
use Rattle.std.specs.Str.Parse.{digits_value, without_leading_plus}
use Rattle.clap.specs.ValueTests.{is_numeral}
use Rattle.quant.specs.declared.limits.TheConstants.{MAX_WORKERS}
use Rattle.command.specs.declared.count.TheConstants.{MAX_STORM_THREADS}
use Rattle.command.specs.declared.count.Count.{Count}
use Rattle.command.specs.declared.count.Count.TheVariants.{Workers, Cycles, Binders}

-- the option's name
abbrev pub name_of : Count → List ℕ
name_of Workers = codes "workers"
name_of Cycles = codes "cycles"
name_of Binders = codes "binders"

-- the most that it may be; the least is 1
abbrev pub most_of : Count → ℕ
most_of Workers = MAX_WORKERS
most_of Cycles = MAX_STORM_THREADS
most_of Binders = MAX_STORM_THREADS

-- what it is where no word tells it
abbrev pub unless_told : Count → ℕ
unless_told Workers = 1
unless_told Cycles = 2
unless_told Binders = 2

-- the number that decimal digits write, where it is from 1 to `most`
abbrev pub number_up_to : (most : ℕ) → (digits : List ℕ) → Option ℕ
number_up_to most digits =
    if is_numeral digits && nat_le 1 (digits_value 10 digits) && nat_le (digits_value 10 digits) most
    then Some (digits_value 10 digits) else None

-- the number that the word behind an option spells, with or without a plus before it, or what it is
-- where there is none
abbrev pub number_for : Count → Option (List ℕ) → Option ℕ
number_for count None = Some (unless_told count)
number_for count (Some word) = number_up_to (most_of count) (without_leading_plus word)
