-- What slots and tables end as where the value of an entry is lent.
use Rattle.std.specs.Prelude.{ℕ, Option}
use Rattle.std.specs.Borrow.{Lends, Fml, RattleType, MutBor}
use Rattle.std.specs.contracts.option.Option.{the_row as option_row}
use Rattle.name_table.specs.declared.entry.Entry.{Entry}
use Rattle.name_table.specs.contracts.entry.Entry.{the_row as entry_row}
use Rattle.name_table.specs.contracts.entries.Entries.{the_row as entries_row}
use Rattle.name_table.specs.Slots.{Slots, with_value, put_in}

-- the entry of the slot o ends with the last value behind r
abbrev pub lends_value : (T : RattleType) → MutBor (Option (Entry T.Denot)) → MutBor T.Denot → Fml
lends_value T o r = Lends (option_row (entry_row T)) T o r (with_value o.now)

-- the slots end with the last value behind r in the slot i
abbrev pub lends_entry : (T : RattleType) → MutBor (Slots T.Denot) → ℕ → MutBor T.Denot → Fml
lends_entry T t i r = Lends (entries_row T) T t r (put_in t.now i)
