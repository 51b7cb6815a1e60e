-- What slots and tables end as, where a `&mut` to a value of theirs is returned.
use Rattle.std.specs.Prelude.{ℕ}
use Rattle.std.specs.Borrow.{Lends, Fml, RattleType, MutBor}
use Rattle.name_table.specs.contracts.table.NameTable.{the_row as table_row}
use Rattle.name_table.specs.Slots.{Slots, put_in}

-- the table ends with the last value behind r in its slot i
abbrev pub lends_slot : (T : RattleType) → MutBor (Slots T.Denot) → ℕ → MutBor T.Denot → Fml
lends_slot T t i r = Lends (table_row T) T t r (put_in t.now i)
