use Rattle.std.proofs.Common.{◌≡◌, ◌-◌, length}
use Rattle.name_table.specs.Slots.{map_of}
use Rattle.book.specs.inside.Finishes.{IsGathered}
use Rattle.book.proofs.overdue.Overdue.first.Given as goal

-- those that have a place are still to come
abbrev pub invariant-loop-self : goal.invariant-loop-self
invariant-loop-self l = record {
  names : l.self.names ≡ l.fn.self.names;
  limit : l.self.limit ≡ l.fn.self.limit;
  gathered : IsGathered (map_of l.table) l.limit l.self.names.items l.self.given;
}

abbrev pub decreases-loop-self : goal.decreases-loop-self
decreases-loop-self l = length l.self.names.items - l.self.given
