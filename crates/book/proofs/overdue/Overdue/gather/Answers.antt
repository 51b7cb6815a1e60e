use Rattle.std.proofs.Common.{sym, ◌∙◌}
use Rattle.std.proofs.lemmas.List.Sorted.{Contains-permutation}
use Rattle.name_table.specs.Slots.{map_of}
use Rattle.book.proofs.FinishLemmas.{limit_is, gathered_at, from_first}
use Rattle.book.proofs.overdue.Overdue.gather.Goals as goal

-- they are gathered already
pub returns-then-are_gathered-clause-limit : goal.returns-then-are_gathered-clause-limit
returns-then-are_gathered-clause-limit c = limit_is c.args.limit c.args.self.now.limit (sym c.are_gathered.ensures ∙ c.if-are_gathered.true)

pub returns-then-are_gathered-clause-gathered : goal.returns-then-are_gathered-clause-gathered
returns-then-are_gathered-clause-gathered c =
    gathered_at (map_of c.args.table.now) c.args.self.now.limit c.args.limit c.args.self.now.names.items c.args.self.now.given c.requires.known
    (limit_is c.args.limit c.args.self.now.limit (sym c.are_gathered.ensures ∙ c.if-are_gathered.true))

-- they are gathered anew
pub returns-clause-gathered : goal.returns-clause-gathered
returns-clause-gathered c = record {
  sorted = c.sort_unstable.ensures.sorted;
  all = λ uid e. from_first _ uid (Contains-permutation _ _ uid c.sort_unstable.ensures.permutation (c.collect.ensures.all uid e));
}
