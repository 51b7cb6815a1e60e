use Rattle.std.proofs.Common.{◌≤◌}
use Rattle.wmem.proofs.NotedLemmas.{AreMarked}
use Rattle.wmem.proofs.noted.NotedPages.count_large.Given as goal

-- the large pages in front have so many with a noted one
abbrev pub invariant-loop-large : goal.invariant-loop-large
invariant-loop-large l = AreMarked l.self.flags l.large l.count × (l.count ≤ l.large)
