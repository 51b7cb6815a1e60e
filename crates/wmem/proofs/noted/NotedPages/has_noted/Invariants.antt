use Rattle.std.proofs.Common.{◌≡◌, ℕ, ◌*◌, ◌≤◌, ◌<◌, false}
use Rattle.std.specs.Prelude.{slice_index_or}
use Rattle.wmem.proofs.noted.NotedPages.has_noted.Given as goal

-- the pages in front aren't noted
abbrev pub invariant-loop-page : goal.invariant-loop-page
invariant-loop-page l = (page : ℕ) → l.large * 16 ≤ page → page < l.page → slice_index_or l.self.flags page false ≡ false
