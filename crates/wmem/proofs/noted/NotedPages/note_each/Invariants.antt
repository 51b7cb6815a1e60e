use Rattle.std.proofs.Common.{◌≡◌, ℕ, ◌≤◌, ◌<◌, true, false, length, get_or}
use Rattle.wmem.proofs.noted.NotedPages.note_each.Given as goal

abbrev pub invariant-loop-page : goal.invariant-loop-page
invariant-loop-page l = record {
  pages : length l.self.flags ≡ length l.initial.self.flags;
  room : l.self.room ≡ l.initial.self.room;
  noted : (page : ℕ) → l.from ≤ page → page < l.page → get_or l.self.flags page false ≡ true;
  stays : (page : ℕ) → get_or l.self.flags page false ≡ false → get_or l.initial.self.flags page false ≡ false;
}
