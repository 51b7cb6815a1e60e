-- What lies under the lock of a desk that many passes share, what is published, and how a word
-- names a history.
use Rattle.std.specs.Prelude.{◌≡◌, ℕ, ◌+◌, ◌==◌, true, List, [], ◌∷◌, ◌++◌, length, MatchBool}
use Rattle.logbook.specs.Pages.{Cell, Step as WordStep, View, Book, Named}
use Rattle.book.specs.declared.limits.Limits.{Limits}
use Rattle.desk.specs.declared.step.Step.{Step}
use Rattle.desk.specs.declared.step.Step.TheVariants.{Count}
use Rattle.desk.specs.declared.step.Reply.TheVariants as replies
use Rattle.desk.specs.Machine.{State, reply, after}
use Rattle.desk.specs.Caller.{Caller}
use Rattle.desk.specs.inside.Caller.{Core, new_core, with_state}
use Rattle.desk.specs.History.{Call}
use Rattle.desk.specs.inside.History.{Leaves}

-- the first word is the length of the history. The book has two words, of which the second stays 0
pub record IsKept {A : Type 0} (cells : List Cell) (log : List A) : Type 0 where
  pub words : cells ≡ (length log, true) ∷ (0, true) ∷ []

abbrev pub head_of : Book → Named
head_of b = record { tracked = true; key = 0; book = b }

-- what is asked was added to all that had been seen; or the history was longer, and nothing was
-- added
abbrev pub IsAdded : {A : Type 0} → WordStep A → View A ℕ → ℕ → View A ℕ → Type 0
IsAdded s v found w = MatchBool (found == s.old) (w.0 ≡ v.0 ++ s.ask ∷ []) (Unit {0})

-- some call
abbrev pub no_call : Call
no_call = record { pass = 0; number = 0; step = Count; reply = replies.Done }

-- a call of a pass, with the answer that the state has for it
abbrev pub next_call : State → ℕ → ℕ → Step → Call
next_call s pass number e = record { pass = pass; number = number; step = e; reply = reply s pass e }

-- a beginning of the history that this book keeps
pub record Prefix : Type 0 where
  pub book : Book
  pub list : List Call

-- with one call more
abbrev pub with_call : Prefix → Call → Prefix
with_call prefix c = record prefix { list = prefix.list ++ c ∷ [] }

-- the desk with one owner, and the history that left it so
pub record Held : Type 0 where
  pub desk : Core
  pub prefix : Prefix

-- after a call of a pass, and the history with it
abbrev pub held_after : Held → ℕ → Step → Prefix → Held
held_after x pass e prefix = record { desk = with_state x.desk (after x.desk.state pass e); prefix = prefix }

-- the history is legal, but for which passes were handed out, and leaves the desk so, the counts of
-- calls among the rest; and the desk has these limits, and its history is in this book
pub record Stands (book : Book) (limits : Limits) (x : Held) : Type 0 where
  pub leaves : Leaves x.prefix.list x.desk
  pub book_is : x.prefix.book ≡ book
  pub limits_are : x.desk.state.cluster.limits ≡ limits

-- what is held of a desk on which nothing was done
abbrev pub first_held : Book → Limits → Held
first_held book limits = record { desk = new_core limits; prefix = record { book = book; list = [] } }

-- the history with a call of a pass, as the desk answers it
abbrev pub prefix_after : Held → Caller → Step → Prefix
prefix_after x p e = with_call x.prefix (next_call x.desk.state p.number (p.calls + 1) e)
