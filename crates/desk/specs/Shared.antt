-- A desk that many passes share: what a pass has seen, what is published, and what each call tells
-- its pass.
use Rattle.std.specs.Prelude.{◌≡◌, ℕ, ◌+◌, ◌<◌, List, [], ◌∷◌, ◌++◌}
use Rattle.book.specs.declared.limits.Limits.{Limits}
use Rattle.book.specs.Cluster.{Cluster}
use Rattle.desk.specs.declared.step.Step.{Step}
use Rattle.desk.specs.declared.step.Reply.{Reply}
use Rattle.desk.specs.Machine.{opening}
use Rattle.desk.specs.Caller.{Caller}
use Rattle.desk.specs.Shown.{Shown}
use Rattle.desk.specs.Calm.{IsCalm, HasRoom}
use Rattle.std.specs.List.{All}
use Rattle.desk.specs.History.{Call, Legal, HasCallsOf, GoesOn, IsFairTicket, state_after, call, snap}

-- a pass: its number and how many of its calls were answered, and the history that it has seen
pub record Pass : Type 0 where
  pub caller : Caller
  pub seen : List Call

-- a desk: its limits, and how many passes it has handed out
pub record Desk : Type 0 where
  pub limits : Limits
  pub handed : ℕ

-- a pass of this desk: it was handed out
abbrev pub IsPassOf : Pass → Desk → Type 0
IsPassOf p desk = p.caller.number < desk.handed

-- a history that a pass may go on to: it is legal, begins with what the pass has seen, and has of
-- the pass's calls just those that it made
pub record IsAhead (desk : Desk) (p : Pass) (l : List Call) : Type 0 where
  pub legal : Legal desk.limits desk.handed l
  pub goes_on : GoesOn p.caller.number p.seen l
  pub own : HasCallsOf p.caller l

-- a step of a pass was answered so: the pass now has seen a legal history, which begins with what
-- it had seen, goes on with calls of other passes, and ends with this call; it has just the calls
-- of the pass that it made. A ticket is fair by the history before the call
pub record IsApplied (desk : Desk) (p : Pass) (e : Step) (answer : Reply) (p' : Pass) : Type 0 where
  pub until : List Call
  pub ahead : IsAhead desk p until
  pub ends : p'.seen ≡ until ++ call p.caller e answer ∷ []
  pub counted : p'.caller ≡ record p.caller { calls = p.caller.calls + 1 }
  pub legal : Legal desk.limits desk.handed p'.seen
  pub own : HasCallsOf p'.caller p'.seen
  pub fair : IsFairTicket until p.caller.number e answer

-- a look showed these rows: they are the snapshot of the history that the pass now has seen, which
-- it could go on to; where that history is calm, no node has more used than it can allot
pub record IsLooked (desk : Desk) (p : Pass) (rows : List Shown) (p' : Pass) : Type 0 where
  pub ahead : IsAhead desk p p'.seen
  pub same : p'.caller ≡ p.caller
  pub shows : rows ≡ snap p'.seen
  pub room : IsCalm p'.seen → All HasRoom rows

-- two passes met: both have now seen one history, which each could go on to
pub record Met (desk : Desk) (p q p' q' : Pass) : Type 0 where
  pub list : List Call
  pub first : IsAhead desk p list
  pub second : IsAhead desk q list
  pub first_new : p' ≡ record p { seen = list }
  pub second_new : q' ≡ record q { seen = list }

-- a desk was closed by a pass: the book is as a history left it that the pass could go on to, and
-- now has seen
pub record Closed (desk : Desk) (p p' : Pass) (book : Cluster) : Type 0 where
  pub list : List Call
  pub ahead : IsAhead desk p list
  pub new : p' ≡ record p { seen = list }
  pub book_is : book ≡ (state_after (opening desk.limits) list).cluster
