-- Those who work on one desk: each has a pass of it.
use Rattle.std.specs.Prelude.{◌≡◌, ℕ, ◌+◌, ◌<◌, false, List, [], ◌∷◌, ◌++◌, length, slice_index_or}
use Rattle.std.specs.List.{All}
use Rattle.desk.specs.History.{Call, Legal, GoesOn, snap}
use Rattle.desk.specs.declared.step.Counts.{Counts}
use Rattle.desk.specs.Shown.{Shown}
use Rattle.desk.specs.Shared.{Pass, Desk, IsPassOf, IsAhead}
use Rattle.crew.specs.declared.worker.Worker.{Worker}
use Rattle.crew.specs.Made.{BeginsWith, newcomer, Makes}
use Rattle.desk.specs.declared.step.Step.TheVariants as steps
use Rattle.desk.specs.declared.step.Reply.TheVariants as replies

-- each has a pass of the desk
abbrev pub ArePassesOf : {J T : Type 0} → Desk → List (Worker J T) → Type 0
ArePassesOf desk workers = All (λ w. IsPassOf w.pass desk) workers

-- workers with these tools, whose passes have made no call and are numbered from this number on
abbrev pub enlisted : {J T : Type 0} → ℕ → List T → List (Worker J T)
enlisted number [] = []
enlisted number (tool ∷ tools) = record { pass = newcomer number; tool = tool; failed = false } ∷ enlisted (number + 1) tools

-- of each worker this holds, before and after
abbrev pub Each : {J T : Type 0} → (Worker J T → Worker J T → Type 0) → List (Worker J T) → List (Worker J T) → Type 0
Each {J} {T} P workers workers' = (length workers' ≡ length workers) × ((i : ℕ) (d : Worker J T) → i < length workers → P (slice_index_or workers i d) (slice_index_or workers' i d))

-- A worker met a pass that had seen this history; now it has seen a history that begins with it, in
-- which it made no more calls, and with which begins what that pass has seen later.
pub record HasMet {J T : Type 0} (desk : Desk) (front back : List Call) (w w' : Worker J T) : Type 0 where
  pub same : w' ≡ record w { pass = record w.pass { seen = w'.pass.seen } }
  pub ahead : IsAhead desk w.pass w'.pass.seen
  pub after : BeginsWith w'.pass.seen front
  pub before : BeginsWith back w'.pass.seen

-- a pass met all of these, in order, and made no call
pub record HaveMet {J T : Type 0} (desk : Desk) (p : Pass) (workers : List (Worker J T)) (p' : Pass) (workers' : List (Worker J T)) : Type 0 where
  pub caller : p'.caller ≡ p.caller
  pub goes_on : GoesOn p.caller.number p.seen p'.seen
  pub legal : 0 < length workers → Legal desk.limits desk.handed p'.seen
  pub each : Each (HasMet desk p.seen p'.seen) workers workers'

-- A pass met all others, counted, looked, and met all others again: the counts are the answer to
-- the last call of a history, the rows are the snapshot of one that goes on from it, and what each
-- of the others had made is all that it made in it.
pub record IsDumped {J D B : Type 0} (desk : Desk) (clerk : Pass) (feeders : List (Worker J (Unit {0}))) (cyclers : List (Worker J D)) (reporters : List (Worker J B)) (counts : Counts) (rows : List Shown) (clerk' : Pass) : Type 0 where
  pub counted : List Call
  pub looked : List Call
  pub then_legal : Legal desk.limits desk.handed counted
  pub last_legal : Legal desk.limits desk.handed looked
  pub counted_first : BeginsWith looked counted
  pub feeders_stay : All (λ w. GoesOn w.pass.caller.number w.pass.seen counted) feeders
  pub cyclers_stay : All (λ w. GoesOn w.pass.caller.number w.pass.seen counted) cyclers
  pub reporters_stay : All (λ w. GoesOn w.pass.caller.number w.pass.seen counted) reporters
  pub own : Makes clerk (steps.Count ∷ []) (record clerk { seen = counted })
  pub before_count : List Call
  pub count : Call
  pub count_is : (count.step ≡ steps.Count) × (count.reply ≡ replies.Counts counts)
  pub ends : counted ≡ before_count ++ count ∷ []
  pub shown : rows ≡ snap looked
  pub number : clerk'.caller.number ≡ clerk.caller.number
  pub knows : BeginsWith clerk'.seen looked
