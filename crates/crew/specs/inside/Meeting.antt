-- A pass that meets others, one after the other.
use Rattle.std.specs.Prelude.{◌≡◌, ℕ, ◌<◌, ◌≤◌, List, length, slice_index_or}
use Rattle.desk.specs.History.{Legal, GoesOn}
use Rattle.desk.specs.Shared.{Pass, Desk}
use Rattle.crew.specs.declared.worker.Worker.{Worker}
use Rattle.crew.specs.Crew.{HasMet}

-- a pass met the first of these, and the others are as they were
pub record HaveMetFirst {J T : Type 0} (desk : Desk) (many : ℕ) (p : Pass) (workers : List (Worker J T)) (p' : Pass) (workers' : List (Worker J T)) : Type 0 where
  pub caller : p'.caller ≡ p.caller
  pub goes_on : GoesOn p.caller.number p.seen p'.seen
  pub legal : 0 < many → Legal desk.limits desk.handed p'.seen
  pub as_many : length workers' ≡ length workers
  pub met : (i : ℕ) (d : Worker J T) → i < length workers → i < many → HasMet desk p.seen p'.seen (slice_index_or workers i d) (slice_index_or workers' i d)
  pub same : (i : ℕ) (d : Worker J T) → i < length workers → many ≤ i → slice_index_or workers' i d ≡ slice_index_or workers i d
