-- What is known of a storm when all have ended.
use Rattle.std.specs.Prelude.{◌≡◌, ◌≢◌, ◌⊎◌, ◌<◌, ◌↔◌, ℕ, Bool, false, List, length, slice_index_or, Result, Err, IfOk, IfErr, OnErr}
use Rattle.std.specs.Bool.{IsTrue}
use Rattle.std.specs.List.{All}
use Rattle.std.specs.Io.KnownBytes.{Appends}
use Rattle.streams.specs.Device.{DeviceUse, AppendsFront}
use Rattle.streams.specs.declared.fault.RunFault.{RunFault}
use Rattle.streams.specs.declared.fault.RunFault.TheVariants.{NoMemory, NoPlace, Write}
use Rattle.desk.specs.declared.step.Step.{Step}
use Rattle.desk.specs.declared.step.Counts.{Counts}
use Rattle.book.specs.Cluster.{Cluster}
use Rattle.desk.specs.Shared.{Pass, Desk, IsPassOf, Closed}
use Rattle.desk.specs.Shown.{Shown}
use Rattle.rules.specs.RuleSet.{RuleSet}
use Rattle.audit.specs.Audit.{ShowsSums}
use Rattle.crew.specs.declared.worker.Worker.{Worker}
use Rattle.crew.specs.Made.{BeginsWith}
use Rattle.crew.specs.Crew.{Each, IsDumped}
use Rattle.storm.specs.inside.Stages.{HasFed, HasReported, HasScheduled, IsIdle}
use Rattle.storm.specs.Storm.{IsStorm, Storms, desk_for, storm_text}

-- Workers that were so did what they are to do, memory was wanting to none of them, and a pass met
-- them all and took the dump.
pub record IsWorked {J D B Kit : Type 0} (answers : Kit → RuleSet) (kits : D → List Kit) (desk : Desk) (fed : List Step) (clerk : Pass) (feeders : List (Worker J (Unit {0})))
    (cyclers : List (Worker J D)) (reporters : List (Worker J B)) (counts : Counts) (rows : List Shown) (clerk' : Pass) : Type 0 where
  pub feeders' : List (Worker J (Unit {0}))
  pub cyclers' : List (Worker J D)
  pub reporters' : List (Worker J B)
  pub told : Each (HasFed fed) feeders feeders'
  pub turned : Each (HasScheduled answers kits desk) cyclers cyclers'
  pub idle : (d : Worker J D) → (slice_index_or cyclers' 0 d).failed ≡ false → IsIdle answers kits desk feeders' (slice_index_or cyclers 0 d) (slice_index_or cyclers' 0 d)
  pub reported : Each HasReported reporters reporters'
  pub all_told : All (λ w. w.failed ≡ false) feeders'
  pub all_turned : All (λ w. w.failed ≡ false) cyclers'
  pub all_reported : All (λ w. w.failed ≡ false) reporters'
  pub dumped : IsDumped desk clerk feeders' cyclers' reporters' counts rows clerk'

-- A storm of these steps was dumped; the pass that is left knows the history of which the rows are
-- the snapshot.
pub record HasEnded {D : Type 0} (rules : D → RuleSet) (deciders : List D) (binders : ℕ) (desk : Desk) (fed : List Step) (counts : Counts) (rows : List Shown) (clerk : Pass) : Type 0 where
  pub desk_is : desk ≡ desk_for (length deciders) binders
  pub storm : IsStorm rules deciders desk fed rows counts
  pub of : IsPassOf clerk desk
  pub knows : BeginsWith clerk.seen storm.looked

-- A desk was closed by a pass, and what was dumped of it was audited by its book and told, which came
-- to this.
pub record IsClosedAndTold (desk : Desk) (clerk clerk' : Pass) (counts : Counts) (rows : List Shown) (sink : DeviceUse) (result : Result Bool RunFault) : Type 0 where
  pub book : Cluster
  pub closed : Closed desk clerk clerk' book
  pub says : IfOk result (λ answer. IsTrue answer ↔ ShowsSums rows book.places)
  pub wrote : IfOk result (λ answer. Appends sink.old sink.new (storm_text rows counts answer))
  pub front : result ≡ Err Write → (answer : Bool) × (IsTrue answer ↔ ShowsSums rows book.places) × AppendsFront sink.old sink.new (storm_text rows counts answer)
  pub quiet : OnErr result (result ≢ Err Write → sink.IsUntouched)
  pub faults : IfErr result (λ e. (e ≡ NoMemory) ⊎ (e ≡ Write))
  pub write : result ≡ Err Write → sink.failures_old < sink.failures_new
  pub write_told : result ≢ Err Write → sink.failures_new ≡ sink.failures_old

-- A storm of these steps on a desk of its own wrote to this sink, and came to this.
pub record IsStormOf {D : Type 0} (rules : D → RuleSet) (deciders : List D) (binders : ℕ) (fed : List Step) (sink : DeviceUse) (result : Result Bool RunFault) : Type 0 where
  pub storm : IfOk result (Storms rules deciders binders fed (Appends sink.old sink.new))
  pub front : result ≡ Err Write → (answer : Bool) × Storms rules deciders binders fed (AppendsFront sink.old sink.new) answer
  pub quiet : OnErr result (result ≢ Err Write → sink.IsUntouched)
  pub faults : IfErr result (λ e. (e ≡ NoMemory) ⊎ ((e ≡ NoPlace) ⊎ (e ≡ Write)))
  pub write : result ≡ Err Write → sink.failures_old < sink.failures_new
  pub write_told : result ≢ Err Write → sink.failures_new ≡ sink.failures_old
