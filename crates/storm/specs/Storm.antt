-- What a storm promises.
use Rattle.std.specs.Prelude.{◌≡◌, ◌≢◌, ℕ, ◌+◌, ◌<◌, ◌≤◌, ◌↔◌, Bool, true, false, List, [], ◌∷◌, ◌++◌, Some, None, Result, Err, IfOk, IfSome, OnErr, slice_index_or, length, codes}
use Rattle.std.specs.Bool.{IsTrue}
use Rattle.std.specs.List.{AllByRecursion}
use Rattle.std.specs.Io.KnownBytes.{Appends}
use Rattle.manifest.specs.declared.fault.LineFault.{LineFault}
use Rattle.desk.specs.declared.step.Step.{Step}
use Rattle.desk.specs.declared.step.Step.TheVariants as steps
use Rattle.desk.specs.declared.step.Counts.{Counts}
use Rattle.desk.specs.declared.step.Reply.TheVariants as replies
use Rattle.desk.specs.History.{Call, Legal, state_after, snap}
use Rattle.desk.specs.Machine as machine
use Rattle.desk.specs.Shared.{Desk}
use Rattle.desk.specs.Shown.{Shown}
use Rattle.rules.specs.RuleSet.{RuleSet}
use Rattle.audit.specs.Audit.{ShowsSums}
use Rattle.streams.specs.declared.fault.RunFault.{RunFault}
use Rattle.streams.specs.declared.fault.RunFault.TheVariants.{Line, Read, Write}
use Rattle.streams.specs.Greatest.{limits}
use Rattle.output_lines.specs.Replies.{snapshot_lines, reply_lines}
use Rattle.streams.specs.Device.{DeviceUse, AppendsFront}
use Rattle.streams.specs.Lines.{line_of}
use Rattle.watch_script.specs.Script.{script_steps, first_storm_fault}
use Rattle.crew.specs.Made.{BeginsWith, steps_of, IsReportOrCount}
use Rattle.crew.specs.Cycles.{OneCycle, Cycles, IsIdleAfter}

-- ---- the histories

-- which passes make cycles: 0 and 1 feed, then each decider has one, and all others report binds or
-- count
abbrev pub cycler : ℕ → ℕ
cycler place = 2 + place

-- Three histories of one desk, each of which begins with the one before: up to where all was fed,
-- up to the count that is dumped, and up to the look that is dumped. A decider's rules are what
-- `rules` says of it.
pub record IsStorm {D : Type 0} (rules : D → RuleSet) (deciders : List D) (desk : Desk) (fed : List Step) (rows : List Shown) (counts : Counts) : Type 0 where
  pub all_fed : List Call
  pub counted : List Call
  pub looked : List Call
  pub first_legal : Legal desk.limits desk.handed all_fed
  pub then_legal : Legal desk.limits desk.handed counted
  pub last_legal : Legal desk.limits desk.handed looked
  pub fed_first : BeginsWith counted all_fed
  pub counted_first : BeginsWith looked counted
  -- each feeder made the script's steps, in order, before all was fed, and nothing more
  pub feeders : (pass : ℕ) → pass < 2 → (steps_of pass all_fed ≡ fed) × (steps_of pass counted ≡ fed)
  -- each decider's pass made cycles by its rules, and nothing else
  pub cycles : ℕ → List OneCycle
  pub cyclers : (place : ℕ) (d : D) → place < length deciders → Cycles (rules (slice_index_or deciders place d)) desk counted (cycler place) (cycles place)
  -- the first of them has a cycle that began after all was fed and found no pod
  pub idle : (c : OneCycle) × (earlier : List OneCycle) × (cycles 0 ≡ earlier ++ c ∷ []) × IsIdleAfter all_fed c
  -- all others reported binds, or counted
  pub others : (pass : ℕ) → 2 + length deciders ≤ pass → AllByRecursion IsReportOrCount (steps_of pass counted)
  -- the count that is dumped is the last call, and the rows that are dumped are those of the
  -- history after it
  pub before_count : List Call
  pub count : Call
  pub count_is : (count.step ≡ steps.Count) × (count.reply ≡ replies.Counts counts)
  pub ends : counted ≡ before_count ++ count ∷ []
  pub shown : rows ≡ snap looked

-- The audit's answer is whether each of these rows shows as used the sum over the places that a
-- history leaves, which goes on from the one that is dumped and is the desk's last.
pub record IsAudit (desk : Desk) (looked : List Call) (rows : List Shown) (answer : Bool) : Type 0 where
  pub closed : List Call
  pub legal : Legal desk.limits desk.handed closed
  pub looked_first : BeginsWith closed looked
  pub says : IsTrue answer ↔ ShowsSums rows (state_after (machine.opening desk.limits) closed).cluster.places

-- ---- what is written

-- the audit's line
abbrev pub audit_line : Bool → List ℕ
audit_line true = line_of (codes "audit ok")
audit_line false = line_of (codes "audit failed")

-- the dump's lines, and then the audit's
abbrev pub storm_text : List Shown → Counts → (answer : Bool) → List ℕ
storm_text rows counts answer = (snapshot_lines rows ++ reply_lines (replies.Counts counts)) ++ audit_line answer

-- the desk of a storm: it has the program's limits, and handed out a pass for each feeder, decider
-- and binder, and one more
abbrev pub desk_for : (deciders binders : ℕ) → Desk
desk_for deciders binders = record { limits = limits; handed = 2 + deciders + binders + 1 }

-- a storm of these steps came to this answer, and of what tells it so much was written
pub record Storms {D : Type 0} (rules : D → RuleSet) (deciders : List D) (binders : ℕ) (fed : List Step) (Wrote : List ℕ → Type 0) (answer : Bool) : Type 0 where
  pub rows : List Shown
  pub counts : Counts
  pub storm : IsStorm rules deciders (desk_for (length deciders) binders) fed rows counts
  pub audit : IsAudit (desk_for (length deciders) binders) storm.looked rows answer
  pub wrote : Wrote (storm_text rows counts answer)

-- these are the steps of the script, where the source tells its bytes: no line is faulty, and
-- everything is read
abbrev pub AreOfScript : List Step → (source : DeviceUse) → Type 0
AreOfScript fed source = IfSome source.old (λ script. (first_storm_fault script ≡ None) × (fed ≡ script_steps script) × (source.new ≡ Some []))

-- a storm of the script's steps came to this answer, and of what tells it so much was written
abbrev pub StormsScript : {D : Type 0} → (D → RuleSet) → (deciders : List D) → (binders : ℕ) → (source : DeviceUse) → (Wrote : List ℕ → Type 0) → (answer : Bool) → Type 0
StormsScript rules deciders binders source Wrote answer =
    (fed : List Step) × AreOfScript fed source × Storms rules deciders binders fed Wrote answer

-- A storm took its script from this source, wrote to this sink, and came to this.
pub record IsStormRun {D : Type 0} (rules : D → RuleSet) (deciders : List D) (binders : ℕ) (source sink : DeviceUse) (result : Result Bool RunFault) : Type 0 where
  -- an answer: it is that of a storm of the script's steps, and all that tells it is written
  pub done : IfOk result (StormsScript rules deciders binders source (Appends sink.old sink.new))
  -- at a failed write there was an answer too, and a beginning of what tells it is written
  pub front : result ≡ Err Write → (answer : Bool) × StormsScript rules deciders binders source (AppendsFront sink.old sink.new) answer
  -- the line is the first faulty one
  pub line : (number : ℕ) (fault : LineFault) → result ≡ Err (Line number fault) → IfSome source.old (λ script. first_storm_fault script ≡ Some (number, fault))
  -- at any fault but a failed write nothing is written
  pub quiet : OnErr result (result ≢ Err Write → sink.IsUntouched)
  -- a failure is told only where the device failed meanwhile, and each failure is told
  pub read : result ≡ Err Read → source.failures_old < source.failures_new
  pub write : result ≡ Err Write → sink.failures_old < sink.failures_new
  pub read_told : result ≢ Err Read → source.failures_new ≡ source.failures_old
  pub write_told : result ≢ Err Write → sink.failures_new ≡ sink.failures_old
