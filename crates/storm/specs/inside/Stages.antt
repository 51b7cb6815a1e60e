-- What the workers of a storm have done when all have ended.
use Rattle.std.specs.Prelude.{◌≡◌, false, List, slice_index_or}
use Rattle.std.specs.List.{All, AllByRecursion}
use Rattle.desk.specs.History.{Call, Legal}
use Rattle.desk.specs.declared.step.Step.{Step}
use Rattle.desk.specs.Shared.{Pass, Desk}
use Rattle.rules.specs.RuleSet.{RuleSet}
use Rattle.choose.specs.Kits.{rules_of}
use Rattle.crew.specs.declared.worker.Worker.{Worker}
use Rattle.crew.specs.Made.{BeginsWith, Makes, IsReport}
use Rattle.crew.specs.Crew.{Each, HaveMet}
use Rattle.crew.specs.Cycles.{OneCycle, HasCycled, EndsIdle}

-- a feeder told these steps, if memory was not wanting
pub record HasFed {J : Type 0} (fed : List Step) (w w' : Worker J (Unit {0})) : Type 0 where
  pub number : w'.pass.caller.number ≡ w.pass.caller.number
  pub told : w'.failed ≡ false → Makes w.pass fed w'.pass

-- a worker reported binds, and did nothing else
pub record HasReported {J B : Type 0} (w w' : Worker J B) : Type 0 where
  pub number : w'.pass.caller.number ≡ w.pass.caller.number
  pub made : List Step
  pub makes : Makes w.pass made w'.pass
  pub reports : AllByRecursion IsReport made

module _ {J D Kit : Type 0} (answers : Kit → RuleSet) (kits : D → List Kit) (desk : Desk) where
  -- a worker made cycles by its decider's rules, and did nothing else, if memory was not wanting
  pub record HasScheduled (w w' : Worker J D) : Type 0 where
    pub number : w'.pass.caller.number ≡ w.pass.caller.number
    pub same : kits w'.tool ≡ kits w.tool
    pub made : w'.failed ≡ false → (made : List OneCycle) × HasCycled (rules_of answers (kits w.tool)) desk w.pass made w'.pass

  -- and the last of its cycles found no pod, and began when it had seen all that these feeders had,
  -- in one history
  pub record IsIdle (feeders : List (Worker J (Unit {0}))) (w w' : Worker J D) : Type 0 where
    pub all_fed : List Call
    pub legal : Legal desk.limits desk.handed all_fed
    pub told : All (λ f. BeginsWith all_fed f.pass.seen) feeders
    pub made : List OneCycle
    pub last : OneCycle
    pub cycled : EndsIdle (rules_of answers (kits w.tool)) desk w.pass made last w'.pass
    pub after : BeginsWith last.before.seen all_fed

  -- a worker met these feeders, and then made cycles up to one that found no pod
  pub record HasFinished (feeders : List (Worker J (Unit {0}))) (w : Worker J D) (feeders' : List (Worker J (Unit {0}))) (w' : Worker J D) : Type 0 where
    pub told : Pass
    pub met : HaveMet desk w.pass feeders told feeders'
    pub number : w'.pass.caller.number ≡ w.pass.caller.number
    pub same : kits w'.tool ≡ kits w.tool
    pub before : w'.failed ≡ false → w.failed ≡ false
    pub made : w'.failed ≡ false → (made : List OneCycle) × (last : OneCycle) × EndsIdle (rules_of answers (kits w.tool)) desk told made last w'.pass

  -- feeders told these steps, workers made cycles beside them, and where memory was not wanting, the
  -- first of these ended with a cycle that found no pod when all feeders had ended
  pub record HaveWorked (steps : List Step) (feeders feeders' : List (Worker J (Unit {0}))) (cyclers cyclers' : List (Worker J D)) : Type 0 where
    pub fed : Each (HasFed steps) feeders feeders'
    pub turned : Each HasScheduled cyclers cyclers'
    pub idle : (d : Worker J D) → (slice_index_or cyclers' 0 d).failed ≡ false → IsIdle feeders' (slice_index_or cyclers 0 d) (slice_index_or cyclers' 0 d)
