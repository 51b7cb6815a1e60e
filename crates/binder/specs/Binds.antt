-- One bind: how a binder counts it, and the step that reports it.
use Rattle.std.specs.Prelude.{◌≡◌, ℕ, ◌+◌, ◌<◌, ◌≤◌, ◌⊎◌, Bool, true, false, List}
use Rattle.desk.specs.declared.step.Step.{Step}
use Rattle.desk.specs.declared.step.Step.TheVariants.{BindDone, Forget}
use Rattle.binder.specs.declared.answer.BindAnswer.{BindAnswer}
use Rattle.binder.specs.declared.answer.BindAnswer.TheVariants.{Done, Failed}
use Rattle.binder.specs.declared.bind.TheConstants.{MAX_BINDS}
use Rattle.binder.specs.declared.job.Bind.{Bind}
use Rattle.binder.specs.declared.job.Job.{Job}

-- the bind of a pod of this uid to a node of this name
abbrev pub bind_on : (uid node : List ℕ) → Bind
bind_on uid node = record { uid = uid; node = node }

-- the bind that a job asks for
abbrev pub bind_of : Job → Bind
bind_of job = bind_on job.uid job.node

-- 1 for a bind that was done, and 0 for one that wasn't
abbrev pub dones_of : BindAnswer → ℕ
dones_of Done = 1
dones_of Failed = 0

-- one bind was asked for; or the most that there may be were asked for, and none more was
abbrev pub IsAskedOnce : (before after : ℕ) → Type 0
IsAskedOnce before after = ((before < MAX_BINDS) × (after ≡ before + 1)) ⊎ ((MAX_BINDS ≤ before) × (after ≡ before))

-- the step that reports whether a bind was done: it is done, or the place is given up
abbrev pub report_of : Job → (done : Bool) → Step
report_of job true = BindDone job.uid job.ticket
report_of job false = Forget job.uid job.ticket
