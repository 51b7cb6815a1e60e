-- One cycle of the only pass of a desk, told by the desk's state.
use Rattle.std.specs.Prelude.{◌≡◌, ℕ, Option, Some, None, Result, Ok, Err}
use Rattle.quant.specs.declared.name.Name.{Name}
use Rattle.quant.specs.declared.objects.Pod.{Pod}
use Rattle.quant.specs.declared.version.Ticket.{Ticket}
use Rattle.queued.specs.declared.state.Failure.TheVariants.{Unschedulable, Again}
use Rattle.book.specs.declared.refusal.Refusal.{Refusal}
use Rattle.desk.specs.declared.step.Step.TheVariants.{Pop, Assume, Fail}
use Rattle.desk.specs.Machine.{State, reply, after, snapshot, first_pod, given}
use Rattle.rules.specs.RuleSet.{RuleSet}
use Rattle.choose.specs.declared.decision.Decision.{Decision}
use Rattle.choose.specs.declared.decision.Decision.TheVariants as decisions
use Rattle.choose.specs.Choice.{Choice}
use Rattle.cycle.specs.declared.one_cycle.Cycled.{Cycled}
use Rattle.cycle.specs.declared.one_cycle.Cycled.TheVariants as cycled

-- what follows the answer to `Assume`: with a ticket the pod has its place; where it is refused, it
-- fails, to be tried again
abbrev pub AfterAssumeAlone : State → (uid node : Name) → (total : ℕ) → Result Ticket Refusal → Cycled → State → Type 0
AfterAssumeAlone s uid node total (Ok ticket) came s' = (came ≡ cycled.Assumed uid node total ticket) × (s' ≡ s)
AfterAssumeAlone s uid node total (Err why) came s' = (came ≡ cycled.Lost uid why) × (s' ≡ after s 0 (Fail uid Again))

-- the pod is to be assumed on a node
pub record IsAssumedAlone (s : State) (uid node : Name) (total : ℕ) (came : Cycled) (s' : State) : Type 0 where
  pub answer : Result Ticket Refusal
  pub is : reply s 0 (Assume uid node) ≡ given answer
  pub ends : AfterAssumeAlone (after s 0 (Assume uid node)) uid node total answer came s'

-- what is done of a decision
abbrev pub EndsAlone : State → (uid : Name) → Decision → Cycled → State → Type 0
EndsAlone s uid (decisions.Node node total) came s' = IsAssumedAlone s uid node total came s'
EndsAlone s uid (decisions.Unschedulable counts) came s' = (came ≡ cycled.Unschedulable uid counts) × (s' ≡ after s 0 (Fail uid Unschedulable))
EndsAlone s uid (decisions.PluginError place node cause) came s' = (came ≡ cycled.Errs uid place node cause) × (s' ≡ after s 0 (Fail uid Again))

-- a pod that was popped is decided of, by the nodes as they now are
pub record IsDecidedAlone (rules : RuleSet) (s : State) (pod : Pod) (came : Cycled) (s' : State) : Type 0 where
  pub decision : Decision
  pub choice : Choice rules (snapshot s.cluster) pod decision
  pub ends : EndsAlone s pod.uid decision came s'

-- what follows the pod that `Pop` gives, or that it gives none
abbrev pub AfterPopAlone : RuleSet → State → Option Pod → Cycled → State → Type 0
AfterPopAlone rules s (Some pod) came s' = IsDecidedAlone rules s pod came s'
AfterPopAlone rules s None came s' = (came ≡ cycled.Idle) × (s' ≡ s)

-- a cycle came to this
pub record IsCycleAlone (rules : RuleSet) (s : State) (came : Cycled) (s' : State) : Type 0 where
  pub is : AfterPopAlone rules (after s 0 Pop) (first_pod s.queue) came s'
