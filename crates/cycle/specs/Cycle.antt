-- One cycle of a pass, told by what the pass has seen: each part goes on from there, while other
-- passes may make calls between.
use Rattle.std.specs.Prelude.{◌≡◌, ℕ, ◌⊎◌, List, Option, Some, None, Result, Ok, Err}
use Rattle.quant.specs.declared.name.Name.{Name}
use Rattle.quant.specs.declared.objects.Pod.{Pod}
use Rattle.quant.specs.declared.version.Ticket.{Ticket}
use Rattle.queued.specs.declared.state.Failure.{Failure}
use Rattle.queued.specs.declared.state.Failure.TheVariants.{Unschedulable, Again}
use Rattle.book.specs.declared.refusal.Refusal.{Refusal}
use Rattle.desk.specs.declared.step.Step.TheVariants.{Pop, Assume, Fail}
use Rattle.desk.specs.declared.step.Reply.{Reply}
use Rattle.desk.specs.declared.step.Reply.TheVariants as replies
use Rattle.desk.specs.Machine as machine
use Rattle.desk.specs.Shown.{Shown}
use Rattle.desk.specs.Shared.{Pass, Desk, IsApplied, IsLooked}
use Rattle.rules.specs.RuleSet.{RuleSet}
use Rattle.choose.specs.declared.decision.Decision.{Decision}
use Rattle.choose.specs.declared.decision.Decision.TheVariants as decisions
use Rattle.choose.specs.declared.decision.Verdict.{Verdict}
use Rattle.choose.specs.Choice.{AreVerdicts, Choice}
use Rattle.cycle.specs.declared.one_cycle.Cycled.{Cycled}
use Rattle.cycle.specs.declared.one_cycle.Cycled.TheVariants as cycled

-- the pass fails a pod, or is told why it can't
pub record IsFailed (desk : Desk) (p : Pass) (uid : Name) (how : Failure) (p' : Pass) : Type 0 where
  pub answer : Reply
  pub applied : IsApplied desk p (Fail uid how) answer p'

-- what follows the answer to `Assume`: with a ticket the pod has its place; where it is refused, it
-- fails, to be tried again
abbrev pub AfterAssume : Desk → Pass → (uid node : Name) → (total : ℕ) → Result Ticket Refusal → Cycled → Pass → Type 0
AfterAssume desk p uid node total (Ok ticket) came p' = (came ≡ cycled.Assumed uid node total ticket) × (p' ≡ p)
AfterAssume desk p uid node total (Err why) came p' = (came ≡ cycled.Lost uid why) × IsFailed desk p uid Again p'

-- the pod is to be assumed on a node
pub record IsAssumed (desk : Desk) (p : Pass) (uid node : Name) (total : ℕ) (came : Cycled) (p' : Pass) : Type 0 where
  pub answer : Result Ticket Refusal
  pub answered : Pass
  pub applied : IsApplied desk p (Assume uid node) (machine.given answer) answered
  pub ends : AfterAssume desk answered uid node total answer came p'

-- what is done of a decision
abbrev pub EndsWith : Desk → Pass → (uid : Name) → Decision → Cycled → Pass → Type 0
EndsWith desk p uid (decisions.Node node total) came p' = IsAssumed desk p uid node total came p'
EndsWith desk p uid (decisions.Unschedulable counts) came p' = (came ≡ cycled.Unschedulable uid counts) × IsFailed desk p uid Unschedulable p'
EndsWith desk p uid (decisions.PluginError place node cause) came p' = (came ≡ cycled.Errs uid place node cause) × IsFailed desk p uid Again p'

-- the pass looks, and this is the choice among what it sees
pub record IsChosen (rules : RuleSet) (desk : Desk) (p : Pass) (pod : Pod) (decision : Decision) (p' : Pass) : Type 0 where
  pub rows : List Shown
  pub looked : IsLooked desk p rows p'
  pub choice : Choice rules rows pod decision

-- a pod that was popped is decided of
pub record IsDecided (rules : RuleSet) (desk : Desk) (p : Pass) (pod : Pod) (came : Cycled) (p' : Pass) : Type 0 where
  pub decision : Decision
  pub looked : Pass
  pub chosen : IsChosen rules desk p pod decision looked
  pub ends : EndsWith desk looked pod.uid decision came p'

-- what follows the pod that `Pop` gives, or that it gives none
abbrev pub AfterPop : RuleSet → Desk → Pass → Option Pod → Cycled → Pass → Type 0
AfterPop rules desk p (Some pod) came p' = IsDecided rules desk p pod came p'
AfterPop rules desk p None came p' = (came ≡ cycled.Idle) × (p' ≡ p)

-- A cycle of a pass came to this: the pass popped a pod, then looked, and chose by what it saw.
-- Between these calls it made no other, and what it saw holds all that it had seen, its Pop among
-- it.
pub record IsCycle (rules : RuleSet) (desk : Desk) (p : Pass) (came : Cycled) (p' : Pass) : Type 0 where
  pub answer : Option Pod
  pub popped : Pass
  pub pops : IsApplied desk p Pop (machine.popped answer) popped
  pub then : AfterPop rules desk popped answer came p'

-- ---- the verdicts

-- these are the verdicts on the nodes that the pass saw when it looked, for the pod
pub record AreSeen (rules : RuleSet) (desk : Desk) (p : Pass) (pod : Pod) (verdicts : List Verdict) : Type 0 where
  pub rows : List Shown
  pub looked : Pass
  pub looks : IsLooked desk p rows looked
  pub are : AreVerdicts rules pod rows verdicts

-- the verdicts by which it was decided of the pod that was popped, if one was
abbrev pub DecideAfter : RuleSet → Desk → Pass → Option Pod → List Verdict → Type 0
DecideAfter rules desk p (Some pod) verdicts = AreSeen rules desk p pod verdicts
DecideAfter rules desk p None verdicts = Unit {0}

pub record DecideCycle (rules : RuleSet) (desk : Desk) (p : Pass) (verdicts : List Verdict) : Type 0 where
  pub answer : Option Pod
  pub popped : Pass
  pub pops : IsApplied desk p Pop (machine.popped answer) popped
  pub then : DecideAfter rules desk popped answer verdicts

-- ---- want of memory

-- the pass looked, or could not
abbrev pub MayLook : Desk → Pass → Pass → Type 0
MayLook desk p p' = (p' ≡ p) ⊎ ((rows : List Shown) × IsLooked desk p rows p')

-- the pass was refused a place for the pod, or was answered nothing
abbrev pub MayBeRefused : Desk → Pass → (uid : Name) → Pass → Type 0
MayBeRefused desk p uid p' = (p' ≡ p) ⊎ ((node : Name) × (why : Refusal) × IsApplied desk p (Assume uid node) (replies.Refused why) p')

-- the pod is failed, to be tried again, and none is told; or that was not answered either, and the
-- pod is told
abbrev pub IsGivenUp : Desk → Pass → (uid : Name) → (held : Option Name) → Pass → Type 0
IsGivenUp desk p uid None p' = IsFailed desk p uid Again p'
IsGivenUp desk p uid (Some held) p' = (held ≡ uid) × (p' ≡ p)

-- nothing more comes of a pod for which a node was to be looked for, or found
pub record IsLeft (desk : Desk) (p : Pass) (uid : Name) (held : Option Name) (p' : Pass) : Type 0 where
  pub left : Pass
  pub refused : MayBeRefused desk p uid left
  pub given_up : IsGivenUp desk left uid held p'

-- nothing comes of a pod that the pass popped, for which it may have looked
pub record IsInVain (desk : Desk) (p : Pass) (uid : Name) (held : Option Name) (p' : Pass) : Type 0 where
  pub looked : Pass
  pub looks : MayLook desk p looked
  pub left : IsLeft desk looked uid held p'

-- a pod was popped, and nothing comes of it
pub record IsPoppedInVain (desk : Desk) (p : Pass) (held : Option Name) (p' : Pass) : Type 0 where
  pub pod : Pod
  pub popped : Pass
  pub pops : IsApplied desk p Pop (replies.Popped pod) popped
  pub in_vain : IsInVain desk popped pod.uid held p'

-- A cycle was cut short: `Pop` was not answered; or a pod was popped, and at most refused one place
-- and failed. It is told exactly where it was popped and not failed.
abbrev pub IsCutShort : Desk → Pass → (held : Option Name) → Pass → Type 0
IsCutShort desk p held p' = ((held ≡ None) × (p' ≡ p)) ⊎ IsPoppedInVain desk p held p'
