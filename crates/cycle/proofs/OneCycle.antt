-- A cycle of the only pass comes to one thing.
use Rattle.std.proofs.Common.{◌≡◌, ℕ, Option, Some, None, Result, Ok, Err, sym, subst, ◌∙◌}
use Rattle.quant.specs.declared.name.Name.{Name}
use Rattle.quant.specs.declared.objects.Pod.{Pod}
use Rattle.quant.specs.declared.version.Ticket.{Ticket}
use Rattle.book.specs.declared.refusal.Refusal.{Refusal}
use Rattle.queued.specs.declared.state.Failure.TheVariants.{Unschedulable, Again}
use Rattle.desk.specs.declared.step.Step.{Step}
use Rattle.desk.specs.declared.step.Step.TheVariants.{Pop, Assume, Fail}
use Rattle.desk.specs.Machine as machine
use Rattle.desk.specs.Machine.{State, snapshot}
use Rattle.rules.specs.RuleSet.{RuleSet, SayOneThing}
use Rattle.choose.specs.declared.decision.Decision.{Decision}
use Rattle.choose.specs.declared.decision.Decision.TheVariants as decisions
use Rattle.choose.specs.Laws.{HaveOwnNames}
use Rattle.choose.proofs.OneDecision.{one_decision}
use Rattle.cycle.specs.declared.one_cycle.Cycled.{Cycled}
use Rattle.cycle.specs.CycleAlone.{AfterAssumeAlone, EndsAlone, IsDecidedAlone, AfterPopAlone, IsCycleAlone}
use Rattle.cycle.proofs.Cycles.{given_same}
use Rattle.cycle.proofs.OwnNames.{StandByName, kept, shown_apart}

-- what two answers agree in: the state after them, and what is told
abbrev pub Agree : {T : Type 0} → (one other : State) → (told told_too : T) → Type 0
Agree one other told told_too = (one ≡ other) × (told ≡ told_too)

-- ---- the parts of a cycle

-- what follows the answer to `Assume`
after_assume : (s : State) (uid node : Name) (total : ℕ) (r : Result Ticket Refusal) (came came' : Cycled) (one other : State) → AfterAssumeAlone s uid node total r came one → AfterAssumeAlone s uid node total r came' other → Agree one other came came'
after_assume s uid node total (Ok ticket) came came' one other a b = (a.1 ∙ sym b.1, a.0 ∙ sym b.0)
after_assume s uid node total (Err why) came came' one other a b = (a.1 ∙ sym b.1, a.0 ∙ sym b.0)

-- what is done of a decision
ends : (s : State) (uid : Name) (d : Decision) (came came' : Cycled) (one other : State) → EndsAlone s uid d came one → EndsAlone s uid d came' other → Agree one other came came'
ends s uid (decisions.Node node total) came came' one other a b =
    let then : State = machine.after s 0 (Assume uid node) in
    let same : a.answer ≡ b.answer = given_same a.answer b.answer (sym a.is ∙ b.is) in
    after_assume then uid node total b.answer came came' one other (subst (λ r. AfterAssumeAlone then uid node total r came one) same a.ends) b.ends
ends s uid (decisions.Unschedulable counts) came came' one other a b = (a.1 ∙ sym b.1, a.0 ∙ sym b.0)
ends s uid (decisions.PluginError place node cause) came came' one other a b = (a.1 ∙ sym b.1, a.0 ∙ sym b.0)

-- what comes of a popped pod: there is one decision, since the nodes have names of their own
decided : (rules : RuleSet) (s : State) (pod : Pod) (came came' : Cycled) (one other : State) → SayOneThing rules → HaveOwnNames (snapshot s.cluster) → IsDecidedAlone rules s pod came one → IsDecidedAlone rules s pod came' other → Agree one other came came'
decided rules s pod came came' one other once own a b =
    let same : a.decision ≡ b.decision = one_decision rules (snapshot s.cluster) pod a.decision b.decision once own a.choice b.choice in
    ends s pod.uid b.decision came came' one other (subst (λ d. EndsAlone s pod.uid d came one) same a.ends) b.ends

-- what follows the answer to `Pop`
after_pop : (rules : RuleSet) (s : State) (r : Option Pod) (came came' : Cycled) (one other : State) → SayOneThing rules → HaveOwnNames (snapshot s.cluster) → AfterPopAlone rules s r came one → AfterPopAlone rules s r came' other → Agree one other came came'
after_pop rules s (Some pod) came came' one other once own a b = decided rules s pod came came' one other once own a b
after_pop rules s None came came' one other once own a b = (a.1 ∙ sym b.1, a.0 ∙ sym b.0)

-- ---- names stay nodes' own

-- each node of a state stands under its own name
abbrev pub Own : State → Type 0
Own s = StandByName s.cluster.nodes

-- a step keeps that
pub kept_to : (s s' : State) (e : Step) → s' ≡ machine.after s 0 e → Own s → Own s'
kept_to s s' e is own = subst Own (sym is) (kept s 0 e own)

-- and so does each part of a cycle
after_assume_own : (s : State) (uid node : Name) (total : ℕ) (r : Result Ticket Refusal) (came : Cycled) (s' : State) → Own s → AfterAssumeAlone s uid node total r came s' → Own s'
after_assume_own s uid node total (Ok ticket) came s' own a = subst Own (sym a.1) own
after_assume_own s uid node total (Err why) came s' own a = kept_to s s' (Fail uid Again) a.1 own

ends_own : (s : State) (uid : Name) (d : Decision) (came : Cycled) (s' : State) → Own s → EndsAlone s uid d came s' → Own s'
ends_own s uid (decisions.Node node total) came s' own a =
    after_assume_own (machine.after s 0 (Assume uid node)) uid node total a.answer came s' (kept s 0 (Assume uid node) own) a.ends
ends_own s uid (decisions.Unschedulable counts) came s' own a = kept_to s s' (Fail uid Unschedulable) a.1 own
ends_own s uid (decisions.PluginError place node cause) came s' own a = kept_to s s' (Fail uid Again) a.1 own

after_pop_own : (rules : RuleSet) (s : State) (r : Option Pod) (came : Cycled) (s' : State) → Own s → AfterPopAlone rules s r came s' → Own s'
after_pop_own rules s (Some pod) came s' own a = ends_own s pod.uid a.decision came s' own a.ends
after_pop_own rules s None came s' own a = subst Own (sym a.1) own

-- ---- a cycle

-- a cycle keeps that
pub cycle_own : (rules : RuleSet) (s s' : State) (came : Cycled) → Own s → IsCycleAlone rules s came s' → Own s'
cycle_own rules s s' came own cycled = after_pop_own rules (machine.after s 0 Pop) (machine.first_pod s.queue) came s' (kept s 0 Pop own) cycled.is

-- where it holds, a cycle comes to one thing, and leaves one state
pub one_cycle : (rules : RuleSet) (s one other : State) (came came' : Cycled) → SayOneThing rules → Own s → IsCycleAlone rules s came one → IsCycleAlone rules s came' other → Agree one other came came'
one_cycle rules s one other came came' once own a b =
    let popped : State = machine.after s 0 Pop in
    after_pop rules popped (machine.first_pod s.queue) came came' one other once (shown_apart popped.cluster (kept s 0 Pop own)) a.is b.is
