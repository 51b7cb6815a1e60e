-- What steps whose answer is of a kind of its own are answered.
use Rattle.std.proofs.Common.{◌≡◌, [], Option, None, Some, Result, Ok, Err, refl, subst, ◌∙◌}
use Rattle.quant.specs.declared.name.Name.{Name}
use Rattle.quant.specs.declared.objects.Pod.{Pod}
use Rattle.quant.specs.declared.version.Ticket.{Ticket}
use Rattle.book.specs.declared.refusal.Refusal.{Refusal}
use Rattle.book.specs.declared.step.ClusterStep.TheVariants as cluster
use Rattle.book.specs.Step as book_step
use Rattle.desk.specs.declared.step.Counts.{Counts}
use Rattle.desk.specs.declared.step.Step.{Step}
use Rattle.desk.specs.declared.step.Step.TheVariants.{Pop, Assume, Count}
use Rattle.desk.specs.declared.step.Reply.{Reply}
use Rattle.desk.specs.declared.step.Reply.TheVariants as replies
use Rattle.desk.specs.Machine.{State, Outcome, opening, reply, counts, entry_at, first_pod, popped, given, unless}
use Rattle.desk.specs.History.{AreAnswered, call, state_after}
use Rattle.desk.specs.Shared.{Pass, Desk, IsApplied}
use Rattle.desk.proofs.Fair.{answered_next}
use Rattle.desk.proofs.Steps.{done_by}

-- a step is answered as the machine answers it in some state
pub answered_in : (desk : Desk) (p p' : Pass) (e : Step) (answer : Reply) → IsApplied desk p e answer p' → (s : State) × (answer ≡ reply s p.caller.number e)
answered_in desk p p' e answer applied =
    let s = opening desk.limits in
    (state_after s applied.until, answered_next s applied.until (call p.caller e answer) [] (subst (AreAnswered s) applied.ends applied.legal.history.answered))

-- a `Pop` gives a pod, or none
pub pop_gives : (desk : Desk) (p p' : Pass) (answer : Reply) → IsApplied desk p Pop answer p' → (pod : Option Pod) × (answer ≡ popped pod)
pop_gives desk p p' answer applied = let from = answered_in desk p p' Pop answer applied in (first_pod from.0.queue, from.1)

-- where it gives no pod, none waits
pub pop_idle : (desk : Desk) (p p' : Pass) (answer : Reply) → IsApplied desk p Pop answer p' → ((pod : Pod) → answer ≡ replies.Popped pod → ⊥) → IsApplied desk p Pop replies.Idle p'
pop_idle desk p p' answer applied none = let gives = pop_gives desk p p' answer applied in by gives.0 gives.1
  where
    by : (o : Option Pod) → answer ≡ popped o → IsApplied desk p Pop replies.Idle p'
    by None is = subst (λ r. IsApplied desk p Pop r p') is applied
    by (Some pod) is = absurd (none pod is)

given_or_refused : (why : Option Refusal) (s : State) (done : Outcome) (ticket : Ticket) → done.reply ≡ replies.Ticket ticket → (o : Result Ticket Refusal) × ((unless why s done).reply ≡ given o)
given_or_refused None s done ticket is = (Ok ticket, is)
given_or_refused (Some why) s done ticket is = (Err why, refl)

-- an `Assume` gives a ticket, or is refused
pub assume_gives : (desk : Desk) (p p' : Pass) (uid node : Name) (answer : Reply) → IsApplied desk p (Assume uid node) answer p' → (o : Result Ticket Refusal) × (answer ≡ given o)
assume_gives desk p p' uid node answer applied =
    let from = answered_in desk p p' (Assume uid node) answer applied in
    let s = from.0 in
    let part = cluster.Assume uid node (entry_at s p.caller.number uid) in
    let said = given_or_refused (book_step.refusal s.cluster part) s (done_by s part s.queue) (book_step.next_ticket s.cluster) refl in
    (said.0, from.1 ∙ said.1)

-- and nothing else
pub assume_only : (desk : Desk) (p p' : Pass) (uid node : Name) (answer : Reply) → IsApplied desk p (Assume uid node) answer p'
    → ((ticket : Ticket) → answer ≡ replies.Ticket ticket → ⊥) → ((why : Refusal) → answer ≡ replies.Refused why → ⊥) → ⊥
assume_only desk p p' uid node answer applied no_ticket no_refusal = let gives = assume_gives desk p p' uid node answer applied in by gives.0 gives.1
  where
    by : (o : Result Ticket Refusal) → answer ≡ given o → ⊥
    by (Ok ticket) is = no_ticket ticket is
    by (Err why) is = no_refusal why is

-- a `Count` gives the numbers
pub count_gives : (desk : Desk) (p p' : Pass) (answer : Reply) → IsApplied desk p Count answer p' → (n : Counts) × (answer ≡ replies.Counts n)
count_gives desk p p' answer applied = let from = answered_in desk p p' Count answer applied in (counts from.0, from.1)
