-- Which steps leave nothing to be popped where nothing was.
use Rattle.std.proofs.Common.{◌≡◌, true, false, cond, Option, Some, None, sym, ap, subst, ◌∙◌}
use Rattle.std.specs.Prelude.{MatchOption, option_map}
use Rattle.quant.specs.declared.amount.Request.{Request}
use Rattle.quant.specs.declared.event.Event.TheVariants.{NodeSet, NodeGone, PodPending, PodBound, PodGone}
use Rattle.quant.specs.declared.name.Name.{Name}
use Rattle.quant.specs.declared.version.Version.{Version}
use Rattle.queue.specs.Calls.{NoneActive, IsNext}
use Rattle.queued.specs.Entry.{Entry, is_active}
use Rattle.queue.specs.Queue.{QueueState, entry_of, next_of, has_entry, after_add, after_fail, after_forget, after_remove}
use Rattle.queue.proofs.Next.{none_is_next, pops_the_first}
use Rattle.queue.proofs.Runs.{get-without}
use Rattle.queue.proofs.Uids.{same}
use Rattle.book.specs.Step as book_step
use Rattle.book.specs.declared.refusal.Refusal.{Refusal}
use Rattle.book.specs.declared.step.ClusterStep.{ClusterStep}
use Rattle.book.specs.declared.step.ClusterStep.TheVariants as cluster
use Rattle.desk.specs.declared.step.Step.{Step}
use Rattle.desk.specs.declared.step.Step.TheVariants.{Event, Pop, Assume, BindDone, Forget, Fail, Tick, Count}
use Rattle.desk.specs.declared.step.Reply.{Reply}
use Rattle.desk.specs.declared.step.Reply.TheVariants as replies
use Rattle.desk.specs.Machine.{State, Outcome, unless, both, told, of_node, of_pod, moved, moved_if_placed, entry_at, pass_number, popped, refusal_to_fail, refusal_to_tick, ticked_to}
use Rattle.desk.proofs.Steps.{done_by}
use Rattle.crew.specs.inside.News.{WakesNone}

-- nothing is to be popped
abbrev Sleeps : State → Type 0
Sleeps s = next_of s.queue ≡ None

-- ---- a refused step

-- what is refused changes nothing
stays : (o : Option Refusal) (s : State) (done : Outcome) (why : Refusal) → (done.reply ≡ replies.Refused why → ⊥) → replies.Refused why ≡ (unless o s done).reply → Sleeps s → Sleeps (unless o s done).state
stays None s done why other is none = absurd (other (sym is))
stays (Some w) s done why other is none = none

-- the same where the book takes a part
both_stay : (s : State) (part : ClusterStep) (queue : QueueState) (why : Refusal) → (told s.cluster part ≡ replies.Refused why → ⊥) → replies.Refused why ≡ (both s part queue).reply → Sleeps s → Sleeps (both s part queue).state
both_stay s part queue why other is none = stays (book_step.refusal s.cluster part) s (done_by s part queue) why other is none

done_apart : (why : Refusal) → replies.Done ≡ replies.Refused why → ⊥
done_apart why eq = cc

-- a step that is refused wakes none
pub refused_wakes_none : (e : Step) (why : Refusal) → WakesNone e (replies.Refused why)
refused_wakes_none (Event (NodeSet version node)) why s pass is none = both_stay s (of_node s (NodeSet version node)) (moved s s.queue) why (done_apart why) is none
refused_wakes_none (Event (NodeGone version name)) why s pass is none = both_stay s (of_node s (NodeGone version name)) s.queue why (done_apart why) is none
refused_wakes_none (Event (PodPending version pod)) why s pass is none = both_stay s (of_pod s pod.uid (PodPending version pod)) (after_add s.queue pod s.clock) why (done_apart why) is none
refused_wakes_none (Event (PodBound version uid node request)) why s pass is none = both_stay s (of_pod s uid (PodBound version uid node request)) (after_remove s.queue uid) why (done_apart why) is none
refused_wakes_none (Event (PodGone version uid)) why s pass is none = both_stay s (of_pod s uid (PodGone version uid)) (moved_if_placed s uid (after_remove s.queue uid)) why (done_apart why) is none
refused_wakes_none Pop why s pass is none = let idle : replies.Refused why ≡ replies.Idle = is ∙ ap (λ o. popped (option_map (λ item. item.1.pod) o)) none in cc
refused_wakes_none (Assume uid node) why s pass is none = both_stay s (cluster.Assume uid node (entry_at s pass uid)) s.queue why (λ eq. cc) is none
refused_wakes_none (BindDone uid ticket) why s pass is none = both_stay s (cluster.BindDone uid ticket s.clock (has_entry s.queue uid)) s.queue why (done_apart why) is none
refused_wakes_none (Forget uid ticket) why s pass is none = both_stay s (cluster.Forget uid ticket (has_entry s.queue uid)) (moved s (after_forget s.queue uid s.clock)) why (done_apart why) is none
refused_wakes_none (Fail uid how) why s pass is none =
    stays (refusal_to_fail s pass uid) s (record { state = record s { queue = after_fail s.queue uid (pass_number pass) how s.clock }; reply = replies.Done }) why (done_apart why) is none
refused_wakes_none (Tick now) why s pass is none = stays (refusal_to_tick s now) s (record { state = ticked_to s now; reply = replies.Done }) why (done_apart why) is none
refused_wakes_none Count why s pass is none = cc

-- ---- events that bring nothing

-- nothing is to be popped after a step, whether it is done or not
unless_none : (o : Option Refusal) (s : State) (done : Outcome) → Sleeps s → Sleeps done.state → Sleeps (unless o s done).state
unless_none None s done none then = then
unless_none (Some why) s done none then = none

-- where no entry is active none is without one of them
none_without : (q : QueueState) (u : Name) → NoneActive q → NoneActive (after_remove q u)
none_without q u none uid =
    subst (λ o. MatchOption o (Unit {0}) (λ (entry : Entry). is_active entry.state ≡ false)) (sym (get-without q u uid))
    (elim (same uid u) as (λ b. MatchOption (cond b None (entry_of q uid)) (Unit {0}) (λ (entry : Entry). is_active entry.state ≡ false)) [ true ↦ tt | false ↦ none uid ])

none_left : (q : QueueState) (u : Name) → next_of q ≡ None → next_of (after_remove q u) ≡ None
none_left q u none = none_is_next (after_remove q u) (none_without q u (subst (λ o. MatchOption o (NoneActive q) (IsNext q)) none (pops_the_first q)))

-- a pod is bound
pub bound_wakes_none : (version : Version) (uid node : Name) (request : Request) (answer : Reply) → WakesNone (Event (PodBound version uid node request)) answer
bound_wakes_none version uid node request answer s pass is none =
    let part = of_pod s uid (PodBound version uid node request) in
    unless_none (book_step.refusal s.cluster part) s (done_by s part (after_remove s.queue uid)) none (none_left s.queue uid none)
