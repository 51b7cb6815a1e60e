-- Tickets are given once, in the order 1, 2, 3, ..
use Rattle.std.proofs.Common.{◌≡◌, ℕ, ◌+◌, ◌≤◌, List, [], ◌∷◌, ◌++◌, length, Option, None, Some, refl, sym, ap, subst, ◌∙◌, arith}
use Rattle.std.specs.FinMap as fin
use Rattle.std.specs.List.{cons_option, range_with_len}
use Rattle.std.specs.Option.{option_map}
use Rattle.quant.specs.declared.event.Event.TheVariants.{NodeSet, NodeGone, PodPending, PodBound, PodGone}
use Rattle.quant.specs.declared.name.Name.{Name}
use Rattle.quant.specs.declared.version.Ticket.{Ticket}
use Rattle.quant.specs.declared.objects.Pod.{Pod}
use Rattle.queue.specs.Queue.{QueueState, has_entry, after_add, after_fail, after_forget, after_remove}
use Rattle.book.specs.declared.place.Place.{Place}
use Rattle.book.specs.declared.refusal.Refusal.{Refusal}
use Rattle.book.specs.declared.entry.Entry.{Entry}
use Rattle.book.specs.declared.entry.Entry.TheVariants.{Missing, Elsewhere, Held}
use Rattle.book.specs.declared.step.ClusterStep.{ClusterStep}
use Rattle.book.specs.declared.step.ClusterStep.TheVariants as cluster
use Rattle.book.specs.Step as book_step
use Rattle.book.specs.Step.{with_choice, with_finished, next_ticket}
use Rattle.desk.specs.declared.step.Step.{Step}
use Rattle.desk.specs.declared.step.Step.TheVariants.{Event, Pop, Assume, BindDone, Forget, Fail, Tick, Count}
use Rattle.desk.specs.declared.step.Reply.{Reply}
use Rattle.desk.specs.declared.step.Reply.TheVariants as replies
use Rattle.desk.specs.Machine.{State, Outcome, opening, unless, both, step, reply, after, of_node, of_pod, moved, moved_if_placed, entry_at, pass_number, first_pod, popped, refusal_to_fail, refusal_to_tick, ticked_to}
use Rattle.desk.specs.History.{Call, AreAnswered, state_after}
use Rattle.desk.specs.Laws.{ticket_in, tickets_of, TicketsOnce, TicketsInOrder}
use Rattle.desk.proofs.Steps.{done_by, unheld}

-- what a step that gives a ticket, or none, makes of the last ticket: the next one is given, or the
-- last one stays
abbrev Follows : ℕ → ℕ → Option Ticket → Type 0
Follows old new None = new ≡ old
Follows old new (Some ticket) = (ticket.0 ≡ old + 1) × (new ≡ old + 1)

abbrev FollowsBy : ℕ → ℕ → Reply → Type 0
FollowsBy old new r = Follows old new (ticket_in r)

-- a step that gives no ticket keeps the last one
kept : (n : ℕ) (r : Reply) → ticket_in r ≡ None → FollowsBy n n r
kept n r none = subst (Follows n n) (sym none) refl

module _ (s : State) where
  -- the last ticket
  abbrev last : ℕ
  last = s.cluster.ticket

  unless_follows : (o : Option Refusal) (done : Outcome) → (o ≡ None → FollowsBy last done.state.cluster.ticket done.reply) → FollowsBy last (unless o s done).state.cluster.ticket (unless o s done).reply
  unless_follows None done h = h refl
  unless_follows (Some why) done h = kept last (replies.Refused why) refl

  both_follows : (part : ClusterStep) (queue : QueueState) → (book_step.refusal s.cluster part ≡ None → FollowsBy last (done_by s part queue).state.cluster.ticket (done_by s part queue).reply)
      → FollowsBy last (both s part queue).state.cluster.ticket (both s part queue).reply
  both_follows part queue h = unless_follows (book_step.refusal s.cluster part) (done_by s part queue) h

  -- what is chosen takes the next ticket
  chosen_follows : (uid node : Name) (entry : Entry) → book_step.refusal s.cluster (cluster.Assume uid node entry) ≡ None → FollowsBy last (with_choice s.cluster uid node entry).ticket (replies.Ticket (next_ticket s.cluster))
  chosen_follows uid node Missing none = absurd (unheld s uid uid node Missing refl none)
  chosen_follows uid node Elsewhere none = absurd (unheld s uid uid node Elsewhere refl none)
  chosen_follows uid node (Held request) none = (refl, refl)

  finished_ticket : (uid : Name) (o : Option Place) → FollowsBy last (with_finished s.cluster uid s.clock o).ticket replies.Done
  finished_ticket uid None = kept last replies.Done refl
  finished_ticket uid (Some place) = kept last replies.Done refl

  popped_none : (o : Option Pod) → ticket_in (popped o) ≡ None
  popped_none None = refl
  popped_none (Some pod) = refl

  -- whatever the step
  follows : (pass : ℕ) (e : Step) → FollowsBy last (step s pass e).state.cluster.ticket (step s pass e).reply
  follows pass (Event (NodeSet version node)) = both_follows (of_node s (NodeSet version node)) (moved s s.queue) (λ none. kept last replies.Done refl)
  follows pass (Event (NodeGone version name)) = both_follows (of_node s (NodeGone version name)) s.queue (λ none. kept last replies.Done refl)
  follows pass (Event (PodPending version pod)) = both_follows (of_pod s pod.uid (PodPending version pod)) (after_add s.queue pod s.clock) (λ none. kept last replies.Done refl)
  follows pass (Event (PodBound version uid node request)) = both_follows (of_pod s uid (PodBound version uid node request)) (after_remove s.queue uid) (λ none. kept last replies.Done refl)
  follows pass (Event (PodGone version uid)) = both_follows (of_pod s uid (PodGone version uid)) (moved_if_placed s uid (after_remove s.queue uid)) (λ none. kept last replies.Done refl)
  follows pass Pop = kept last (popped (first_pod s.queue)) (popped_none (first_pod s.queue))
  follows pass (Assume uid node) = both_follows (cluster.Assume uid node (entry_at s pass uid)) s.queue (chosen_follows uid node (entry_at s pass uid))
  follows pass (BindDone uid ticket) = both_follows (cluster.BindDone uid ticket s.clock (has_entry s.queue uid)) s.queue (λ none. finished_ticket uid (fin.get s.cluster.places uid))
  follows pass (Forget uid ticket) = both_follows (cluster.Forget uid ticket (has_entry s.queue uid)) (moved s (after_forget s.queue uid s.clock)) (λ none. kept last replies.Done refl)
  follows pass (Fail uid how) = unless_follows (refusal_to_fail s pass uid) (record { state = record s { queue = after_fail s.queue uid (pass_number pass) how s.clock }; reply = replies.Done }) (λ none. kept last replies.Done refl)
  follows pass (Tick now) = unless_follows (refusal_to_tick s now) (record { state = ticked_to s now; reply = replies.Done }) (λ none. kept last replies.Done refl)
  follows pass Count = kept last (step s pass Count).reply refl

-- the last ticket never goes back
no_less : (old new : ℕ) (o : Option Ticket) → Follows old new o → old ≤ new
no_less old new None e = omega (arith, e)
no_less old new (Some ticket) e = omega (arith, e.1)

never_back : (s : State) (l : List Call) → s.cluster.ticket ≤ (state_after s l).cluster.ticket
never_back s [] = omega arith
never_back s (c ∷ l) = omega (arith, no_less s.cluster.ticket (after s c.pass c.step).cluster.ticket (ticket_in (reply s c.pass c.step)) (follows s c.pass c.step), never_back (after s c.pass c.step) l)

-- what a call makes of the last ticket, where it got the machine's answer
call_follows : (s : State) (c : Call) → c.reply ≡ reply s c.pass c.step → FollowsBy s.cluster.ticket (after s c.pass c.step).cluster.ticket c.reply
call_follows s c told = subst (FollowsBy s.cluster.ticket (after s c.pass c.step).cluster.ticket) (sym told) (follows s c.pass c.step)

-- the later calls got the machine's answers from the state after the earlier ones
pub answered_rest : (s : State) (before rest : List Call) → AreAnswered s (before ++ rest) → AreAnswered (state_after s before) rest
answered_rest s [] rest all = all
answered_rest s (c ∷ before) rest all = answered_rest (after s c.pass c.step) before rest all.1

-- so no ticket is given twice
pub tickets_once : TicketsOnce
tickets_once limits passes before between later c d ticket legal first second =
    let s = state_after (opening limits) before in
    let here = answered_rest (opening limits) before (c ∷ (between ++ d ∷ later)) legal.history.answered in
    let next = after s c.pass c.step in
    let t = state_after next between in
    let there = answered_rest next between (d ∷ later) here.1 in
    let one = subst (Follows s.cluster.ticket next.cluster.ticket) first (call_follows s c here.0) in
    let two = subst (Follows t.cluster.ticket (after t d.pass d.step).cluster.ticket) second (call_follows t d there.0) in
    absurd (omega (arith, one.0, one.1, two.0, never_back next between))

-- the tickets of answered calls go on from the last one
goes_on : (s : State) (l : List Call) → AreAnswered s l → tickets_of l ≡ range_with_len (s.cluster.ticket + 1) (length (tickets_of l))
goes_on s [] all = refl
goes_on s (c ∷ l) all = by (ticket_in c.reply) (call_follows s c all.0) (goes_on (after s c.pass c.step) l all.1)
  where
    by : (o : Option Ticket) → Follows s.cluster.ticket (after s c.pass c.step).cluster.ticket o → tickets_of l ≡ range_with_len ((after s c.pass c.step).cluster.ticket + 1) (length (tickets_of l))
        → cons_option (option_map (λ (ticket : Ticket). ticket.0) o) (tickets_of l) ≡ range_with_len (s.cluster.ticket + 1) (length (cons_option (option_map (λ (ticket : Ticket). ticket.0) o) (tickets_of l)))
    by None e rest = rest ∙ ap (λ n. range_with_len (n + 1) (length (tickets_of l))) e
    by (Some ticket) e rest = λ i. e.0 i ∷ (rest ∙ ap (λ n. range_with_len (n + 1) (length (tickets_of l))) e.1) i

-- so they are 1, 2, 3, ..
pub tickets_in_order : TicketsInOrder
tickets_in_order limits passes l legal = goes_on (opening limits) l legal.history.answered
