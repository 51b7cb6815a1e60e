-- What becomes of a choice, by the ledger's answer, and of a pod that waits.
use Rattle.std.proofs.Common.{◌≡◌, ◌≢◌, ◌∙◌, ℕ, Bool, true, false, List, Option, Some, None, if◌then◌else◌, refl, sym, subst, ap}
use Rattle.std.specs.FinMap.{get, insert}
use Rattle.quant.specs.declared.name.Name.{Name}
use Rattle.quant.specs.declared.objects.Pod.{Pod}
use Rattle.quant.specs.declared.version.Ticket.{Ticket}
use Rattle.quant.specs.declared.version.Version.{Version}
use Rattle.rules.specs.RuleSet.{RuleSet}
use Rattle.quant.specs.declared.event.Event.TheVariants.{PodPending}
use Rattle.book.specs.declared.refusal.Refusal.{Refusal}
use Rattle.desk.specs.Machine as machine
use Rattle.desk.specs.Machine.{State, after, first_pod}
use Rattle.desk.specs.declared.step.Reply.{Reply}
use Rattle.desk.specs.declared.step.Reply.TheVariants as replies
use Rattle.desk.specs.declared.step.Step.TheVariants.{Event as TellsEvent, Forget, Pop}
use Rattle.cycle.specs.declared.one_cycle.Cycled.{Cycled}
use Rattle.cycle.specs.declared.one_cycle.Cycled.TheVariants.{Assumed}
use Rattle.cycle.specs.CycleAlone.{AfterPopAlone, IsCycleAlone}
use Rattle.ledger.specs.declared.event.Answer.{Answer}
use Rattle.ledger.specs.declared.event.Answer.TheVariants.{Told, Old, Full, Granted, Shut, NotWaiting, Refused, Read as IsToRead}
use Rattle.ledger.specs.declared.event.Event.{Event}
use Rattle.ledger.specs.declared.event.Event.TheVariants.{ListBegins, ListEnds, Deaf, Hears, Node, NodeGone, Waits, Withheld, Stands, Unread, Gone, Rested, Bind, Answered, Read}
use Rattle.ledger.specs.State.{is_open}
use Rattle.ledger.specs.Told.{IsTold}
use Rattle.live_desk.specs.declared.live_desk.Taken.TheVariants.{Answers, LeftOut}
use Rattle.live_desk.specs.declared.turn.Turn.{Turn}
use Rattle.live_desk.specs.declared.turn.Turn.TheVariants as turns
use Rattle.live_desk.specs.State.{Live, has_room, numbered, offer, offer_new, offered_by, pending as asks, steps, tells, version_of, with_ticket}
use Rattle.live_desk.specs.Telling.{IsPending, IsTaken, is_newest, names_of, offered_if, pending, taken_by, takes, told, told_if, with_ledger}
use Rattle.live_desk.specs.Turns.{IsAsked, IsDecided, IsTurn, IsTurnIf, Leads, asked_by, turned, with_desk}
use Rattle.live_desk.specs.declared.change.Change.{Change}
use Rattle.live_desk.specs.inside.Change.{change_of, changed}
use Rattle.live_desk.proofs.OnlyDesk.{tell_if}

-- ---- a choice

module _ (s mid after : Live) (uid node : Name) (total : ℕ) (ticket : Ticket) where
  pub granted : (bind : Ticket) → IsTold s.ledger (Bind uid node) (Granted bind) mid.ledger → mid ≡ with_ledger s mid.ledger → after ≡ with_ticket mid uid (Some ticket)
      → IsAsked s uid node total ticket (turns.Granted uid node total bind) after
  granted bind told mid_is is = record {
    answer = Granted bind;
    known = mid.ledger;
    tells = told;
    is = ap (turned (turns.Granted uid node total bind)) (is ∙ ap (λ x. with_ticket x uid (Some ticket)) mid_is);
  }

  given_up : (answer : Answer) → IsTold s.ledger (Bind uid node) answer mid.ledger → mid ≡ with_ledger s mid.ledger → after ≡ steps mid (Forget uid ticket)
      → asked_by answer (with_ledger s mid.ledger) uid node total ticket ≡ turned (turns.Denied uid node answer) (steps (with_ledger s mid.ledger) (Forget uid ticket))
      → IsAsked s uid node total ticket (turns.Denied uid node answer) after
  given_up answer told mid_is is by = record {
    answer = answer;
    known = mid.ledger;
    tells = told;
    is = ap (turned (turns.Denied uid node answer)) (is ∙ ap (λ x. steps x (Forget uid ticket)) mid_is) ∙ sym by;
  }

  pub denied : (answer : Answer) → ((bind : Ticket) → answer ≢ Granted bind) → IsTold s.ledger (Bind uid node) answer mid.ledger → mid ≡ with_ledger s mid.ledger
      → after ≡ steps mid (Forget uid ticket) → IsAsked s uid node total ticket (turns.Denied uid node answer) after
  denied (Granted bind) other told mid_is is = absurd (other bind refl)
  denied Told other told mid_is is = given_up Told told mid_is is refl
  denied Old other told mid_is is = given_up Old told mid_is is refl
  denied Full other told mid_is is = given_up Full told mid_is is refl
  denied Shut other told mid_is is = given_up Shut told mid_is is refl
  denied NotWaiting other told mid_is is = given_up NotWaiting told mid_is is refl
  denied (Refused why) other told mid_is is = given_up (Refused why) told mid_is is refl
  denied IsToRead other told mid_is is = given_up IsToRead told mid_is is refl

-- ---- a cycle

-- a pod was popped, or none, and this came of it
pub cycled : (rules : RuleSet) (s popped s' : State) (answer : Option Pod) (came : Cycled) → answer ≡ first_pod s.queue → popped ≡ after s 0 Pop
    → AfterPopAlone rules popped answer came s' → IsCycleAlone rules s came s'
cycled rules s popped s' answer came pops is then_is = record {
  is = subst (λ r. AfterPopAlone rules (after s 0 Pop) r came s') pops (subst (λ t. AfterPopAlone rules t answer came s') is then_is);
}

-- what the desk came to leads to this
pub turn_by : (rules : RuleSet) (s mid after : Live) (desk : State) (came : Cycled) (turn : Turn) → is_open s.ledger ≡ true → IsCycleAlone rules s.desk came desk
    → mid ≡ with_desk s desk → Leads mid came turn after → IsTurn rules s turn after
turn_by rules s mid after desk came turn may cycle mid_is leads =
    let decided : IsDecided rules s turn after = record { came = came; desk = desk; cycled = cycle; leads = subst (λ x. Leads x came turn after) mid_is leads } in
    subst (λ b. IsTurnIf b rules s turn after) (sym may) decided

-- where no place is assumed, it leads to no more
pub led_without : (s : Live) (came : Cycled) → ((uid node : Name) → (total : ℕ) → (ticket : Ticket) → came ≢ Assumed uid node total ticket) → Leads s came (turns.Without came) s
led_without s (Assumed uid node total ticket) other = absurd (other uid node total ticket refl)
led_without s _ other = (refl, refl)

-- ---- a pod that waits

module _ (s mid after : Live) (version : Version) (pod : Pod) (answer : Answer) where
  -- the desk was asked to place it
  pub was_offered : (there : Bool) → IsTold s.ledger (Waits version pod.uid pod.request) answer mid.ledger → mid ≡ with_ledger s mid.ledger
      → is_newest version pod.request (get mid.ledger.pods pod.uid) ≡ true → record { is_there = there; state = after } ≡ offer mid pod
      → IsPending s version pod (if there then Answers answer else LeftOut) after
  was_offered there told mid_is newest is = record {
    answer = answer;
    known = mid.ledger;
    tells = told;
    is = ap (taken_by answer) (is ∙ ap (λ x. offer x pod) mid_is) ∙ ap (λ b. offered_if b answer (with_ledger s mid.ledger) pod) (sym newest);
  }

  -- it wasn't
  pub was_not : IsTold s.ledger (Waits version pod.uid pod.request) answer mid.ledger → mid ≡ with_ledger s mid.ledger
      → is_newest version pod.request (get mid.ledger.pods pod.uid) ≡ false → after ≡ mid → IsPending s version pod (Answers answer) after
  was_not told mid_is older is = record {
    answer = answer;
    known = mid.ledger;
    tells = told;
    is = ap (pending (Answers answer)) (is ∙ mid_is) ∙ ap (λ b. offered_if b answer (with_ledger s mid.ledger) pod) (sym older);
  }

-- ---- an event

-- what the desk is told of it is what is changed
told_changed : (s : Live) (event : Event) (names : List Name) → told s event names ≡ changed s (change_of event) names
told_changed s (ListEnds kind) names = refl
told_changed s (Node version node) names = refl
told_changed s (NodeGone name) names = refl
told_changed s (Withheld version uid) names = refl
told_changed s (Stands version uid node request) names = refl
told_changed s (Gone uid) names = refl
told_changed s (Read uid ticket said) names = refl
told_changed s (ListBegins kind) names = refl
told_changed s (Deaf kind) names = refl
told_changed s (Hears kind) names = refl
told_changed s (Waits version uid request) names = refl
told_changed s Unread names = refl
told_changed s Rested names = refl
told_changed s (Bind uid node) names = refl
told_changed s (Answered uid ticket outcome) names = refl

module _ (s mid after : Live) (event : Event) (answer : Answer) (tells : IsTold s.ledger event answer mid.ledger) (mid_is : mid ≡ with_ledger s mid.ledger) where
  -- the ledger took it, and the desk was told
  pub taken : (change : Change) (names : List Name) → takes answer ≡ true → names ≡ names_of s.ledger event → change ≡ change_of event
      → after ≡ changed mid change names → IsTaken s event answer after
  taken change names took names_are change_is is =
      let now : after ≡ told mid event (names_of s.ledger event) =
      is ∙ ((λ i. changed mid (change_is i) (names_are i)) ∙ sym (told_changed mid event (names_of s.ledger event))) in
      let kept : after.ledger ≡ mid.ledger = ap (λ (x : Live). x.ledger) now ∙ (tell_if true mid event (names_of s.ledger event)).ledger in
      let from : mid ≡ with_ledger s after.ledger = mid_is ∙ ap (with_ledger s) (sym kept) in (
        subst (λ known. IsTold s.ledger event answer known) (sym kept) tells,
        now ∙ ((λ i. told (from i) event (names_of s.ledger event))
            ∙ ap (λ b. told_if b (with_ledger s after.ledger) event (names_of s.ledger event)) (sym took)),
      )

  -- it didn't take it
  pub not_taken : takes answer ≡ false → after ≡ mid → IsTaken s event answer after
  not_taken left same = subst (λ x. IsTaken s event answer x) (sym same)
      (tells, mid_is ∙ ap (λ b. told_if b (with_ledger s mid.ledger) event (names_of s.ledger event)) (sym left))

-- ---- a pod to place

there_by : (reply : Reply) (s : Live) (pod : Pod) → ((why : Refusal) → reply ≢ replies.Refused why)
    → record { is_there = true; state = record s { offered = insert s.offered pod.uid (record { pod = pod; ticket = None }) } } ≡ offered_by reply s pod
there_by (replies.Refused why) s pod other = absurd (other why refl)
there_by replies.Done s pod other = refl
there_by replies.Idle s pod other = refl
there_by (replies.Popped popped) s pod other = refl
there_by (replies.Ticket ticket) s pod other = refl
there_by (replies.Counts counts) s pod other = refl

module _ (s mid after : Live) (version : Version) (pod : Pod) (reply : Reply) (room : has_room s ≡ true) (mid_is : mid ≡ numbered s) (version_is : version ≡ version_of mid)
    (reply_is : reply ≡ machine.reply mid.desk 0 (TellsEvent (PodPending version pod))) (after_is : after ≡ steps mid (TellsEvent (PodPending version pod))) where
  new_by : offered_by reply after pod ≡ offer_new s pod
  new_by =
      let asked : version ≡ version_of (numbered s) = version_is ∙ ap version_of mid_is in
      let replied : reply ≡ machine.reply s.desk 0 (asks s pod) = reply_is ∙ (λ i. machine.reply (mid_is i).desk 0 (TellsEvent (PodPending (asked i) pod))) in
      let told : after ≡ tells s (λ version. PodPending version pod) = after_is ∙ (λ i. steps (mid_is i) (TellsEvent (PodPending (asked i) pod))) in
      (λ i. offered_by (replied i) (told i) pod)
      ∙ ap (λ b. if b then offered_by (machine.reply s.desk 0 (asks s pod)) (tells s (λ version. PodPending version pod)) pod else record { is_there = false; state = s }) (sym room)

  -- the desk refused it
  pub refused : (why : Refusal) → reply ≡ replies.Refused why → record { is_there = false; state = after } ≡ offer_new s pod
  refused why is = ap (λ r. offered_by r after pod) (sym is) ∙ new_by

  -- it has it to place
  pub accepted : (last : Live) → ((why : Refusal) → reply ≢ replies.Refused why) → last ≡ record after { offered = insert after.offered pod.uid (record { pod = pod; ticket = None }) }
      → record { is_there = true; state = last } ≡ offer_new s pod
  accepted last other is = ap (λ x. record { is_there = true; state = x }) is ∙ (there_by reply after pod other ∙ new_by)
