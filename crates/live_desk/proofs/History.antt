-- Whatever is told or decided, the ledger was told one history, and each node that the desk has keeps
-- its own name.
use Rattle.std.proofs.Common.{◌≡◌, ℕ, Bool, true, false, List, [], ◌∷◌, sym, subst, ap}
use Rattle.std.specs.FinMap.{get}
use Rattle.quant.specs.declared.name.Name.{Name}
use Rattle.quant.specs.declared.objects.Pod.{Pod}
use Rattle.quant.specs.declared.version.Ticket.{Ticket}
use Rattle.quant.specs.declared.version.Version.{Version}
use Rattle.rules.specs.RuleSet.{RuleSet}
use Rattle.desk.specs.declared.step.Step.TheVariants.{Forget}
use Rattle.cycle.specs.declared.one_cycle.Cycled.{Cycled}
use Rattle.cycle.specs.declared.one_cycle.Cycled.TheVariants.{Idle, Assumed, Unschedulable, Errs, Lost}
use Rattle.cycle.proofs.OneCycle.{Own, cycle_own}
use Rattle.ledger.specs.declared.event.Answer.{Answer}
use Rattle.ledger.specs.declared.event.Answer.TheVariants.{Told, Old, Full, Granted, Shut, NotWaiting, Refused, Read}
use Rattle.ledger.specs.declared.event.Event.{Event}
use Rattle.ledger.specs.declared.event.Event.TheVariants.{Bind, Waits}
use Rattle.ledger.specs.Laws.{Follows, Line}
use Rattle.ledger.specs.State as ledger
use Rattle.ledger.specs.State.{is_open}
use Rattle.ledger.specs.Told.{IsTold}
use Rattle.live_desk.specs.declared.live_desk.Taken.{Taken}
use Rattle.live_desk.specs.declared.turn.Turn.{Turn}
use Rattle.live_desk.specs.State.{Live}
use Rattle.live_desk.specs.Telling.{IsPending, IsTaken, is_newest, names_of, offered_if, takes, with_ledger}
use Rattle.live_desk.specs.Turns.{IsAsked, IsDecided, IsTurn, IsTurnIf, Leads, asked_by, with_desk}
use Rattle.live_desk.proofs.OnlyDesk.{OnlyDesk, a_step, an_offer, nothing, tell_if, ticket_set}

-- the ledger was told some lines from one state to another, and each node keeps its name
pub record Goes (s s' : Live) : Type 0 where
  pub lines : List Line
  pub follows : Follows s.ledger lines s'.ledger
  pub own : Own s.desk → Own s'.desk

-- none
pub only_desk : (s s' : Live) → OnlyDesk s s' → Goes s s'
only_desk s s' only = record { lines = []; follows = sym only.ledger; own = only.own }

pub the_same : (s s' : Live) → s' ≡ s → Goes s s'
the_same s s' is = subst (λ x. Goes s x) (sym is) (only_desk s s (nothing s))

-- one, and then the desk
one_line : (s s' : Live) (event : Event) (answer : Answer) (known : ledger.State) → IsTold s.ledger event answer known → OnlyDesk (with_ledger s known) s' → Goes s s'
one_line s s' event answer known tells only = record {
  lines = record { event = event; answer = answer } ∷ [];
  follows = (known, tells, sym only.ledger);
  own = only.own;
}

-- ---- events, and pods that wait

pub taken_goes : (s s' : Live) (event : Event) (answer : Answer) → IsTaken s event answer s' → Goes s s'
taken_goes s s' event answer taken =
    one_line s s' event answer s'.ledger taken.0
    (subst (λ x. OnlyDesk (with_ledger s s'.ledger) x) (sym taken.1) (tell_if (takes answer) (with_ledger s s'.ledger) event (names_of s.ledger event)))

offered_only : (newest : Bool) (answer : Answer) (s : Live) (pod : Pod) → OnlyDesk s (offered_if newest answer s pod).state
offered_only true answer s pod = an_offer s pod
offered_only false answer s pod = nothing s

pub pending_goes : (s s' : Live) (version : Version) (pod : Pod) (taken : Taken) → IsPending s version pod taken s' → Goes s s'
pending_goes s s' version pod taken is =
    one_line s s' (Waits version pod.uid pod.request) is.answer is.known is.tells
    (subst (λ x. OnlyDesk (with_ledger s is.known) x) (sym (ap (λ p. p.state) is.is))
    (offered_only (is_newest version pod.request (get is.known.pods pod.uid)) is.answer (with_ledger s is.known) pod))

-- ---- a cycle

asked_only : (answer : Answer) (s : Live) (uid node : Name) (total : ℕ) (ticket : Ticket) → OnlyDesk s (asked_by answer s uid node total ticket).state
asked_only (Granted bind) s uid node total ticket = ticket_set s uid _ (get s.offered uid)
asked_only Told s uid node total ticket = a_step s (Forget uid ticket)
asked_only Old s uid node total ticket = a_step s (Forget uid ticket)
asked_only Full s uid node total ticket = a_step s (Forget uid ticket)
asked_only Shut s uid node total ticket = a_step s (Forget uid ticket)
asked_only NotWaiting s uid node total ticket = a_step s (Forget uid ticket)
asked_only (Refused why) s uid node total ticket = a_step s (Forget uid ticket)
asked_only Read s uid node total ticket = a_step s (Forget uid ticket)

asked_goes : (s s' : Live) (uid node : Name) (total : ℕ) (ticket : Ticket) (turn : Turn) → IsAsked s uid node total ticket turn s' → Goes s s'
asked_goes s s' uid node total ticket turn asked =
    one_line s s' (Bind uid node) asked.answer asked.known asked.tells
    (subst (λ x. OnlyDesk (with_ledger s asked.known) x) (sym (ap (λ p. p.state) asked.is)) (asked_only asked.answer (with_ledger s asked.known) uid node total ticket))

leads_goes : (s s' : Live) (came : Cycled) (turn : Turn) → Leads s came turn s' → Goes s s'
leads_goes s s' (Assumed uid node total ticket) turn leads = asked_goes s s' uid node total ticket turn leads
leads_goes s s' Idle turn leads = the_same s s' leads.1
leads_goes s s' (Unschedulable uid counts) turn leads = the_same s s' leads.1
leads_goes s s' (Errs uid place node cause) turn leads = the_same s s' leads.1
leads_goes s s' (Lost uid why) turn leads = the_same s s' leads.1

decided_goes : (rules : RuleSet) (s s' : Live) (turn : Turn) → IsDecided rules s turn s' → Goes s s'
decided_goes rules s s' turn decided =
    let behind = leads_goes (with_desk s decided.desk) s' decided.came turn decided.leads in
    record { lines = behind.lines; follows = behind.follows; own = λ own. behind.own (cycle_own rules s.desk decided.desk decided.came own decided.cycled) }

turn_goes_if : (may : Bool) (rules : RuleSet) (s s' : Live) (turn : Turn) → IsTurnIf may rules s turn s' → Goes s s'
turn_goes_if true rules s s' turn decided = decided_goes rules s s' turn decided
turn_goes_if false rules s s' turn same = the_same s s' same.1

pub turn_goes : (rules : RuleSet) (s s' : Live) (turn : Turn) → IsTurn rules s turn s' → Goes s s'
turn_goes rules s s' turn is = turn_goes_if (is_open s.ledger) rules s s' turn is
