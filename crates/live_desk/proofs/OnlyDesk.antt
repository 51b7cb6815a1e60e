-- What the desk is told changes nothing that the ledger knows, and each node that the desk has keeps
-- its own name.
use Rattle.std.proofs.Common.{◌≡◌, ◌∙◌, Bool, true, false, List, Option, Some, None, if◌then◌else◌, refl}
use Rattle.std.specs.FinMap.{get}
use Rattle.quant.specs.declared.amount.Request.{Request}
use Rattle.quant.specs.declared.name.Name.{Name}
use Rattle.quant.specs.declared.event.Event.{Event as Watched}
use Rattle.quant.specs.declared.event.Event.TheVariants.{NodeSet, NodeGone as NodeIsGone, PodPending, PodBound, PodGone}
use Rattle.quant.specs.declared.objects.Node.{Node as Row}
use Rattle.quant.specs.declared.objects.Pod.{Pod}
use Rattle.quant.specs.declared.version.Ticket.{Ticket}
use Rattle.quant.specs.declared.version.Version.{Version}
use Rattle.desk.specs.declared.step.Step.{Step}
use Rattle.desk.specs.declared.step.Step.TheVariants.{Event, Forget}
use Rattle.desk.specs.declared.step.Reply.{Reply}
use Rattle.desk.specs.declared.step.Reply.TheVariants as replies
use Rattle.desk.specs.Machine as machine
use Rattle.cycle.proofs.OneCycle.{Own}
use Rattle.cycle.proofs.OwnNames.{kept}
use Rattle.ledger.specs.declared.event.Event.{Event as LedgerEvent}
use Rattle.ledger.specs.declared.event.Kind.{Kind}
use Rattle.live_desk.specs.declared.offered.Offered.{Offered}
use Rattle.live_desk.specs.SamePod.{is_same_pod}
use Rattle.live_desk.specs.State.{Live, Offer, given_back_by, has_room, node_gone, node_set, numbered, offer, offer_new, offer_of, offered_by, pending, pod_bound, pod_gone, steps, tells, ticket_of, version_of, with_ticket, with_ticket_of, without}
use Rattle.live_desk.proofs.Kept as kept
use Rattle.live_desk.proofs.Kept.{Keeps}
use Rattle.live_desk.specs.Telling.{left_out, put_aside, told_if}

-- from one state to another nothing has changed but the desk, and what it was told
pub record OnlyDesk (s s' : Live) : Type 0 where
  pub ledger : s'.ledger ≡ s.ledger
  pub own : Own s.desk → Own s'.desk

pub nothing : (s : Live) → OnlyDesk s s
nothing s = record { ledger = refl; own = λ own. own }

pub later : (a b c : Live) → OnlyDesk a b → OnlyDesk b c → OnlyDesk a c
later a b c first second = record { ledger = second.ledger ∙ first.ledger; own = λ own. second.own (first.own own) }

pub a_step : (s : Live) (e : Step) → OnlyDesk s (steps s e)
a_step s e = record { ledger = refl; own = kept s.desk 0 e }

-- ---- what the desk is told

tell_event : (s : Live) (event : Version → Watched) → OnlyDesk s (tells s event)
tell_event s event = record { ledger = refl; own = kept s.desk 0 (Event (event (version_of (numbered s)))) }

withdraw : (s : Live) (uid : Name) → OnlyDesk s (without s uid)
withdraw s uid = record { ledger = refl; own = λ own. own }

set_node : (s : Live) (node : Row) → OnlyDesk s (node_set s node)
set_node s node = tell_event s (λ version. NodeSet version node)

drop_node : (s : Live) (name : Name) → OnlyDesk s (node_gone s name)
drop_node s name = tell_event s (λ version. NodeIsGone version name)

pub drop_pod : (s : Live) (uid : Name) → OnlyDesk s (pod_gone s uid)
drop_pod s uid = later s (without s uid) _ (withdraw s uid) (tell_event (without s uid) (λ version. PodGone version uid))

bind_pod : (s : Live) (uid node : Name) (request : Request) → OnlyDesk s (pod_bound s uid node request)
bind_pod s uid node request =
    later s (without s uid) _ (withdraw s uid) (tell_event (without s uid) (λ version. PodBound version uid node request))

pub ticket_set : (s : Live) (uid : Name) (ticket : Option Ticket) (it : Option Offered) → OnlyDesk s (with_ticket_of s uid ticket it)
ticket_set s uid ticket None = nothing s
ticket_set s uid ticket (Some it) = record { ledger = refl; own = λ own. own }

give_back_by : (s : Live) (uid : Name) (ticket : Option Ticket) → OnlyDesk s (given_back_by s uid ticket)
give_back_by s uid None = drop_pod s uid
give_back_by s uid (Some ticket) =
    later s (with_ticket s uid None) _ (ticket_set s uid None (get s.offered uid)) (a_step (with_ticket s uid None) (Forget uid ticket))

-- ---- pods to place

offer_by : (reply : Reply) (s : Live) (pod : Pod) → OnlyDesk s (offered_by reply s pod).state
offer_by (replies.Refused why) s pod = nothing s
offer_by replies.Done s pod = record { ledger = refl; own = λ own. own }
offer_by replies.Idle s pod = record { ledger = refl; own = λ own. own }
offer_by (replies.Popped popped) s pod = record { ledger = refl; own = λ own. own }
offer_by (replies.Ticket ticket) s pod = record { ledger = refl; own = λ own. own }
offer_by (replies.Counts counts) s pod = record { ledger = refl; own = λ own. own }

either_offer : (s : Live) (b : Bool) (x y : Offer) → OnlyDesk s x.state → OnlyDesk s y.state → OnlyDesk s (if b then x else y).state
either_offer s true x y a b = a
either_offer s false x y a b = b

told_pending : (s : Live) (pod : Pod) → OnlyDesk s (tells s (λ version. PodPending version pod))
told_pending s pod = tell_event s (λ version. PodPending version pod)

offer_first : (s : Live) (pod : Pod) → OnlyDesk s (offer_new s pod).state
offer_first s pod =
    either_offer s (has_room s) _ _
    (later s (tells s (λ version. PodPending version pod)) _ (told_pending s pod) (offer_by (machine.reply s.desk 0 (pending s pod)) (tells s (λ version. PodPending version pod)) pod))
    (nothing s)

offer_any : (s : Live) (pod : Pod) (before : Option Offered) → OnlyDesk s (offer_of s pod before).state
offer_any s pod None = offer_first s pod
offer_any s pod (Some before) =
    either_offer s (is_same_pod before.pod pod) _ _ (nothing s)
    (later s (pod_gone s pod.uid) _ (drop_pod s pod.uid) (offer_first (pod_gone s pod.uid) pod))

pub an_offer : (s : Live) (pod : Pod) → OnlyDesk s (offer s pod).state
an_offer s pod = offer_any s pod (get s.offered pod.uid)

-- ---- all that is told

pub keeps : Keeps OnlyDesk
keeps = record {
  nothing = nothing;
  later = later;
  set_node = set_node;
  drop_node = drop_node;
  drop_pod = drop_pod;
  bind_pod = bind_pod;
  give_back = λ s uid. give_back_by s uid (ticket_of (get s.offered uid));
}

pub leave_out : (s : Live) (kind : Kind) (names : List Name) → OnlyDesk s (left_out s kind names)
leave_out = kept.leave_out OnlyDesk keeps

pub tell_if : (taken : Bool) (s : Live) (event : LedgerEvent) (names : List Name) → OnlyDesk s (told_if taken s event names)
tell_if = kept.tell_if OnlyDesk keeps

pub an_aside : (s : Live) (uid : Name) → OnlyDesk s (put_aside s uid).state
an_aside = kept.an_aside OnlyDesk keeps
