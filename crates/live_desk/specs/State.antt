-- What a desk and the ledger beside it know.
use Rattle.std.specs.Prelude.{ℕ, ◌+◌, Bool, true, false, not, nat_le, Option, None, Some, if◌then◌else◌}
use Rattle.std.specs.FinMap.{FinMap, empty, get, insert, remove, len}
use Rattle.quant.specs.declared.event.Event.{Event as Watched}
use Rattle.quant.specs.declared.event.Event.TheVariants.{NodeSet, NodeGone, PodPending, PodBound, PodGone}
use Rattle.quant.specs.declared.amount.Request.{Request}
use Rattle.quant.specs.declared.name.Name.{Name}
use Rattle.quant.specs.declared.objects.Node.{Node}
use Rattle.quant.specs.declared.objects.Pod.{Pod}
use Rattle.quant.specs.declared.version.Ticket.{Ticket}
use Rattle.quant.specs.declared.version.Version.{Version}
use Rattle.book.specs.Cluster.{name_cmp}
use Rattle.book.specs.declared.limits.Limits.{Limits}
use Rattle.desk.specs.declared.step.Step.{Step}
use Rattle.desk.specs.declared.step.Step.TheVariants.{Event, Forget}
use Rattle.desk.specs.declared.step.Reply.{Reply}
use Rattle.desk.specs.declared.step.Reply.TheVariants.{Refused}
use Rattle.desk.specs.Machine as machine
use Rattle.ledger.specs.State as ledger
use Rattle.live_desk.specs.declared.offered.Offered.{Offered}
use Rattle.live_desk.specs.SamePod.{is_same_pod}

-- what is known
pub record Live : Type 0 where
  pub ledger : ledger.State  -- what was told, and the binds whose end isn't known
  pub desk : machine.State  -- the desk that decides
  pub offered : FinMap name_cmp Offered  -- the pods that the desk has to place, or has placed, by uid
  pub room : ℕ  -- how many these may be
  pub told : ℕ  -- how many events the desk was told

-- the state before anything is told
abbrev pub opening : Limits → (known : ℕ) → Live
opening limits known =
    record {
      ledger = ledger.opening limits known;
      desk = machine.opening limits;
      offered = empty;
      room = limits.queued;
      told = 0;
    }

-- ---- the desk

-- the desk takes a step
abbrev pub steps : Live → Step → Live
steps s step = record s { desk = machine.after s.desk 0 step }

-- the number of the next event that the desk is told
abbrev pub next : ℕ → ℕ
next told = if nat_le 18446744073709551615 told then told else told + 1

abbrev pub numbered : Live → Live
numbered s = record s { told = next s.told }

abbrev pub version_of : Live → Version
version_of s = record { 0 = s.told }

-- the desk is told an event, by the number of it
abbrev pub tells : Live → (Version → Watched) → Live
tells s event = steps (numbered s) (Event (event (version_of (numbered s))))

-- a node is there, with this row
abbrev pub node_set : Live → Node → Live
node_set s node = tells s (λ version. NodeSet version node)

-- a node is gone
abbrev pub node_gone : Live → Name → Live
node_gone s name = tells s (λ version. NodeGone version name)

abbrev pub without : Live → Name → Live
without s uid = record s { offered = remove s.offered uid }

-- a pod isn't to be placed, and takes nothing
abbrev pub pod_gone : Live → Name → Live
pod_gone s uid = tells (without s uid) (λ version. PodGone version uid)

-- a pod stands on a node, and takes so much there
abbrev pub pod_bound : Live → Name → Name → Request → Live
pod_bound s uid node request = tells (without s uid) (λ version. PodBound version uid node request)

-- ---- pods to place

-- whether the desk has a pod to place, and what is known then
pub record Offer : Type 0 where
  pub is_there : Bool
  pub state : Live

abbrev pub has_room : Live → Bool
has_room s = not (nat_le s.room (len s.offered))

-- the desk has a pod to place, unless it refuses it
abbrev pub offered_by : Reply → Live → Pod → Offer
offered_by (Refused why) s pod = record { is_there = false; state = s }
offered_by _ s pod = record { is_there = true; state = record s { offered = insert s.offered pod.uid (record { pod = pod; ticket = None }) } }

abbrev pub pending : Live → Pod → Step
pending s pod = Event (PodPending (version_of (numbered s)) pod)

abbrev pub offer_new : Live → Pod → Offer
offer_new s pod =
    if has_room s
    then offered_by (machine.reply s.desk 0 (pending s pod)) (tells s (λ version. PodPending version pod)) pod
    else record { is_there = false; state = s }

-- one that the desk has by the same row stays as it is, and one by another row comes anew
abbrev pub offer_of : Live → Pod → Option Offered → Offer
offer_of s pod None = offer_new s pod
offer_of s pod (Some before) = if is_same_pod before.pod pod then record { is_there = true; state = s } else offer_new (pod_gone s pod.uid) pod

-- a pod is to be placed
abbrev pub offer : Live → Pod → Offer
offer s pod = offer_of s pod (get s.offered pod.uid)

-- ---- binds

-- what names the desk's choice of a pod's place, where a bind of it was asked for
abbrev pub ticket_of : Option Offered → Option Ticket
ticket_of None = None
ticket_of (Some it) = it.ticket

abbrev pub with_ticket_of : Live → Name → Option Ticket → Option Offered → Live
with_ticket_of s uid ticket None = s
with_ticket_of s uid ticket (Some it) = record s { offered = insert s.offered uid (record it { ticket = ticket }) }

-- and is this now
abbrev pub with_ticket : Live → Name → Option Ticket → Live
with_ticket s uid ticket = with_ticket_of s uid ticket (get s.offered uid)

-- a bind comes to nothing: its pod is tried again, where the desk chose its place, and is else none
-- that the desk has
abbrev pub given_back_by : Live → Name → Option Ticket → Live
given_back_by s uid None = pod_gone s uid
given_back_by s uid (Some ticket) = steps (with_ticket s uid None) (Forget uid ticket)

abbrev pub given_back : Live → Name → Live
given_back s uid = given_back_by s uid (ticket_of (get s.offered uid))

-- ---- a pod to place

-- its row, where no bind of it is open
abbrev pub row_by : Pod → Option Ticket → Option Pod
row_by pod None = Some pod
row_by pod (Some ticket) = None

abbrev pub row_of : Option Offered → Option Pod
row_of None = None
row_of (Some it) = row_by it.pod it.ticket

abbrev pub to_place : Live → Name → Option Pod
to_place s uid = row_of (get s.offered uid)
