-- What the desk is told of what the ledger takes.
use Rattle.std.specs.Prelude.{◌≡◌, Bool, true, false, ◌&&◌, ◌==◌, List, [], ◌∷◌, Option, None, Some, if◌then◌else◌}
use Rattle.std.specs.FinMap.{get}
use Rattle.quant.specs.declared.amount.Request.{Request}
use Rattle.quant.specs.declared.name.Name.{Name}
use Rattle.quant.specs.declared.objects.Pod.{Pod}
use Rattle.quant.specs.declared.version.Ticket.{Ticket}
use Rattle.quant.specs.declared.version.Version.{Version}
use Rattle.ledger.specs.declared.event.Answer.{Answer}
use Rattle.ledger.specs.declared.event.Answer.TheVariants.{Told, Granted}
use Rattle.ledger.specs.declared.event.Event.{Event}
use Rattle.ledger.specs.declared.event.Event.TheVariants.{ListEnds, Node, NodeGone, Waits, Withheld, Stands, Gone, Bind, Read}
use Rattle.ledger.specs.declared.event.Kind.{Kind}
use Rattle.ledger.specs.declared.event.Kind.TheVariants.{Nodes, Pods}
use Rattle.ledger.specs.declared.event.Said.{Said}
use Rattle.ledger.specs.declared.event.Said.TheVariants.{Waits as SaidWaits, Stands as SaidStands, Gone as SaidGone}
use Rattle.ledger.specs.declared.known.Known.{Known}
use Rattle.ledger.specs.declared.known.Stage.{Stage}
use Rattle.ledger.specs.declared.known.Stage.TheVariants.{Waits as IsWaiting, Asked, Stands as IsStanding}
use Rattle.ledger.specs.State as ledger
use Rattle.ledger.specs.Told.{IsTold}
use Rattle.ledger.specs.Hearing.{unnamed}
use Rattle.live_desk.specs.declared.live_desk.Taken.{Taken}
use Rattle.live_desk.specs.declared.live_desk.Taken.TheVariants.{Answers, LeftOut}
use Rattle.live_desk.specs.declared.offered.Offered.{Offered}
use Rattle.live_desk.specs.SamePod.{is_same_request}
use Rattle.live_desk.specs.State.{Live, Offer, node_set, node_gone, pod_gone, pod_bound, offer, given_back}

-- the ledger knows this behind what it was told
abbrev pub with_ledger : Live → ledger.State → Live
with_ledger s known = record s { ledger = known }

-- ---- what a list left out

abbrev pub all_gone : Live → (Live → Name → Live) → List Name → Live
all_gone s gone [] = s
all_gone s gone (name ∷ names) = all_gone (gone s name) gone names

abbrev pub left_out : Live → Kind → List Name → Live
left_out s Nodes names = all_gone s node_gone names
left_out s Pods names = all_gone s pod_gone names

-- ---- a pod whose stage may have changed

-- a pod that isn't known any more isn't to be placed
abbrev pub if_unknown : Live → Name → Option Known → Live
if_unknown s uid None = pod_gone s uid
if_unknown s uid (Some known) = s

-- where a pod was read to stand
abbrev pub place_of : Said → Option (Name × Request)
place_of SaidWaits = None
place_of (SaidStands version node request) = Some (node, request)
place_of SaidGone = None

abbrev pub stands_at : Live → Name → Option (Name × Request) → Live
stands_at s uid None = s
stands_at s uid (Some place) = pod_bound s uid place.0 place.1

-- what a read settled: the pod is gone, or not to be bound, or is tried again, or stands where it
-- was read to
abbrev pub settled_as : Live → Name → Option (Name × Request) → Stage → Live
settled_as s uid place (IsWaiting request) = given_back s uid
settled_as s uid place (Asked request ticket asking) = s
settled_as s uid place IsStanding = stands_at s uid place

abbrev pub settled : Live → Name → Option (Name × Request) → Option Known → Live
settled s uid place None = pod_gone s uid
settled s uid place (Some known) = settled_as s uid place known.stage

-- a bind that the desk didn't choose: its pod counts where it may come to stand
abbrev pub bound_as : Live → Name → Name → Stage → Live
bound_as s uid node (IsWaiting request) = s
bound_as s uid node (Asked request ticket asking) = pod_bound s uid node request
bound_as s uid node IsStanding = s

abbrev pub bound_of : Live → Name → Name → Option Known → Live
bound_of s uid node None = s
bound_of s uid node (Some known) = bound_as s uid node known.stage

-- ---- events

-- what the desk is told of an event that the ledger took, where these were the names that its list
-- left out
abbrev pub told : Live → Event → (names : List Name) → Live
told s (ListEnds kind) names = left_out s kind names
told s (Node version node) names = node_set s node
told s (NodeGone name) names = node_gone s name
told s (Withheld version uid) names = if_unknown s uid (get s.ledger.pods uid)
told s (Stands version uid node request) names = pod_bound s uid node request
told s (Gone uid) names = pod_gone s uid
told s (Read uid ticket said) names = settled s uid (place_of said) (get s.ledger.pods uid)
told s (Bind uid node) names = bound_of s uid node (get s.ledger.pods uid)
told s _ names = s

-- what is told was taken, or a bind may be asked for
abbrev pub takes : Answer → Bool
takes Told = true
takes (Granted ticket) = true
takes _ = false

abbrev pub told_if : (taken : Bool) → Live → Event → (names : List Name) → Live
told_if true s event names = told s event names
told_if false s event names = s

-- which names a list leaves out that ends now
abbrev pub names_of : ledger.State → Event → List Name
names_of known (ListEnds kind) = unnamed known kind
names_of known _ = []

-- an event was told that has no row of a pod: the ledger has answered this, and the desk was told
-- what of it the ledger took
abbrev pub IsTaken : Live → Event → Answer → Live → Type 0
IsTaken s event answer after =
    IsTold s.ledger event answer after.ledger × (after ≡ told_if (takes answer) (with_ledger s after.ledger) event (names_of s.ledger event))

-- ---- a pod that waits, with its row

-- what is answered of it, and what is known then
pub record Pending : Type 0 where
  pub taken : Taken
  pub state : Live

abbrev pub pending : Taken → Live → Pending
pending taken state = record { taken = taken; state = state }

abbrev pub taken_by : Answer → Offer → Pending
taken_by answer o = pending (if o.is_there then Answers answer else LeftOut) o.state

-- what is told, and asked for by it, is the newest that is known of a pod that waits
abbrev pub is_newest_at : (told known : Version) → (asked : Request) → Stage → Bool
is_newest_at told known asked (IsWaiting request) = (told.0 == known.0) && is_same_request request asked
is_newest_at told known asked (Asked request ticket asking) = false
is_newest_at told known asked IsStanding = false

abbrev pub is_newest : Version → (asked : Request) → Option Known → Bool
is_newest version asked None = false
is_newest version asked (Some known) = is_newest_at version known.version asked known.stage

-- it is to be placed where that is so
abbrev pub offered_if : Bool → Answer → Live → Pod → Pending
offered_if true answer s pod = taken_by answer (offer s pod)
offered_if false answer s pod = pending (Answers answer) s

-- a pod was told to wait
pub record IsPending (s : Live) (version : Version) (pod : Pod) (taken : Taken) (after : Live) : Type 0 where
  pub answer : Answer
  pub known : ledger.State
  pub tells : IsTold s.ledger (Waits version pod.uid pod.request) answer known
  pub is : pending taken after ≡ offered_if (is_newest version pod.request (get known.pods pod.uid)) answer (with_ledger s known) pod

-- ---- a pod that is put aside

-- whether it was there to place, and what is known then
pub record PutAside : Type 0 where
  pub was_there : Bool
  pub state : Live

-- a pod is put aside unless a bind of it is open
abbrev pub put_aside_by : Live → Name → Option Ticket → PutAside
put_aside_by s uid None = record { was_there = true; state = pod_gone s uid }
put_aside_by s uid (Some ticket) = record { was_there = false; state = s }

abbrev pub put_aside_of : Live → Name → Option Offered → PutAside
put_aside_of s uid None = record { was_there = false; state = s }
put_aside_of s uid (Some it) = put_aside_by s uid it.ticket

abbrev pub put_aside : Live → Name → PutAside
put_aside s uid = put_aside_of s uid (get s.offered uid)
