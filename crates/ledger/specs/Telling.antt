-- What each event makes of what is known, and what is answered.
use Rattle.std.specs.Prelude.{ℕ, ◌+◌, Bool, true, false, ◌||◌, ◌==◌, nat_le, Option, None, Some, is_some, if◌then◌else◌}
use Rattle.std.specs.FinMap.{get, insert, remove, contains_key}
use Rattle.quant.specs.declared.amount.Request.{Request}
use Rattle.quant.specs.declared.event.Event.{Event as Change}
use Rattle.quant.specs.declared.event.Event.TheVariants.{NodeSet, NodeGone as RowGone, PodBound, PodGone}
use Rattle.quant.specs.declared.name.Name.{Name}
use Rattle.quant.specs.declared.objects.Node.{Node}
use Rattle.quant.specs.declared.version.Ticket.{Ticket}
use Rattle.quant.specs.declared.version.Version.{Version}
use Rattle.book.specs.Cluster.{Cluster}
use Rattle.book.specs.Step.{refusal, effect, next_ticket}
use Rattle.book.specs.Tables.{is_full_for}
use Rattle.book.specs.declared.step.ClusterStep.{ClusterStep}
use Rattle.book.specs.declared.step.ClusterStep.TheVariants.{Event as Watched, Assume, Forget}
use Rattle.book.specs.declared.entry.Entry.TheVariants.{Held}
use Rattle.ledger.specs.declared.event.Answer.{Answer}
use Rattle.ledger.specs.declared.event.Answer.TheVariants.{Told, Old, Full, Granted, Shut, NotWaiting, Refused, Read as ToRead}
use Rattle.ledger.specs.declared.event.Outcome.{Outcome}
use Rattle.ledger.specs.declared.event.Outcome.TheVariants.{Created, Refused as Denied, Over}
use Rattle.ledger.specs.declared.event.Said.{Said}
use Rattle.ledger.specs.declared.event.Said.TheVariants.{Waits as SaidWaits, Stands as SaidStands, Gone as SaidGone}
use Rattle.ledger.specs.declared.known.Asking.{Asking}
use Rattle.ledger.specs.declared.known.Asking.TheVariants.{Sent, Created as IsCreated, InDoubt}
use Rattle.ledger.specs.declared.known.Known.{Known}
use Rattle.ledger.specs.declared.known.Seen.{Seen}
use Rattle.ledger.specs.declared.known.Stage.{Stage}
use Rattle.ledger.specs.declared.known.Stage.TheVariants.{Waits, Asked, Stands}
use Rattle.ledger.specs.State.{State, is_open}

-- an answer, and what is known after it
pub record Became : Type 0 where
  pub answer : Answer
  pub state : State

abbrev pub became : Answer → State → Became
became answer state = record { answer = answer; state = state }

-- ---- the book below

-- the book's next version: it has one for each change, in the order in which they are told
abbrev pub next_version : Cluster → Version
next_version c = record { 0 = if nat_le 18446744073709551615 c.version then c.version else c.version + 1 }

-- a change, as a step of the book
abbrev pub step_of : Change → ClusterStep
step_of change = Watched change false false

-- the book has no room for a change
abbrev pub is_too_much : Cluster → Change → Bool
is_too_much c change = is_some (refusal c (step_of change))

abbrev pub changed : Cluster → Change → Cluster
changed c change = effect c (step_of change)

-- ---- pods

-- a pod that is told is one that the list has, also where what is told of it is older than what is
-- known
abbrev pub named : State → Known → Known
named s known = record known { list = s.of_pods.lists }

abbrev pub with_pod : State → Name → Known → State
with_pod s uid known = record s { pods = insert s.pods uid known }

-- a pod on a node is left out
abbrev pub fallen_short : State → State
fallen_short s = record s { left_out = record { any = true; list = s.of_pods.lists } }

-- a pod at a stage
abbrev pub at_stage : ℕ → Version → Stage → Known
at_stage list version stage = record { version = version; list = list; stage = stage; withheld = false }

-- the pod has a node, as was told since so many lists of pods began
abbrev pub stands_new : State → ℕ → Version → Name → Name → Request → Became
stands_new s list version uid node request =
    let change : Change = PodBound (next_version s.cluster) uid node request in
    if is_full_for s.pods s.room uid || is_too_much s.cluster change
    then became Full (fallen_short s)
    else became Told (with_pod (record s { cluster = changed s.cluster change }) uid (at_stage list version Stands))

abbrev pub stands_of : State → Version → Name → Name → Request → Option Known → Became
stands_of s version uid node request None = stands_new s s.of_pods.lists version uid node request
stands_of s version uid node request (Some known) =
    if nat_le version.0 known.version.0
    then became Old (with_pod s uid (named s known))
    else stands_new s s.of_pods.lists version uid node request

abbrev pub stands : State → Version → Name → Name → Request → Became
stands s version uid node request = stands_of s version uid node request (get s.pods uid)

-- the pod has no node. A bind of it stays open: the server may bind it yet, or has, and nothing was
-- heard of that. And nothing takes its node from a pod but its end
abbrev pub waits_at : State → Version → Name → Request → Stage → Became
waits_at s version uid request (Waits before) = became Told (with_pod s uid (at_stage s.of_pods.lists version (Waits request)))
waits_at s version uid request (Asked before ticket asking) = became Told (with_pod s uid (at_stage s.of_pods.lists version (Asked before ticket asking)))
waits_at s version uid request Stands = became Told (with_pod s uid (at_stage s.of_pods.lists version Stands))

-- a pod that wasn't known has no node
abbrev pub waits_first : State → Version → Name → Request → Became
waits_first s version uid request =
    if is_full_for s.pods s.room uid
    then became Full s
    else became Told (with_pod s uid (at_stage s.of_pods.lists version (Waits request)))

abbrev pub waits_of : State → Version → Name → Request → Option Known → Became
waits_of s version uid request None = waits_first s version uid request
waits_of s version uid request (Some known) =
    if nat_le version.0 known.version.0
    then became Old (with_pod s uid (named s known))
    else waits_at s version uid request known.stage

abbrev pub waits : State → Version → Name → Request → Became
waits s version uid request = waits_of s version uid request (get s.pods uid)

-- without a pod that counts nowhere
abbrev pub without_pod : State → Name → State
without_pod s uid = record s { pods = remove s.pods uid }

-- without a pod, and what counts for it
abbrev pub without_place : State → Name → Became
without_place s uid =
    let change : Change = PodGone (next_version s.cluster) uid in
    if is_too_much s.cluster change
    then became Full s
    else became Told (without_pod (record s { cluster = changed s.cluster change }) uid)

abbrev pub gone_at : State → Name → Stage → Became
gone_at s uid (Waits request) = became Told (without_pod s uid)
gone_at s uid (Asked request ticket asking) = without_place s uid
gone_at s uid Stands = without_place s uid

abbrev pub gone_of : State → Name → Option Known → Became
gone_of s uid None = became Old s
gone_of s uid (Some known) = gone_at s uid known.stage

-- the pod is gone
abbrev pub gone : State → Name → Became
gone s uid = gone_of s uid (get s.pods uid)

-- the pod has no node, and isn't to be bound: where it waits it isn't known any more. A bind of it
-- stays open all the same, and where it comes to nothing the pod isn't known any more; and nothing
-- takes its node from a pod but its end
abbrev pub withheld_at : State → Version → Name → Stage → Became
withheld_at s version uid (Waits before) = became Told (without_pod s uid)
withheld_at s version uid (Asked before ticket asking) =
    became Told (with_pod s uid (record (at_stage s.of_pods.lists version (Asked before ticket asking)) { withheld = true }))
withheld_at s version uid Stands = became Told (with_pod s uid (at_stage s.of_pods.lists version Stands))

abbrev pub withheld_of : State → Version → Name → Option Known → Became
withheld_of s version uid None = became Old s
withheld_of s version uid (Some known) =
    if nat_le version.0 known.version.0
    then became Old (with_pod s uid (named s known))
    else withheld_at s version uid known.stage

abbrev pub withheld : State → Version → Name → Became
withheld s version uid = withheld_of s version uid (get s.pods uid)

-- ---- binds

-- a bind of a pod that waits: the book says whether the node is there and has room beside all that
-- counts on it
abbrev pub bind_waiting : State → Name → Name → Known → Request → Became
bind_waiting s uid node known request =
    let step : ClusterStep = Assume uid node (Held request) in
    elim (refusal s.cluster step) [
      | None ↦ became (Granted (next_ticket s.cluster)) (with_pod (record s { cluster = effect s.cluster step }) uid
          (record known { stage = Asked request (next_ticket s.cluster) Sent }))
      | Some why ↦ became (Refused why) s
    ]

abbrev pub bind_at : State → Name → Name → Known → Stage → Became
bind_at s uid node known (Waits request) = bind_waiting s uid node known request
bind_at s uid node known (Asked request ticket asking) = became NotWaiting s
bind_at s uid node known Stands = became NotWaiting s

abbrev pub bind_of : State → Name → Name → Option Known → Became
bind_of s uid node None = became NotWaiting s
bind_of s uid node (Some known) = bind_at s uid node known known.stage

-- may this pod be bound to this node?
abbrev pub bind : State → Name → Name → Became
bind s uid node = if is_open s then bind_of s uid node (get s.pods uid) else became Shut s

-- what an answer makes of a bind
abbrev pub asking_after : Asking → Outcome → Asking
asking_after asking Created = IsCreated
asking_after Sent Denied = InDoubt
asking_after Sent Over = InDoubt
asking_after IsCreated Denied = IsCreated
asking_after IsCreated Over = IsCreated
asking_after InDoubt Denied = InDoubt
asking_after InDoubt Over = InDoubt

abbrev pub answer_for : Asking → Answer
answer_for Sent = Told
answer_for IsCreated = Told
answer_for InDoubt = ToRead

abbrev pub answered_at : State → Name → Ticket → Outcome → Known → Stage → Became
answered_at s uid ticket outcome known (Waits request) = became Old s
answered_at s uid ticket outcome known (Asked request given asking) =
    if given.0 == ticket.0
    then became (answer_for (asking_after asking outcome)) (with_pod s uid (record known { stage = Asked request given (asking_after asking outcome) }))
    else became Old s
answered_at s uid ticket outcome known Stands = became Old s

abbrev pub answered_of : State → Name → Ticket → Outcome → Option Known → Became
answered_of s uid ticket outcome None = became Old s
answered_of s uid ticket outcome (Some known) = answered_at s uid ticket outcome known known.stage

-- what became of a bind
abbrev pub answered : State → Name → Ticket → Outcome → Became
answered s uid ticket outcome = answered_of s uid ticket outcome (get s.pods uid)

-- a bind is over, and its pod waits, or isn't to be bound
abbrev pub waits_again : State → Name → Known → Request → State
waits_again s uid known request =
    if known.withheld then without_pod s uid else with_pod s uid (record known { stage = Waits request })

abbrev pub given_up : State → Name → Ticket → Known → Request → Became
given_up s uid ticket known request =
    let step : ClusterStep = Forget uid ticket false in
    if is_some (refusal s.cluster step)
    then became Full s
    else became Told (waits_again (record s { cluster = effect s.cluster step }) uid known request)

abbrev pub read_in_doubt : State → Name → Ticket → Known → Request → Said → Became
read_in_doubt s uid ticket known request SaidWaits = given_up s uid ticket known request
read_in_doubt s uid ticket known request (SaidStands version node takes) =
    if nat_le version.0 known.version.0 then became Old s else stands_new s known.list version uid node takes
read_in_doubt s uid ticket known request SaidGone = gone s uid

-- a read settles a bind that is in doubt, and nothing else. What it finds is no item of a list
abbrev pub read_at : State → Name → Ticket → Said → Known → Stage → Became
read_at s uid ticket said known (Waits request) = became Old s
read_at s uid ticket said known (Asked request given Sent) = became Old s
read_at s uid ticket said known (Asked request given IsCreated) = became Old s
read_at s uid ticket said known (Asked request given InDoubt) =
    if given.0 == ticket.0 then read_in_doubt s uid ticket known request said else became Old s
read_at s uid ticket said known Stands = became Old s

abbrev pub read_of : State → Name → Ticket → Said → Option Known → Became
read_of s uid ticket said None = became Old s
read_of s uid ticket said (Some known) = read_at s uid ticket said known known.stage

abbrev pub read : State → Name → Ticket → Said → Became
read s uid ticket said = read_of s uid ticket said (get s.pods uid)

-- ---- nodes

abbrev pub with_node : State → Name → Seen → State
with_node s name seen = record s { nodes = insert s.nodes name seen }

abbrev pub node_new : State → Version → Node → Became
node_new s version node =
    let change : Change = NodeSet (next_version s.cluster) node in
    if is_full_for s.nodes s.cluster.limits.nodes node.name || is_too_much s.cluster change
    then became Full s
    else became Told (with_node (record s { cluster = changed s.cluster change }) node.name (record { version = version; list = s.of_nodes.lists }))

abbrev pub node_of : State → Version → Node → Option Seen → Became
node_of s version node None = node_new s version node
node_of s version node (Some seen) =
    if nat_le version.0 seen.version.0
    then became Old (with_node s node.name (record seen { list = s.of_nodes.lists }))
    else node_new s version node

-- a node is there, with this row
abbrev pub node_told : State → Version → Node → Became
node_told s version node = node_of s version node (get s.nodes node.name)

abbrev pub node_gone_new : State → Name → Became
node_gone_new s name =
    let change : Change = RowGone (next_version s.cluster) name in
    if is_too_much s.cluster change
    then became Full s
    else became Told (record s { cluster = changed s.cluster change; nodes = remove s.nodes name })

-- a node is gone; what counts on it stays
abbrev pub node_gone : State → Name → Became
node_gone s name = if contains_key s.nodes name then node_gone_new s name else became Old s
