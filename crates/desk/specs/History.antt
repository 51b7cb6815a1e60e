-- Histories of a desk: which are legal, and what is read from them.
use Rattle.std.specs.Prelude.{◌≡◌, ℕ, ◌+◌, ◌<◌, Bool, true, false, List, [], ◌∷◌, ◌++◌, map, filter, length, Contains, Option, None, Some, Ok, if◌then◌else◌, unwrap_or, ◌==◌, ⊤}
use Rattle.std.specs.List.{filter_map, range_with_len, AllByRecursion}
use Rattle.std.specs.Option.{option_or, option_map}
use Rattle.std.specs.Str.{bytes_eq}
use Rattle.std.specs.FinMap.{FinMap, from_entries, entries}
use Rattle.quant.specs.declared.event.Event.TheVariants.{NodeSet, NodeGone, PodPending, PodBound, PodGone}
use Rattle.quant.specs.declared.amount.Moment.{Moment}
use Rattle.quant.specs.declared.amount.Request.{Request}
use Rattle.quant.specs.declared.name.Name.{Name}
use Rattle.quant.specs.declared.objects.Node.{Node}
use Rattle.quant.specs.declared.objects.Pod.{Pod}
use Rattle.quant.specs.declared.version.Ticket.{Ticket}
use Rattle.fit.specs.Fit.{fit_of}
use Rattle.book.specs.declared.limits.Limits.{Limits}
use Rattle.book.specs.declared.place.Place.{Place}
use Rattle.book.specs.declared.place.Status.TheVariants.{Assumed, Bound}
use Rattle.book.specs.Cluster.{name_cmp, Nodes, Places}
use Rattle.book.specs.Used.{used}
use Rattle.book.specs.Step.{stands}
use Rattle.book.specs.Expiry.{has_expired}
use Rattle.desk.specs.declared.step.Step.{Step}
use Rattle.desk.specs.declared.step.Step.TheVariants.{Event, Assume, BindDone, Forget, Fail, Tick}
use Rattle.desk.specs.declared.step.Reply.{Reply}
use Rattle.desk.specs.declared.step.Reply.TheVariants.{Done, Popped, Ticket as Given, Refused}
use Rattle.desk.specs.Machine.{State, opening, reply, after}
use Rattle.desk.specs.Caller.{Caller}
use Rattle.desk.specs.Shown.{Shown}

-- an answered call
pub record Call : Type 0 where
  pub pass : ℕ
  pub number : ℕ  -- which of the pass's calls it is, from 1
  pub step : Step
  pub reply : Reply

-- ---- legal histories

-- each call got the machine's answer
abbrev pub AreAnswered : State → List Call → Type 0
AreAnswered s [] = ⊤
AreAnswered s (c ∷ l) = (c.reply ≡ reply s c.pass c.step) × AreAnswered (after s c.pass c.step) l

-- the state after calls
abbrev pub state_after : State → List Call → State
state_after s [] = s
state_after s (c ∷ l) = state_after (after s c.pass c.step) l

-- the numbers of a pass's calls, in order
abbrev pub numbers_of : ℕ → List Call → List ℕ
numbers_of pass l = map (λ c. c.number) (filter (λ c. c.pass == pass) l)

-- 1, 2, 3, .. as far as n
abbrev pub one_to : ℕ → List ℕ
one_to n = range_with_len 1 n

-- how many calls a pass made
abbrev pub calls_of : ℕ → List Call → ℕ
calls_of pass l = length (filter (λ c. c.pass == pass) l)

-- each call was made by one of the passes with a number below this
abbrev pub AreHanded : ℕ → List Call → Type 0
AreHanded passes l = AllByRecursion (λ c. c.pass < passes) l

-- a history of a desk with these limits, by whatever passes
pub record IsHistory (limits : Limits) (l : List Call) : Type 0 where
  pub answered : AreAnswered (opening limits) l
  pub numbered : (pass : ℕ) → numbers_of pass l ≡ one_to (calls_of pass l)

-- a history of a desk with these limits that handed out as many passes
pub record Legal (limits : Limits) (passes : ℕ) (l : List Call) : Type 0 where
  pub history : IsHistory limits l
  pub handed : AreHanded passes l

-- a history has just the calls that a pass made
abbrev pub HasCallsOf : Caller → List Call → Type 0
HasCallsOf p l = calls_of p.number l ≡ p.calls

-- a call of a pass, with its answer
abbrev pub call : Caller → Step → Reply → Call
call p e answer = record { pass = p.number; number = p.calls + 1; step = e; reply = answer }

-- ---- how histories go on

-- calls of other passes alone
abbrev pub AreOthers : ℕ → List Call → Type 0
AreOthers pass l = AllByRecursion (λ c. (c.pass == pass) ≡ false) l

-- a history begins with another, and has no further call of the pass
abbrev pub GoesOn : ℕ → List Call → List Call → Type 0
GoesOn pass before l = (between : List Call) × (l ≡ before ++ between) × AreOthers pass between

-- ---- what is read from a history

-- whether a step was accepted
abbrev pub is_accepted : Reply → Bool
is_accepted (Refused why) = false
is_accepted _ = true

-- what the last call says that says anything
abbrev pub last_said : {X : Type 0} → (Call → Option X) → List Call → Option X
last_said says [] = None
last_said says (c ∷ l) = option_or (last_said says l) (says c)

-- what an accepted call says
abbrev pub accepted : {X : Type 0} → (Step → Option X) → Call → Option X
accepted says c = if is_accepted c.reply then says c.step else None

-- the moment to which a step takes the clock
abbrev pub clock_in : Step → Option Moment
clock_in (Tick now) = Some now
clock_in _ = None

-- the clock after a call: the moment of the last accepted tick
abbrev pub clock_after : Moment → Call → Moment
clock_after clock c = unwrap_or (accepted clock_in c) clock

-- the clock after calls: the moment of the last accepted tick, and 0 where there is none
abbrev pub clock_of : List Call → Moment
clock_of l = unwrap_or (last_said (accepted clock_in) l) (record { 0 = 0 })

-- what the last call says that says anything, each told where the clock stands before it
abbrev pub last_said_at : {X : Type 0} → (Moment → Call → Option X) → Moment → List Call → Option X
last_said_at says clock [] = None
last_said_at says clock (c ∷ l) = option_or (last_said_at says (clock_after clock c) l) (says clock c)

-- what is said, where this is the name
abbrev pub if_named : {X : Type 0} → Name → Name → X → Option X
if_named name wanted x = if bytes_eq name wanted then Some x else None

-- what a step says of a node: that it is there, with this row, or that it is gone
abbrev pub row_in : Name → Step → Option (Option Node)
row_in name (Event (NodeSet version node)) = if_named node.name name (Some node)
row_in name (Event (NodeGone version node)) = if_named node name None
row_in name _ = None

-- the row of a node, by the last accepted step that names it
abbrev pub row_of : List Call → Name → Option Node
row_of l name = unwrap_or (last_said (accepted (row_in name)) l) None

-- the pod that a step brings to wait
abbrev pub pending_in : Name → Step → Option Pod
pending_in uid (Event (PodPending version pod)) = if_named pod.uid uid pod
pending_in uid _ = None

-- the pod of this uid that last came to wait
abbrev pub pending_of : List Call → Name → Option Pod
pending_of l uid = last_said (accepted (pending_in uid)) l

-- where a call puts a pod
pub data Put : Type 0 where
  Chosen : Name → Ticket → Put  -- assumed on this node, with this ticket
  Told : Name → Request → Put  -- bound on this node, with this request
  Nowhere : Put

-- where an answered step puts a pod
abbrev pub put_in : Name → Step → Reply → Option Put
put_in uid (Assume other node) (Given ticket) = if_named other uid (Chosen node ticket)
put_in uid (Event (PodBound version other node request)) Done = if_named other uid (Told node request)
put_in uid (Event (PodGone version other)) Done = if_named other uid Nowhere
put_in uid (Forget other ticket) Done = if_named other uid Nowhere
put_in uid other answer = None

-- where a pod was last put
abbrev pub put_of : List Call → Name → Option Put
put_of l uid = last_said (λ c. put_in uid c.step c.reply) l

-- whether a step reports a pod's bind as done, and then when, or puts the pod anew
abbrev pub finish_in : Name → Moment → Step → Option (Option Moment)
finish_in uid clock (Event (PodBound version other node request)) = if_named other uid None
finish_in uid clock (Event (PodGone version other)) = if_named other uid None
finish_in uid clock (Assume other node) = if_named other uid None
finish_in uid clock (BindDone other ticket) = if_named other uid (Some clock)
finish_in uid clock (Forget other ticket) = if_named other uid None
finish_in uid clock _ = None

-- when a pod's bind was reported done, if it was since the pod was last put. The clock stands at 0
-- at first
abbrev pub finished_of : List Call → Name → Option Moment
finished_of l uid = unwrap_or (last_said_at (λ clock. accepted (finish_in uid clock)) (record { 0 = 0 }) l) None

-- the place that a pod has which was put so, last came to wait as this pod, and whose bind was
-- reported done then or not
abbrev pub place_by : Option Put → Option Pod → Option Moment → Option Place
place_by (Some (Chosen node ticket)) (Some pod) finished = Some (record { node = node; request = pod.request; status = Assumed ticket finished })
place_by (Some (Told node request)) pod finished = Some (record { node = node; request = request; status = Bound })
place_by put pod finished = None

-- a place, if it hasn't expired by this moment
abbrev pub unless_expired : Moment → Option Place → Option Place
unless_expired now o = if stands (has_expired now) o then None else o

-- the place of a pod, by the last accepted step that puts it. An assumed one has the request of the
-- pod's last accepted PodPending, and goes with the accepted tick that comes to the moment at which
-- it expires
abbrev pub place_of : List Call → Name → Option Place
place_of l uid = unless_expired (clock_of l) (place_by (put_of l uid) (pending_of l uid) (finished_of l uid))

-- the node that a step names
abbrev pub node_in : Step → Option Name
node_in (Event (NodeSet version node)) = Some node.name
node_in (Event (NodeGone version name)) = Some name
node_in _ = None

-- the pod that a step names
abbrev pub pod_in : Step → Option Name
pod_in (Event (PodPending version pod)) = Some pod.uid
pod_in (Event (PodBound version uid node request)) = Some uid
pod_in (Event (PodGone version uid)) = Some uid
pod_in (Assume uid node) = Some uid
pod_in (BindDone uid ticket) = Some uid
pod_in (Forget uid ticket) = Some uid
pod_in (Fail uid how) = Some uid
pod_in _ = None

-- the finite map that has at each of these names what is found there
abbrev pub found_at : {X : Type 0} → (Name → Option X) → List Name → FinMap name_cmp X
found_at find names = from_entries (filter_map (λ name. option_map (λ x. (name, x)) (find name)) names)

-- the rows that a history leaves, of the nodes that it names
abbrev pub rows_of : List Call → Nodes
rows_of l = found_at (row_of l) (filter_map (λ c. node_in c.step) l)

-- the places that a history leaves, of the pods that it names
abbrev pub places_of : List Call → Places
places_of l = found_at (place_of l) (filter_map (λ c. pod_in c.step) l)

-- the snapshot of a history: its nodes in the order of their names' bytes, each with the sum over
-- the pods that it places there
abbrev pub snap : List Call → List Shown
snap l = map (λ e. record { node = e.1; used = used (places_of l) e.0 }) (entries (rows_of l))

-- ---- what a ticket is given for

-- the pod that a call hands to a pass, where it is of this uid
abbrev pub popped_in : ℕ → Name → ℕ → Reply → Option Pod
popped_in pass uid caller (Popped pod) = if caller == pass then if_named pod.uid uid pod else None
popped_in pass uid caller _ = None

-- the pod that the pass's last Pop of this uid gave
abbrev pub popped_of : List Call → ℕ → Name → Option Pod
popped_of l pass uid = last_said (λ c. popped_in pass uid c.pass c.reply) l

-- the history shows the node, and the pod that the pass's last Pop of this uid gave fits there
pub record FitsThere (l : List Call) (pass : ℕ) (uid node : Name) : Type 0 where
  pub pod : Pod
  pub popped : popped_of l pass uid ≡ Some pod
  pub row : Shown
  pub shown : Contains (snap l) row
  pub named : row.node.name ≡ node
  pub fits : fit_of row.node.allocatable row.used pod.request ≡ Ok tt

-- where a step of a pass is answered by a ticket, the pod fits on the node after the calls before
-- it
abbrev pub IsFairTicket : List Call → ℕ → Step → Reply → Type 0
IsFairTicket before pass (Assume uid node) (Given ticket) = FitsThere before pass uid node
IsFairTicket before pass e answer = ⊤
