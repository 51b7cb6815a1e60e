-- What a pod asks of a node while it waits, and what it counts for once it stands on one: what it
-- asks for or holds there, whichever is more, as far as a line can say it, and the most that a line
-- can say where it can't, so that no node is ever filled over its room.
use Rattle.std.specs.Prelude.{ℕ, ◌+◌, max, Bool, true, false, ◌&&◌, not, List, [], ◌∷◌, codes, Option, Result, Ok, Err, is_ok, if◌then◌else◌}
use Rattle.serde_json.specs.Data.{Data, Items, no_items, item}
use Rattle.quant.specs.declared.amount.Request.{Request}
use Rattle.quant.specs.declared.fault.QuantFault.{QuantFault}
use Rattle.quant.specs.Request.{request_of}
use Rattle.objects.specs.declared.containers.Container.{Container}
use Rattle.objects.specs.declared.fault.Why.TheVariants.{BadField, PodResources, TooLarge}
use Rattle.objects.specs.declared.amounts.Part.TheVariants.{Asked, Overhead, Allocated, Requested}
use Rattle.objects.specs.declared.request.Reckoned.{Reckoned}
use Rattle.objects.specs.declared.request.Reckoned.TheVariants.{Waiting, Placed, Standing}
use Rattle.objects.specs.declared.resource.Resource.{Resource}
use Rattle.objects.specs.declared.resource.Resource.TheVariants.{Cpu, Memory}
use Rattle.objects.specs.LeftOut.{Fault, refused, fault_text, left_out_if}
use Rattle.objects.specs.Quantity.{◌>>=◌}
use Rattle.objects.specs.Reading.{field, items_of, absent_or, is_given}
use Rattle.objects.specs.Amounts.{at_most, amounts}
use Rattle.objects.specs.Containers.{of, larger, status_request, are_few, statuses, unread, containers, effective}

-- how a pod's request is reckoned: while it waits; once it is placed, with the faults that are told
-- of it then; and where it stands, where a fault is taken as the worst that it could mean
abbrev pub stands : Reckoned → Bool
stands Standing = true
stands how = false

-- a pod has a container at least
abbrev pub some_or_unread : (stands : Bool) → List Container → List Container
some_or_unread true [] = unread ∷ []
some_or_unread stands cs = cs

abbrev pub some_container : List Container → Result (List Container) Fault
some_container [] = Err (refused BadField (codes "containers"))
some_container (c ∷ cs) = Ok (c ∷ cs)

-- a request within the limits of one
abbrev pub within_limits : Result Request QuantFault → Result Request Fault
within_limits (Ok request) = Ok request
within_limits (Err refusal) = Err (refused TooLarge [])

-- what the pod holds as a whole
abbrev pub held_as_a_whole : Option Data → Result Request Fault
held_as_a_whole status = absent_or (Ok (at_most 0 0)) (status_request (codes "status")) status

-- what its containers come to
abbrev pub by_containers : (running init : List Container) → (overhead : Request) → Result Request Fault
by_containers running init overhead =
    within_limits (request_of (record { 0 = effective Cpu running init overhead }) (record { 0 = effective Memory running init overhead }))

-- or what it asks for as a whole (the Kubernetes page "Assign Pod-level CPU and memory resources"),
-- which stands in place of that, and which no row tells of a pod that waits
unfoldable pub as_asked : (placed : Bool) → (spec : Data) → (running init : List Container) → (overhead : Request) → Result Request Fault
as_asked placed spec running init overhead =
    if not (is_given (field (codes "resources") spec)) then by_containers running init overhead
    else if placed then amounts false Asked (codes "spec") spec
    else Err (refused PodResources [])

-- or what it asks for or holds as a whole, if that is more
abbrev pub or_more : Resource → (running init : List Container) → (overhead whole : Request) → ℕ
or_more resource running init overhead whole = max (effective resource running init overhead) (of resource whole + of resource overhead)

unfoldable pub as_held : (pod spec : Data) → (running init : List Container) → (overhead : Request) → Result Request Fault
as_held pod spec running init overhead = do
  asked ← amounts true Asked (codes "spec") spec
  holds ← held_as_a_whole (field (codes "status") pod)
  Ok (at_most (or_more Cpu running init overhead (larger asked holds)) (or_more Memory running init overhead (larger asked holds)))

abbrev pub reckoned : Reckoned → (pod spec : Data) → (running init : List Container) → (overhead : Request) → Result Request Fault
reckoned Waiting pod spec running init overhead = as_asked false spec running init overhead
reckoned Placed pod spec running init overhead = as_asked true spec running init overhead
reckoned Standing pod spec running init overhead = as_held pod spec running init overhead

abbrev pub in_all : Reckoned → (pod spec : Data) → (running init : List Container) → Result Request Fault
in_all how pod spec running init = do
  overhead ← amounts (stands how) Overhead (codes "spec") spec
  running ← some_container running
  reckoned how pod spec running init overhead

abbrev pub running : (stands : Bool) → (pod spec : Data) → Result (List Container) Fault
running stands pod spec = do
  found ← containers stands (codes "containers") (codes "containerStatuses") pod spec
  Ok (some_or_unread stands found)

unfoldable pub request_by : (stands : Bool) → Reckoned → (pod spec : Data) → Result Request Fault
request_by stands how pod spec = do
  running ← running stands pod spec
  init ← containers stands (codes "initContainers") (codes "initContainerStatuses") pod spec
  in_all how pod spec running init

abbrev pub request : Reckoned → (pod spec : Data) → Result Request Fault
request how pod spec = request_by (stands how) how pod spec

-- the first fault by which a pod that stands on a node counts for more than it asks for
abbrev pub fault_of : {A : Type 0} → Result A Fault → List ℕ
fault_of (Ok x) = []
fault_of (Err e) = fault_text e

unfoldable pub more_left_out : (pod spec : Data) → List ℕ
more_left_out pod spec = fault_of (request Placed pod spec)

-- whether all that a status says that is held can be read
unfoldable pub is_status_read : (holder : List ℕ) → Data → Bool
is_status_read holder status = is_ok (amounts false Allocated holder status) && is_ok (amounts false Requested holder status)

abbrev pub are_read : (statuses : Items) → Bool
are_read no_items = true
are_read (item status rest) = is_status_read (codes "containerStatuses") status && are_read rest

-- (containers that can't be read are told where the request is reckoned)
abbrev pub is_listed_read : (containers statuses : Result Items Fault) → Bool
is_listed_read (Err e) statuses = true
is_listed_read (Ok containers) (Err e) = false
is_listed_read (Ok containers) (Ok statuses) = are_few containers statuses && are_read statuses

unfoldable pub are_statuses_read : (key status_key : List ℕ) → (pod spec : Data) → Bool
are_statuses_read key status_key pod spec = is_listed_read (items_of key (field key spec)) (statuses status_key pod)

abbrev pub is_whole_read : Option Data → Bool
is_whole_read status = absent_or true (is_status_read (codes "status")) status

unfoldable pub is_held_read : (pod spec : Data) → Bool
is_held_read pod spec =
    are_statuses_read (codes "containers") (codes "containerStatuses") pod spec
    && are_statuses_read (codes "initContainers") (codes "initContainerStatuses") pod spec
    && is_whole_read (field (codes "status") pod)

unfoldable pub held_left_out : (pod spec : Data) → List ℕ
held_left_out pod spec = left_out_if (not (is_held_read pod spec)) (codes "what its status says that it holds")
