-- The containers of a pod: what each asks for or holds, and what they need together at the moment
-- when they need most.
use Rattle.std.specs.Prelude.{ℕ, suc, ◌+◌, ◌*◌, max, Bool, true, false, ◌&&◌, ◌||◌, nat_le, List, [], ◌∷◌, codes, bytes_eq, sum_by, Option, Some, None, Result, Ok, Err, if◌then◌else◌}
use Rattle.std.specs.Option.{ok_or}
use Rattle.serde_json.specs.Data.{Data, Items, no_items, item}
use Rattle.serde_json.specs.Find.{as_str}
use Rattle.quant.specs.declared.amount.Request.{Request}
use Rattle.objects.specs.declared.containers.Container.{Container}
use Rattle.objects.specs.declared.fault.Why.TheVariants.{BadField, TooMany}
use Rattle.objects.specs.declared.amounts.Part.TheVariants.{Asked, Allocated, Requested}
use Rattle.objects.specs.declared.resource.Resource.{Resource}
use Rattle.objects.specs.declared.resource.Resource.TheVariants.{Cpu, Memory, Pods}
use Rattle.objects.specs.LeftOut.{Fault, refused}
use Rattle.objects.specs.Quantity.{◌>>=◌, most}
use Rattle.objects.specs.Reading.{field, items_of, each, spelled}
use Rattle.objects.specs.Amounts.{under, at_most, taken, amounts}

-- how much a request asks for of a resource: of pods one place
abbrev pub of : Resource → Request → ℕ
of Cpu request = request.cpu.0
of Memory request = request.mem.0
of Pods request = 1

-- the more of two, of each resource
unfoldable pub larger : (a b : Request) → Request
larger a b = at_most (max a.cpu.0 b.cpu.0) (max a.mem.0 b.mem.0)

-- what the status of a container or a pod says that it holds: what the node has set aside, or what
-- is in force, whichever is more (the Kubernetes page "Resize CPU and Memory Resources assigned to
-- Containers"; a pod that was shrunk holds it until that is done). What can't be read is the most,
-- since only pods that stand on a node hold anything
unfoldable pub status_request : (holder : List ℕ) → Data → Result Request Fault
status_request holder status = do
  set_aside ← amounts true Allocated holder status
  in_force ← amounts true Requested holder status
  Ok (larger set_aside in_force)

-- the most of this and of what those statuses say that are of the container of this name, or could
-- be
unfoldable pub is_status_of : (name : List ℕ) → Data → Bool
is_status_of name status = bytes_eq (spelled (codes "name") status) name || bytes_eq (spelled (codes "name") status) []

unfoldable pub or_held : (name : List ℕ) → Request → (status : Data) → Result Request Fault
or_held name most status =
    if is_status_of name status then (status_request (codes "containerStatuses") status >>= λ more. Ok (larger most more)) else Ok most

abbrev pub held : (name : List ℕ) → Request → (statuses : Items) → Result Request Fault
held name most no_items = Ok most
held name most (item status rest) = or_held name most status >>= λ more. held name more rest

-- whether a container says that it goes on running (the Kubernetes page "Sidecar Containers")
abbrev pub is_always : Option Data → Result Bool Fault
is_always None = Ok false
is_always (Some value) = ok_or (as_str value) (refused BadField (codes "restartPolicy")) >>= λ policy. Ok (bytes_eq policy (codes "Always"))

-- what a container of the field `key` asks for or holds, and whether it goes on running: one of
-- which that can't be said does, where the pod stands on a node
unfoldable pub container : (stands : Bool) → (key : List ℕ) → (statuses : Items) → Data → Result Container Fault
container stands key statuses json = do
  asked ← amounts stands Asked key json
  request ← held (spelled (codes "name") json) asked statuses
  goes_on ← taken stands true (is_always (field (codes "restartPolicy") json))
  Ok (record { request = request; goes_on = goes_on })

-- how many items there are
abbrev pub count : Items → ℕ
count no_items = 0
count (item d ds) = suc (count ds)

-- few enough to be looked at, one beside the other
abbrev pub are_few : (containers statuses : Items) → Bool
are_few containers statuses =
    nat_le (count containers) 65536 && nat_le (count statuses) 65536 && nat_le (count containers * count statuses) 1048576

-- what the status of a pod lists, which is looked at where the pod stands on a node
abbrev pub statuses : (key : List ℕ) → (pod : Data) → Result Items Fault
statuses key pod = under (codes "status") key (field (codes "status") pod) >>= items_of key

abbrev pub looked_at : (stands : Bool) → (key : List ℕ) → (pod : Data) → Result Items Fault
looked_at true key pod = statuses key pod
looked_at false key pod = Ok no_items

-- a container that asks for the most
abbrev pub unread : Container
unread = record { request = at_most (most Cpu) (most Memory); goes_on = true }

-- the containers in a field, which is empty where it is absent. Those that can't be read, by
-- themselves or by their statuses, count as one that asks for the most
abbrev pub listed : (stands : Bool) → (key : List ℕ) → (found statuses : Items) → Result (List Container) Fault
listed stands key found statuses =
    if are_few found statuses then each (λ before. container stands key statuses) [] found else Err (refused TooMany key)

abbrev pub read_containers : (stands : Bool) → (key status_key : List ℕ) → (pod spec : Data) → Result (List Container) Fault
read_containers stands key status_key pod spec = do
  found ← items_of key (field key spec)
  statuses ← looked_at stands status_key pod
  listed stands key found statuses

abbrev pub containers : (stands : Bool) → (key status_key : List ℕ) → (pod spec : Data) → Result (List Container) Fault
containers stands key status_key pod spec = taken stands (unread ∷ []) (read_containers stands key status_key pod spec)

-- how much of a resource containers ask together
abbrev pub together : Resource → List Container → ℕ
together resource cs = sum_by (λ c. of resource c.request) cs

-- how much of it those ask together that go on running
abbrev pub beside_others : Resource → Container → ℕ
beside_others resource c = if c.goes_on then of resource c.request else 0

abbrev pub going_on : Resource → List Container → ℕ
going_on resource cs = sum_by (beside_others resource) cs

-- init containers start in their order, each once the one before has ended, or runs, if it goes on
-- running; the most that one that ends needs, together with those before it that go on running
abbrev pub peak : Resource → (beside : ℕ) → List Container → ℕ
peak resource beside [] = 0
peak resource beside (c ∷ cs) =
    if c.goes_on then peak resource (beside + of resource c.request) cs
    else max (beside + of resource c.request) (peak resource beside cs)

-- how much of a resource a pod needs at the moment when it needs most (the Kubernetes pages "Init
-- Containers" and "Sidecar Containers", "Resource sharing within containers", and "Pod Overhead"):
-- while its containers run, beside the init containers that go on running, or while one of the init
-- containers runs; its overhead is needed at all times
unfoldable pub effective : Resource → (containers init : List Container) → (overhead : Request) → ℕ
effective resource containers init overhead =
    max (together resource containers + going_on resource init) (peak resource 0 init) + of resource overhead
