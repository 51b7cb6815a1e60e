-- What a pod takes of its node is never less than any part of it that can be read, nor than those
-- parts together that it needs together.
use Rattle.std.specs.Prelude.{◌≡◌, ◌≤◌, ℕ, ◌+◌, max, min, Bool, true, List, codes, Option, Result, Ok, Err, unwrap_or, option_and_then, if◌then◌else◌}
use Rattle.serde_json.specs.Data.{Data, Items, no_items, item}
use Rattle.serde_json.specs.Find.{as_array}
use Rattle.quant.specs.declared.amount.Request.{Request}
use Rattle.objects.specs.declared.amounts.Part.{Part}
use Rattle.objects.specs.declared.amounts.Part.TheVariants.{Asked, Overhead, Allocated, Requested}
use Rattle.objects.specs.declared.request.Reckoned.TheVariants.{Standing}
use Rattle.objects.specs.declared.resource.Resource.{Resource}
use Rattle.objects.specs.declared.resource.Resource.TheVariants.{Cpu, Memory}
use Rattle.objects.specs.LeftOut.{Fault}
use Rattle.objects.specs.Quantity.{most}
use Rattle.objects.specs.Reading.{field, within, spelled, absent_or}
use Rattle.objects.specs.Amounts.{amount_in}
use Rattle.objects.specs.Containers.{is_status_of, is_always}
use Rattle.objects.specs.PodRequest.{request}

-- how much of a resource a part of an object tells, and 0 where that can't be read
abbrev pub or_none : Result ℕ Fault → ℕ
or_none (Ok n) = n
or_none (Err e) = 0

abbrev pub read : Part → (holder : List ℕ) → Resource → Data → ℕ
read part holder r json = or_none (amount_in part holder r json)

-- how much of it a status says that is held
abbrev pub held_by : (holder : List ℕ) → Resource → Data → ℕ
held_by holder r status = max (read Allocated holder r status) (read Requested holder r status)

-- the items of an array, and none where there is no array
abbrev pub array_of : Option Data → Items
array_of value = unwrap_or (option_and_then as_array value) no_items

-- what all of these come to, and what each of them is
abbrev pub sum_of : (Data → ℕ) → Items → ℕ
sum_of f no_items = 0
sum_of f (item d rest) = f d + sum_of f rest

abbrev pub EachOf : (Data → Type 0) → Items → Type 0
EachOf P no_items = Unit {0}
EachOf P (item d rest) = P d × EachOf P rest

-- a container: what it asks for, or what a status says that it holds that is of its name, or could
-- be, whichever is most
abbrev pub or_held_by : Resource → (name : List ℕ) → (statuses : Items) → ℕ → ℕ
or_held_by r name no_items n = n
or_held_by r name (item status rest) n =
    max (if is_status_of name status then held_by (codes "containerStatuses") r status else 0) (or_held_by r name rest n)

abbrev pub container_part : (key : List ℕ) → Resource → (statuses : Items) → Data → ℕ
container_part key r statuses json = or_held_by r (spelled (codes "name") json) statuses (read Asked key r json)

-- whether it goes on running: it says so, or what it says can't be read
abbrev pub or_true : Result Bool Fault → Bool
or_true (Ok b) = b
or_true (Err e) = true

abbrev pub goes_on : Data → Bool
goes_on json = or_true (is_always (field (codes "restartPolicy") json))

-- the containers, and the init containers, by the pod's status
abbrev pub running_part : Resource → (pod : Data) → Data → ℕ
running_part r pod json = container_part (codes "containers") r (array_of (within (codes "status") (codes "containerStatuses") pod)) json

abbrev pub init_part : Resource → (pod : Data) → Data → ℕ
init_part r pod json = container_part (codes "initContainers") r (array_of (within (codes "status") (codes "initContainerStatuses") pod)) json

-- what runs side by side: the containers, and the init containers that go on running
abbrev pub side_by_side : Resource → (pod spec : Data) → ℕ
side_by_side r pod spec =
    sum_of (running_part r pod) (array_of (field (codes "containers") spec))
    + sum_of (λ json. if goes_on json then init_part r pod json else 0) (array_of (field (codes "initContainers") spec))

-- a request has so much of each resource, beside the pod's overhead, or the most that a line can
-- say of it
abbrev pub overhead_part : Resource → (spec : Data) → ℕ
overhead_part r spec = read Overhead (codes "spec") r spec

abbrev pub Has : Request → (spec : Data) → (Resource → ℕ) → Type 0
Has counted spec amount =
    (min (most Cpu) (amount Cpu + overhead_part Cpu spec) ≤ counted.cpu.0) × (min (most Memory) (amount Memory + overhead_part Memory spec) ≤ counted.mem.0)

-- it has what runs side by side; each init container; what the pod asks for as a whole; and what
-- its status says that it holds as a whole
pub record HasParts (pod spec : Data) (counted : Request) : Type 0 where
  pub running : Has counted spec (λ r. side_by_side r pod spec)
  pub starting : EachOf (λ json. Has counted spec (λ r. init_part r pod json)) (array_of (field (codes "initContainers") spec))
  pub whole : Has counted spec (λ r. read Asked (codes "spec") r spec)
  pub held : Has counted spec (λ r. absent_or 0 (held_by (codes "status") r) (field (codes "status") pod))

-- whatever a pod and its status say, it counts for something, and for no less than its parts
abbrev pub CountsParts : Type 0
CountsParts = (pod spec : Data) → (counted : Request) × (request Standing pod spec ≡ Ok counted) × HasParts pod spec counted
