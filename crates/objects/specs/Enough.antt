-- What a pod takes once it stands on a node is enough for what it asked for while it waited, and no
-- more than that where its status says that it holds no more.
use Rattle.std.specs.Prelude.{◌≡◌, ◌≤◌, ℕ, ◌+◌, true, false, List, codes, None, Some, Result, Ok, Err}
use Rattle.serde_json.specs.Data.{Data, Items}
use Rattle.quant.specs.declared.amount.Request.{Request}
use Rattle.objects.specs.declared.amounts.Part.TheVariants.{Asked, Overhead, Allocated, Requested}
use Rattle.objects.specs.declared.request.Reckoned.TheVariants.{Waiting, Standing}
use Rattle.objects.specs.declared.resource.Resource.{Resource}
use Rattle.objects.specs.declared.resource.Resource.TheVariants.{Cpu, Memory}
use Rattle.objects.specs.LeftOut.{Fault}
use Rattle.objects.specs.Quantity.{◌>>=◌}
use Rattle.objects.specs.Reading.{field, spelled}
use Rattle.objects.specs.Amounts.{amount_in, amounts}
use Rattle.objects.specs.Containers.{of, is_status_of, are_few, statuses}
use Rattle.objects.specs.PodRequest.{request}
use Rattle.objects.specs.Parts.{EachOf, array_of}

-- a request asks for no more than another, of each resource
abbrev pub IsNoMore : Request → Request → Type 0
IsNoMore a b = (a.cpu.0 ≤ b.cpu.0) × (a.mem.0 ≤ b.mem.0)

-- a pod that waited with this request counts for something once it has a node, and for no less,
-- whatever its status says by then
abbrev pub CountsEnough : Type 0
CountsEnough =
    (pod later spec : Data) (asked : Request) → request Waiting pod spec ≡ Ok asked
    → (counted : Request) × (request Standing later spec ≡ Ok counted) × IsNoMore asked counted

-- and for just that where its status says nothing, and the pod says nothing of its resources as a
-- whole
abbrev pub CountsTheSame : Type 0
CountsTheSame =
    (pod later spec : Data) (asked : Request) → request Waiting pod spec ≡ Ok asked
    → field (codes "status") later ≡ None → field (codes "resources") spec ≡ None → request Standing later spec ≡ Ok asked

-- an amount is no less than another, as one that can't be read is, which counts as the most; and so
-- of both resources
abbrev pub IsNoLess : (less more : Result ℕ Fault) → Type 0
IsNoLess less (Err e) = Unit {0}
IsNoLess (Ok n) (Ok m) = n ≤ m
IsNoLess (Err e) (Ok m) = ⊥

abbrev pub AreNoLess : (less more : Resource → Result ℕ Fault) → Type 0
AreNoLess less more = IsNoLess (less Cpu) (more Cpu) × IsNoLess (less Memory) (more Memory)

-- statuses that are of a container, or could be, say that it holds no more than it asks for
abbrev pub IsHeldWithin : (key : List ℕ) → (status container : Data) → Type 0
IsHeldWithin key status container =
    AreNoLess (λ r. amount_in Allocated (codes "containerStatuses") r status) (λ r. amount_in Asked key r container)
    × AreNoLess (λ r. amount_in Requested (codes "containerStatuses") r status) (λ r. amount_in Asked key r container)

abbrev pub HoldsNoMore : (key : List ℕ) → (statuses : Items) → (container : Data) → Type 0
HoldsNoMore key said container = EachOf (λ status. is_status_of (spelled (codes "name") container) status ≡ true → IsHeldWithin key status container) said

-- so does the status of a pod of the containers of a field
pub record HoldNoMore (key status_key : List ℕ) (pod spec : Data) : Type 0 where
  pub said : Items
  pub is : statuses status_key pod ≡ Ok said
  pub few : are_few (array_of (field key spec)) said ≡ true
  pub each : EachOf (HoldsNoMore key said) (array_of (field key spec))

-- an amount that a pod asks for or holds as a whole is no more than it asked for, beside its
-- overhead
abbrev pub IsWithin : (asked overhead : Request) → (whole : Resource → Result ℕ Fault) → Type 0
IsWithin asked overhead whole = AreNoLess (λ r. whole r >>= λ n. Ok (n + of r overhead)) (λ r. Ok (of r asked))

pub record PodHoldsNoMore (pod spec : Data) (asked overhead : Request) : Type 0 where
  pub running : HoldNoMore (codes "containers") (codes "containerStatuses") pod spec
  pub init : HoldNoMore (codes "initContainers") (codes "initContainerStatuses") pod spec
  pub whole : IsWithin asked overhead (λ r. amount_in Asked (codes "spec") r spec)
  pub set_aside : (status : Data) → field (codes "status") pod ≡ Some status → IsWithin asked overhead (λ r. amount_in Allocated (codes "status") r status)
  pub in_force : (status : Data) → field (codes "status") pod ≡ Some status → IsWithin asked overhead (λ r. amount_in Requested (codes "status") r status)

-- and for just that wherever its status says that it holds no more
abbrev pub CountsWhatIsAsked : Type 0
CountsWhatIsAsked =
    (pod later spec : Data) (asked overhead : Request) → request Waiting pod spec ≡ Ok asked
    → amounts false Overhead (codes "spec") spec ≡ Ok overhead → PodHoldsNoMore later spec asked overhead → request Standing later spec ≡ Ok asked
