-- The amounts in an object: what a pod asks for or holds of each resource, and what a node has.
use Rattle.std.specs.Prelude.{ℕ, ◌^◌, min, Bool, true, false, codes, List, is_some, Option, Some, None, Result, Ok, Err, if◌then◌else◌}
use Rattle.std.proofs.Math.Nat.{min-le_left}
use Rattle.std.specs.Option.{ok_or, option_or}
use Rattle.serde_json.specs.Data.{Data}
use Rattle.serde_json.specs.Find.{as_object, as_str}
use Rattle.quant.specs.declared.amount.Request.{Request}
use Rattle.quant.specs.declared.amount.Res.{Res}
use Rattle.objects.specs.declared.amounts.Part.{Part}
use Rattle.objects.specs.declared.amounts.Part.TheVariants.{Asked, Overhead, Allocated, Requested}
use Rattle.objects.specs.declared.fault.QuantityFault.{QuantityFault}
use Rattle.objects.specs.declared.fault.Why.TheVariants.{BadField, Quantity}
use Rattle.objects.specs.declared.quantity.Rounding.{Rounding}
use Rattle.objects.specs.declared.quantity.Rounding.TheVariants.{Up, Down}
use Rattle.objects.specs.declared.resource.Resource.{Resource}
use Rattle.objects.specs.declared.resource.Resource.TheVariants.{Cpu, Memory, Pods}
use Rattle.objects.specs.LeftOut.{Fault, refused}
use Rattle.objects.specs.Quantity.{◌>>=◌, quantity, key_of, places, most}
use Rattle.objects.specs.Reading.{field, within, part_of}

-- the amount that a value spells, and none where there is no value
abbrev pub in_field : (key : List ℕ) → Result ℕ QuantityFault → Result ℕ Fault
in_field key (Ok n) = Ok n
in_field key (Err fault) = Err (refused (Quantity fault) key)

abbrev pub amount_of : Rounding → Resource → Option Data → Result ℕ Fault
amount_of rounding resource None = Ok 0
amount_of rounding resource (Some value) = do
  text ← ok_or (as_str value) (refused BadField (key_of resource))
  in_field (key_of resource) (quantity rounding (places resource) (most resource) text)

-- what a node has for pods (the Kubernetes page "Reserve Compute Resources for System Daemons",
-- "Node Allocatable")
abbrev pub offered : Resource → (status : Data) → Result ℕ Fault
offered resource status = amount_of Down resource (within (codes "allocatable") (key_of resource) status)

unfoldable pub allocatable : Data → Result Res Fault
allocatable node = do
  status ← part_of (codes "status") node
  cpu ← offered Cpu status
  memory ← offered Memory status
  pods ← offered Pods status
  Ok (record { cpu = record { 0 = cpu }; mem = record { 0 = memory }; pods = pods })

-- a field of what stands in the field `holder`, where something does: that has to be an object
abbrev pub under : (holder key : List ℕ) → Option Data → Result (Option Data) Fault
under holder key None = Ok None
under holder key (Some json) = if is_some (as_object json) then Ok (field key json) else Err (refused BadField holder)

-- an amount in a field of amounts, and one in a part of the resources of what stands in the field
-- `holder`
abbrev pub listed_in : (holder part : List ℕ) → Resource → Data → Result (Option Data) Fault
listed_in holder part resource json = under holder part (Some json) >>= under part (key_of resource)

unfoldable pub in_resources : (holder part : List ℕ) → Resource → Data → Result (Option Data) Fault
in_resources holder part resource json = do
  resources ← under holder (codes "resources") (Some json)
  amounts ← under (codes "resources") part resources
  under part (key_of resource) amounts

-- where an object tells amounts: what it asks for, by a request, or by a limit where there is no
-- request; what running a pod costs beside its containers (the Kubernetes page "Pod Overhead"); and
-- of a status what the node has set aside, and what is in force there (the page "Resize CPU and
-- Memory Resources assigned to Containers")
unfoldable pub found_in : Part → (holder : List ℕ) → Resource → Data → Result (Option Data) Fault
found_in Asked holder resource json = do
  request ← in_resources holder (codes "requests") resource json
  limit ← in_resources holder (codes "limits") resource json
  Ok (option_or request limit)
found_in Overhead holder resource json = listed_in holder (codes "overhead") resource json
found_in Allocated holder resource json = listed_in holder (codes "allocatedResources") resource json
found_in Requested holder resource json = in_resources holder (codes "requests") resource json

unfoldable pub amount_in : Part → (holder : List ℕ) → Resource → Data → Result ℕ Fault
amount_in part holder resource json = found_in part holder resource json >>= amount_of Up resource

-- a request of so much of each resource, or of the most that a line can say of it where it is more
unfoldable pub at_most : (cpu memory : ℕ) → Request
at_most cpu memory = record {
  cpu = record { 0 = min (2 ^ 30) cpu };
  mem = record { 0 = min (2 ^ 44) memory };
  within_cpu = min-le_left (2 ^ 30) cpu;
  within_mem = min-le_left (2 ^ 44) memory;
}

-- how a fault is taken: as one, of a pod that waits; as the worst that it could mean, of a pod that
-- stands on a node
abbrev pub taken : {A : Type 0} → (stands : Bool) → (worst : A) → Result A Fault → Result A Fault
taken stands worst (Ok x) = Ok x
taken true worst (Err e) = Ok worst
taken false worst (Err e) = Err e

-- the amounts that a part of an object tells
unfoldable pub amounts : (stands : Bool) → Part → (holder : List ℕ) → Data → Result Request Fault
amounts stands part holder json = do
  cpu ← taken stands (most Cpu) (amount_in part holder Cpu json)
  memory ← taken stands (most Memory) (amount_in part holder Memory json)
  Ok (at_most cpu memory)
