-- A pod that stands on a node is always counted: of no line is nothing told that may be one.
use Rattle.std.specs.Prelude.{◌≡◌, ◌≢◌, ◌⊎◌, ℕ, true, false, List, codes, Option, Some, None, Ok}
use Rattle.serde_json.specs.Data.{Data}
use Rattle.quant.specs.Name.{is_name}
use Rattle.quant.specs.declared.amount.Request.{Request}
use Rattle.quant.specs.declared.version.Version.{Version}
use Rattle.quant.specs.declared.event.Event.TheVariants.{PodBound}
use Rattle.objects.specs.declared.change.Kind.{Kind}
use Rattle.objects.specs.declared.request.Reckoned.TheVariants.{Standing}
use Rattle.objects.specs.declared.change.Kind.TheVariants.{Pod}
use Rattle.objects.specs.Reading.{field, spelled}
use Rattle.objects.specs.PodRequest.{request}
use Rattle.objects.specs.Told.{Told, has_ended, node_name, kind_of, is_blank, parsed}

-- an object that can't be a pod on a node of a script: it says that it is of another kind, that it
-- has ended, or that it stands on no node, or on one that no line of a script can name
pub record IsOfAnotherKind (json : Data) : Type 0 where
  pub kind : Option Kind
  pub said : kind_of json ≡ Ok kind
  pub other : kind ≢ Some Pod

pub record NamesNoNode (json : Data) : Type 0 where
  pub spec : Data
  pub has_spec : field (codes "spec") json ≡ Some spec
  pub name : List ℕ
  pub said : node_name spec ≡ Ok name
  pub none : is_name name ≡ false

abbrev pub CannotStand : Data → Type 0
CannotStand json = IsOfAnotherKind json ⊎ ((has_ended json ≡ true) ⊎ NamesNoNode json)

-- a pod's object that says that the pod stands on this node
pub record StandsOn (node : List ℕ) (spec pod : Data) : Type 0 where
  pub is_pod : kind_of pod ≡ Ok (Some Pod)
  pub has_spec : field (codes "spec") pod ≡ Some spec
  pub placed : node_name spec ≡ Ok node

-- it is told that it stands there, and takes what it counts for
pub record Counts (version : Version) (pod : Data) (told : Told) : Type 0 where
  pub node : List ℕ
  pub spec : Data
  pub stands : StandsOn node spec pod
  pub uid : List ℕ
  pub takes : Request
  pub counted : request Standing pod spec ≡ Ok takes
  pub event : told.event ≡ Some (PodBound version uid node takes)

-- an object, or an event of the watch, that can't be a pod on a node, or is told as one
abbrev pub IsObjectCounted : Version → Data → Told → Type 0
IsObjectCounted version json told = CannotStand json ⊎ Counts version json told

abbrev pub IsEventCounted : Version → Data → Option Data → Told → Type 0
IsEventCounted version json None told = IsObjectCounted version json told
IsEventCounted version json (Some held) told =
    (spelled (codes "type") json ≡ codes "BOOKMARK") ⊎ ((spelled (codes "type") json ≡ codes "DELETED") ⊎ IsObjectCounted version held told)

pub record IsValueCounted (version : Version) (line : List ℕ) (told : Told) : Type 0 where
  pub json : Data
  pub is : parsed line ≡ Some json
  pub counted : IsEventCounted version json (field (codes "object") json) told

-- whatever a line is: it may be a pod on a node that can't be counted, and that is told; or it has
-- nothing but spaces; or it is JSON that can't be a pod on a node, or is told as one
abbrev pub IsCounted : Version → (line : List ℕ) → Told → Type 0
IsCounted version line told = (told.uncounted ≡ true) ⊎ ((is_blank line ≡ true) ⊎ IsValueCounted version line told)
