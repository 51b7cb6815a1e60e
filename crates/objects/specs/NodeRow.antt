-- The row that a node's object gives.
use Rattle.std.specs.Prelude.{ℕ, Bool, List, [], nat_le, codes, Option, Result, Ok, Err, if◌then◌else◌}
use Rattle.std.specs.Option.{ok_or}
use Rattle.serde_json.specs.Data.{Data}
use Rattle.quant.specs.declared.amount.Res.{Res}
use Rattle.quant.specs.declared.limits.TheConstants.{MAX_TAINTS}
use Rattle.quant.specs.declared.objects.Label.{Label}
use Rattle.quant.specs.declared.objects.Node.{Node}
use Rattle.quant.specs.declared.taint.Taint.{Taint}
use Rattle.manifest.specs.Rows.{effect_named}
use Rattle.objects.specs.declared.fault.Why.TheVariants.{BadField, BadName, TooMany}
use Rattle.objects.specs.LeftOut.{Fault, refused}
use Rattle.objects.specs.Quantity.{◌>>=◌}
use Rattle.objects.specs.Reading.{field, within, part_of, text_at, text_or, name_at, flag_of, members_of, items_of, each}
use Rattle.objects.specs.Amounts.{allocatable}
use Rattle.objects.specs.Containers.{count}
use Rattle.objects.specs.Sayable.{says_taint}
use Rattle.objects.specs.Labels.{Kept, row_labels}
use Rattle.objects.specs.Site.{Site}

-- a taint beside those before it
abbrev pub a_taint : List Taint → Taint → Result Taint Fault
a_taint before taint = if says_taint before taint then Ok taint else Err (refused BadName (codes "taints"))

unfoldable pub taint_of : List Taint → Data → Result Taint Fault
taint_of before json = do
  key ← text_at (codes "key") json
  value ← text_or (codes "value") [] json
  named ← text_at (codes "effect") json
  effect ← ok_or (effect_named named) (refused BadField (codes "effect"))
  a_taint before (record { key = key; value = value; effect = effect })

-- a node that has more taints than a row has room for isn't told, since a pod could be put there
-- that mustn't be
unfoldable pub taints : Option Data → Result (List Taint) Fault
taints value = do
  found ← items_of (codes "taints") value
  if nat_le (count found) MAX_TAINTS then each taint_of [] found else Err (refused TooMany (codes "taints"))

-- a node's name, what it has, its taints, and whether it takes no new pods
unfoldable pub node_parts : (meta json : Data) → Result (List ℕ × Res × List Taint × Bool) Fault
node_parts meta json = do
  name ← name_at (codes "name") meta
  room ← allocatable json
  taints ← taints (within (codes "spec") (codes "taints") json)
  unschedulable ← flag_of (codes "unschedulable") (within (codes "spec") (codes "unschedulable") json)
  Ok (name, room, taints, unschedulable)

abbrev pub node_of : List ℕ × Res × List Taint × Bool → Kept (List Label) → Kept Node
node_of parts labels = record {
  item = record {
    name = parts.0;
    allocatable = parts.1;
    labels = labels.item;
    taints = parts.2;
    unschedulable = parts.3;
  };
  left_out = labels.left_out;
}

-- its labels, in which those that the site's rules read come first. Of its other resources nothing is said: a pod
-- that asks for one isn't told
unfoldable pub node_labels : Site → (meta json : Data) → Result (Kept (List Label)) Fault
node_labels site meta json = do
  found ← members_of (codes "labels") (field (codes "labels") meta)
  resources ← members_of (codes "allocatable") (within (codes "status") (codes "allocatable") json)
  row_labels site [] found

-- the row of a node's object
unfoldable pub node_row : Site → Data → Result (Kept Node) Fault
node_row site json = do
  meta ← part_of (codes "metadata") json
  parts ← node_parts meta json
  kept ← node_labels site meta json
  Ok (node_of parts kept)
