-- A row is what its parts are, one after the other.
use Rattle.std.proofs.Common.{◌≡◌, Result, Ok, Err, [], pos, refl}
use Rattle.serde_json.specs.Data.{Data}
use Rattle.quant.specs.declared.event.Event.TheVariants.{NodeSet}
use Rattle.quant.specs.declared.version.Version.{Version}
use Rattle.quant.specs.declared.objects.Pod.{Pod}
use Rattle.manifest.specs.declared.command.Command.TheVariants as commands
use Rattle.manifest.specs.declared.field.Field.TheVariants as fields
use Rattle.manifest.specs.declared.fault.LineFault.{LineFault}
use Rattle.quant.specs.Request.{pod_request}
use Rattle.quant.specs.declared.limits.TheConstants.{MAX_LABELS, MAX_TOLERATIONS, MAX_CONTAINERS, MAX_INIT_CONTAINERS}
use Rattle.manifest.specs.Item.{list}
use Rattle.manifest.specs.Reading.{◌>>=◌, at, at_or, signed, name, amount}
use Rattle.manifest.specs.Rows.{label, toleration, container}
use Rattle.manifest.specs.Line.{version_in, node_in, row_in}
use Rattle.manifest.specs.inside.Row.{allocatable_in, node_with, asked_in, pod_with}

-- five readings and three, of which the last three of the five and the three belong together
node_split : {V N C M P L T U R S A : Type 0} (v : Result V LineFault) (n : Result N LineFault) (c : Result C LineFault) (m : Result M LineFault)
    (p : Result P LineFault) (l : Result L LineFault) (t : Result T LineFault) (u : Result U LineFault)
    (front : C → M → P → R) (whole : N → R → L → T → U → S) (told : V → S → A) → (do
      v ← v
      n ← n
      c ← c
      m ← m
      p ← p
      l ← l
      t ← t
      u ← u
      Ok (told v (whole n (front c m p) l t u))) ≡ (do
        v ← v
        n ← n
        r ← (do
          c ← c
          m ← m
          p ← p
          Ok (front c m p))
        s ← (do
          l ← l
          t ← t
          u ← u
          Ok (whole n r l t u))
        Ok (told v s))
node_split (Err e) n c m p l t u front whole told = refl
node_split (Ok v) (Err e) c m p l t u front whole told = refl
node_split (Ok v) (Ok n) (Err e) m p l t u front whole told = refl
node_split (Ok v) (Ok n) (Ok c) (Err e) p l t u front whole told = refl
node_split (Ok v) (Ok n) (Ok c) (Ok m) (Err e) l t u front whole told = refl
node_split (Ok v) (Ok n) (Ok c) (Ok m) (Ok p) (Err e) t u front whole told = refl
node_split (Ok v) (Ok n) (Ok c) (Ok m) (Ok p) (Ok l) (Err e) u front whole told = refl
node_split (Ok v) (Ok n) (Ok c) (Ok m) (Ok p) (Ok l) (Ok t) (Err e) front whole told = refl
node_split (Ok v) (Ok n) (Ok c) (Ok m) (Ok p) (Ok l) (Ok t) (Ok u) front whole told = refl

-- the fields of a node, by what it has and by its row
pub node_parts : (json : Data) → node_in json ≡ (do
  version ← version_in json
  name ← at fields.Name name json
  allocatable ← allocatable_in json
  node ← node_with name allocatable json
  Ok (commands.Event (NodeSet version node)))
unfolding node_in allocatable_in node_with
node_parts json = node_split _ _ _ _ _ _ _ _ (λ cpu mem pods. record { cpu = cpu; mem = mem; pods = pods })
    (λ name allocatable labels taints unschedulable. record { name = name; allocatable = allocatable; labels = labels; taints = taints; unschedulable = unschedulable })
    (λ version node. commands.Event (NodeSet version node))

then_told : {W S A : Type 0} (r : Result W LineFault) (whole : W → S) (told : S → A) → (do
  w ← r
  Ok (told (whole w))) ≡ (do
    s ← (do
      w ← r
      Ok (whole w))
    Ok (told s))
then_told (Ok w) whole told = refl
then_told (Err e) whole told = refl

-- three readings, two that belong together, and three more with what these come to
row_split : {V N P C I L T Q W S A : Type 0} (v : Result V LineFault) (n : Result N LineFault) (p : Result P LineFault) (c : Result C LineFault)
    (i : Result I LineFault) (l : Result L LineFault) (t : Result T LineFault) (asked : C → I → Q) (amount : Q → Result W LineFault)
    (whole : N → P → W → L → T → S) (both : V → S → A) → (do
      v ← v
      n ← n
      p ← p
      c ← c
      i ← i
      l ← l
      t ← t
      w ← amount (asked c i)
      Ok (both v (whole n p w l t))) ≡ (do
        v ← v
        n ← n
        p ← p
        q ← (do
          c ← c
          i ← i
          Ok (asked c i))
        s ← (do
          l ← l
          t ← t
          w ← amount q
          Ok (whole n p w l t))
        Ok (both v s))
row_split (Err e) n p c i l t asked amount whole both = refl
row_split (Ok v) (Err e) p c i l t asked amount whole both = refl
row_split (Ok v) (Ok n) (Err e) c i l t asked amount whole both = refl
row_split (Ok v) (Ok n) (Ok p) (Err e) i l t asked amount whole both = refl
row_split (Ok v) (Ok n) (Ok p) (Ok c) (Err e) l t asked amount whole both = refl
row_split (Ok v) (Ok n) (Ok p) (Ok c) (Ok i) (Err e) t asked amount whole both = refl
row_split (Ok v) (Ok n) (Ok p) (Ok c) (Ok i) (Ok l) (Err e) asked amount whole both = refl
row_split (Ok v) (Ok n) (Ok p) (Ok c) (Ok i) (Ok l) (Ok t) asked amount whole both = then_told (amount (asked c i)) (λ w. whole n p w l t) (both v)

abbrev row_of : Version → Pod → Version × Pod
row_of version pod = (version, pod)

-- the version and the row of a pod, by what its containers ask and by the row itself
pub row_parts : (json : Data) → row_in json ≡ (do
  version ← version_in json
  uid ← at fields.Uid name json
  priority ← at_or fields.Priority (pos 0) signed json
  asked ← asked_in json
  pod ← pod_with uid priority asked json
  Ok (row_of version pod))
unfolding row_in asked_in pod_with
row_parts json =
    row_split (version_in json) (at fields.Uid name json) (at_or fields.Priority (pos 0) signed json)
    (at fields.Containers (list 1 MAX_CONTAINERS container) json) (at_or fields.Init [] (list 0 MAX_INIT_CONTAINERS container) json)
    (at_or fields.Labels [] (list 0 MAX_LABELS label) json) (at_or fields.Tolerations [] (list 0 MAX_TOLERATIONS toleration) json) pod_request
    (amount fields.Containers)
    (λ uid priority whole labels tolerations. record { uid = uid; priority = priority; request = whole; labels = labels; tolerations = tolerations })
    row_of
