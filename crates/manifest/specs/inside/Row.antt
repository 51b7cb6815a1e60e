-- A row part by part, as the code reads it.
use Rattle.std.specs.Prelude.{ℕ, ℤ, false, List, [], Result, Ok, Err, if◌then◌else◌}
use Rattle.std.specs.Option.{ok_or}
use Rattle.serde_json.specs.Data.{Data}
use Rattle.quant.specs.Request.{pod_request}
use Rattle.quant.specs.declared.amount.Request.{Request}
use Rattle.quant.specs.declared.amount.Res.{Res}
use Rattle.quant.specs.declared.fault.QuantFault.{QuantFault}
use Rattle.quant.specs.declared.limits.TheConstants.{MAX_LABELS, MAX_TAINTS, MAX_TOLERATIONS, MAX_CONTAINERS, MAX_INIT_CONTAINERS, MAX_PLACED}
use Rattle.quant.specs.declared.objects.Node.{Node}
use Rattle.quant.specs.declared.objects.Pod.{Pod}
use Rattle.quant.specs.declared.taint.Toleration.{Toleration}
use Rattle.manifest.specs.declared.field.Field.{Field}
use Rattle.manifest.specs.declared.field.Field.TheVariants as fields
use Rattle.manifest.specs.declared.fault.LineFault.{LineFault}
use Rattle.manifest.specs.declared.fault.LineFault.TheVariants.{BadField}
use Rattle.manifest.specs.Reading.{◌>>=◌, at, at_or, natural, flag, cpu, memory, amount, text_from}
use Rattle.manifest.specs.Item.{list}
use Rattle.manifest.specs.Rows.{label, taint, toleration, container, operator_named, effect_or_none, lawful}

-- what a node has
unfoldable pub allocatable_in : Data → Result Res LineFault
allocatable_in json = do
  cpu ← at fields.Cpu cpu json
  mem ← at fields.Memory memory json
  pods ← at fields.Pods (natural 0 MAX_PLACED) json
  Ok (record { cpu = cpu; mem = mem; pods = pods })

-- a node's row, of which the fields in front are known
unfoldable pub node_with : List ℕ → Res → Data → Result Node LineFault
node_with name allocatable json = do
  labels ← at_or fields.Labels [] (list 0 MAX_LABELS label) json
  taints ← at_or fields.Taints [] (list 0 MAX_TAINTS taint) json
  unschedulable ← at_or fields.Unschedulable false flag json
  Ok (record {
    name = name;
    allocatable = allocatable;
    labels = labels;
    taints = taints;
    unschedulable = unschedulable;
  })

-- a toleration of these texts
unfoldable pub toleration_of : Field → (key operator value effect : List ℕ) → Result Toleration LineFault
toleration_of field key operator value effect = do
  key ← text_from field key
  operator ← ok_or (operator_named operator) (BadField field)
  value ← text_from field value
  effect ← ok_or (effect_or_none effect) (BadField field)
  if lawful operator key value then Ok (record { key = key; operator = operator; value = value; effect = effect }) else Err (BadField field)

-- what all containers of a pod ask, or that it is too much, which is told last of a row
unfoldable pub asked_in : Data → Result (Result Request QuantFault) LineFault
asked_in json = do
  containers ← at fields.Containers (list 1 MAX_CONTAINERS container) json
  init ← at_or fields.Init [] (list 0 MAX_INIT_CONTAINERS container) json
  Ok (pod_request containers init)

-- a pod's row, of which the fields in front are known
unfoldable pub pod_with : List ℕ → ℤ → Result Request QuantFault → Data → Result Pod LineFault
pod_with uid priority asked json = do
  labels ← at_or fields.Labels [] (list 0 MAX_LABELS label) json
  tolerations ← at_or fields.Tolerations [] (list 0 MAX_TOLERATIONS toleration) json
  whole ← amount fields.Containers asked
  Ok (record {
    uid = uid;
    priority = priority;
    request = whole;
    labels = labels;
    tolerations = tolerations;
  })
