-- What a line asks for.
use Rattle.std.specs.Prelude.{ℕ, ◌≤◌, pos, false, List, [], length, Result, Ok, Err, nat_le, if◌then◌else◌, ⊤}
use Rattle.std.specs.Option.{ok_or}
use Rattle.serde_json.specs.Data.{Data}
use Rattle.quant.specs.Request.{pod_request}
use Rattle.quant.specs.declared.limits.TheConstants.{MAX_LABELS, MAX_TAINTS, MAX_TOLERATIONS, MAX_CONTAINERS, MAX_INIT_CONTAINERS, MAX_PLACED, MAX_VERSION, MAX_TICKET, LATEST_MOMENT}
use Rattle.quant.specs.declared.objects.Pod.{Pod}
use Rattle.quant.specs.declared.version.Version.{Version}
use Rattle.quant.specs.declared.version.Ticket.{Ticket}
use Rattle.quant.specs.declared.event.Event.TheVariants.{NodeSet, NodeGone, PodPending, PodBound, PodGone}
use Rattle.manifest.specs.declared.line.TheConstants.{MAX_LINE}
use Rattle.manifest.specs.declared.command.Command.{Command}
use Rattle.manifest.specs.declared.command.Command.TheVariants as commands
use Rattle.manifest.specs.declared.operation.Operation.{Operation}
use Rattle.manifest.specs.declared.operation.Operation.TheVariants as operations
use Rattle.manifest.specs.declared.field.Field.TheVariants as fields
use Rattle.manifest.specs.declared.fault.LineFault.{LineFault}
use Rattle.manifest.specs.declared.fault.LineFault.TheVariants.{BadField, OverLimit}
use Rattle.manifest.specs.Operation.{operation_named}
use Rattle.manifest.specs.Reading.{◌>>=◌, parsed, at, at_or, text, natural, signed, flag, name, cpu, memory, request, amount}
use Rattle.manifest.specs.Item.{list}
use Rattle.manifest.specs.Rows.{label, taint, toleration, container}

-- the version of an event, from 1 on
unfoldable pub version_in : Data → Result Version LineFault
version_in json = do
  v ← at fields.Version (natural 1 MAX_VERSION) json
  Ok (record { 0 = v })

-- the ticket of an assumed place, from 1 on
unfoldable pub ticket_in : Data → Result Ticket LineFault
ticket_in json = do
  ticket ← at fields.Ticket (natural 1 MAX_TICKET) json
  Ok (record { 0 = ticket })

-- the fields of `node`, in their order
unfoldable pub node_in : Data → Result Command LineFault
node_in json = do
  version ← version_in json
  name ← at fields.Name name json
  cpu ← at fields.Cpu cpu json
  mem ← at fields.Memory memory json
  pods ← at fields.Pods (natural 0 MAX_PLACED) json
  labels ← at_or fields.Labels [] (list 0 MAX_LABELS label) json
  taints ← at_or fields.Taints [] (list 0 MAX_TAINTS taint) json
  unschedulable ← at_or fields.Unschedulable false flag json
  Ok (commands.Event (NodeSet version (record {
    name = name;
    allocatable = record { cpu = cpu; mem = mem; pods = pods };
    labels = labels;
    taints = taints;
    unschedulable = unschedulable;
  })))

-- the fields of `gone`, in their order
unfoldable pub gone_in : Data → Result Command LineFault
gone_in json = do
  version ← version_in json
  name ← at fields.Name name json
  Ok (commands.Event (NodeGone version name))

-- the version and the pod's row of a line, whose fields are these in their order, and then what all
-- its containers ask
unfoldable pub row_in : Data → Result (Version × Pod) LineFault
row_in json = do
  version ← version_in json
  uid ← at fields.Uid name json
  priority ← at_or fields.Priority (pos 0) signed json
  containers ← at fields.Containers (list 1 MAX_CONTAINERS container) json
  init ← at_or fields.Init [] (list 0 MAX_INIT_CONTAINERS container) json
  labels ← at_or fields.Labels [] (list 0 MAX_LABELS label) json
  tolerations ← at_or fields.Tolerations [] (list 0 MAX_TOLERATIONS toleration) json
  whole ← amount fields.Containers (pod_request containers init)
  Ok (
    version,
    record {
      uid = uid;
      priority = priority;
      request = whole;
      labels = labels;
      tolerations = tolerations;
    },
  )

-- the row of `pod`
unfoldable pub pod_in : Data → Result Command LineFault
pod_in json = do
  row ← row_in json
  Ok (commands.Event (PodPending row.0 row.1))

-- the row of `judge`, whose version says nothing, and then whether filters alone are asked
unfoldable pub judge_in : Data → Result Command LineFault
judge_in json = do
  row ← row_in json
  filters_alone ← at_or fields.Filters false flag json
  Ok (commands.Judge (record { pod = row.1; filters_alone = filters_alone }))

-- the fields of `bound`, in their order
unfoldable pub bound_in : Data → Result Command LineFault
bound_in json = do
  version ← version_in json
  uid ← at fields.Uid name json
  node ← at fields.Node name json
  cpu ← at fields.Cpu cpu json
  mem ← at fields.Memory memory json
  whole ← request fields.Memory cpu mem
  Ok (commands.Event (PodBound version uid node whole))

-- the fields of `deleted`, in their order
unfoldable pub deleted_in : Data → Result Command LineFault
deleted_in json = do
  version ← version_in json
  uid ← at fields.Uid name json
  Ok (commands.Event (PodGone version uid))

-- the field of `tick`
unfoldable pub tick_in : Data → Result Command LineFault
tick_in json = do
  moment ← at fields.At (natural 0 LATEST_MOMENT) json
  Ok (commands.Tick (record { 0 = moment }))

-- the fields of `done`, in their order
unfoldable pub done_in : Data → Result Command LineFault
done_in json = do
  uid ← at fields.Uid name json
  ticket ← ticket_in json
  Ok (commands.BindDone uid ticket)

-- the fields of `forget`, in their order
unfoldable pub forget_in : Data → Result Command LineFault
forget_in json = do
  uid ← at fields.Uid name json
  ticket ← ticket_in json
  Ok (commands.Forget uid ticket)

-- what an operation asks for
unfoldable pub fields_of : Operation → Data → Result Command LineFault
fields_of operations.Node json = node_in json
fields_of operations.Gone json = gone_in json
fields_of operations.Pod json = pod_in json
fields_of operations.Bound json = bound_in json
fields_of operations.Deleted json = deleted_in json
fields_of operations.Tick json = tick_in json
fields_of operations.Cycle json = Ok commands.Cycle
fields_of operations.Done json = done_in json
fields_of operations.Forget json = forget_in json
fields_of operations.Dump json = Ok commands.Dump
fields_of operations.Judge json = judge_in json

-- what an object asks for: its operation is read first
unfoldable pub command_in : Data → Result Command LineFault
command_in json = do
  op ← at fields.Op text json
  operation ← ok_or (operation_named op) (BadField fields.Op)
  fields_of operation json

-- what a line asks for, or its first fault; a line that is too long is not read
unfoldable pub meaning : List ℕ → Result Command LineFault
meaning line = if nat_le (length line) MAX_LINE then parsed line >>= command_in else Err (OverLimit fields.Op)

-- a moment that a command tells is one that clocks have
abbrev pub IsTimely : Command → Type 0
IsTimely (commands.Tick now) = now.0 ≤ LATEST_MOMENT
IsTimely command = ⊤
