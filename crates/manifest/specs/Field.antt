-- How a script spells the names of its fields.
use Rattle.std.specs.Prelude.{ℕ, List, codes}
use Rattle.manifest.specs.declared.field.Field.{Field}
use Rattle.manifest.specs.declared.field.Field.TheVariants.{Op, Version, Name, Cpu, Memory, Pods, Labels, Taints, Unschedulable, Uid, Priority, Containers, Init, Tolerations, Node, At, Ticket, Filters}

-- the key of a field in the line's object
unfoldable pub key : Field → List ℕ
key Op = codes "op"
key Version = codes "v"
key Name = codes "name"
key Cpu = codes "cpu"
key Memory = codes "mem"
key Pods = codes "pods"
key Labels = codes "labels"
key Taints = codes "taints"
key Unschedulable = codes "unschedulable"
key Uid = codes "uid"
key Priority = codes "priority"
key Containers = codes "containers"
key Init = codes "init"
key Tolerations = codes "tolerations"
key Node = codes "node"
key At = codes "at"
key Ticket = codes "ticket"
key Filters = codes "filters"
