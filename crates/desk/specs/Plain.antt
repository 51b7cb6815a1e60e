-- Which nodes take each pod for which they have room.
use Rattle.std.specs.Prelude.{Bool, not, ◌&&◌, ◌==◌, length}
use Rattle.quant.specs.declared.objects.Node.{Node}

-- a node is plain: it isn't marked unschedulable, and has no taints
abbrev pub is_plain : Node → Bool
is_plain node = not node.unschedulable && (length node.taints == 0)
