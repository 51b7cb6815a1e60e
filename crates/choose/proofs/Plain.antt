-- What is known of a node by its mark and taints where it has none.
use Rattle.std.proofs.Common.{◌≡◌, Bool, true, false, ◌&&◌, not, [], length, None, refl, ◌==◌}
use Rattle.std.proofs.lemmas.Bool.{eqb-true}
use Rattle.std.proofs.lemmas.List.{nil_from_length}
use Rattle.quant.specs.declared.objects.Node.{Node}
use Rattle.quant.specs.declared.objects.Pod.{Pod}
use Rattle.taints.specs.Tolerance.{rejection, prefer_not}
use Rattle.desk.specs.Plain.{is_plain}

neither : (a b : Bool) → (not a && b) ≡ true → (a ≡ false) × (b ≡ true)
neither true b h = absurd (cc)
neither false b h = (refl, h)

-- a plain node has no mark and no taints
has_none : (node : Node) → is_plain node ≡ true → (node.unschedulable ≡ false) × (node.taints ≡ [])
has_none node plain =
    let parts : (node.unschedulable ≡ false) × ((length node.taints == 0) ≡ true) = neither node.unschedulable _ plain in
    (parts.0, nil_from_length node.taints (eqb-true (length node.taints) 0 parts.1))

-- so no pod is kept off it
pub keeps_none_off : (node : Node) (pod : Pod) → is_plain node ≡ true → rejection node pod ≡ None
unfolding rejection
keeps_none_off node pod plain = let none = has_none node plain in rw (none.0, none.1) refl

-- and none of its taints counts against it
pub is_preferred : (node : Node) (pod : Pod) → is_plain node ≡ true → prefer_not node pod ≡ 0
unfolding prefer_not
is_preferred node pod plain = rw ((has_none node plain).1) refl
