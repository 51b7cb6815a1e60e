-- What a plugin said of all nodes.
use Rattle.std.specs.Prelude.{ℕ, List, Option, Some, None}
use Rattle.whost.specs.declared.records.Records.{Records}
use Rattle.whost.specs.declared.records.Versions.{Versions}

-- where something was said, it is said with the pod of these records and each node
abbrev pub SaidOfAll : {V : Type 0} → (Says : Records → V → Type 0) → (said : Option V) → (first second third : List ℕ) → Type 0
SaidOfAll Says None first second third = Unit {0}
SaidOfAll Says (Some v) first second third = (node : Versions) → Says (record { pod = record { first = first; second = second; third = third }; node = node }) v
