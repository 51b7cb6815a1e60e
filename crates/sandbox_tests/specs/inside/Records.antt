-- What host functions hand over in worked calls.
use Rattle.std.specs.Prelude.{ℕ, zero, suc, List, Option, Some, None}

-- the record of a pod, and none of a node
abbrev pub pod_alone : List ℕ → ℕ → Option (List ℕ)
pod_alone pod zero = Some pod
pod_alone pod (suc n) = None
