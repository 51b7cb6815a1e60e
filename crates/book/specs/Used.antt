-- What the pods on a node use together.
use Rattle.std.specs.Prelude.{ℕ, List, if◌then◌else◌, sum_by}
use Rattle.std.specs.Str.{bytes_eq}
use Rattle.std.specs.FinMap.{values}
use Rattle.quant.specs.declared.amount.Res.{Res}
use Rattle.book.specs.declared.place.Place.{Place}
use Rattle.book.specs.declared.place.Status.{Status}
use Rattle.book.specs.declared.place.Status.TheVariants.{Assumed, Bound}
use Rattle.book.specs.Cluster.{Places}

-- nothing at all
abbrev pub nothing : Res
nothing = record { cpu = record { 0 = 0 }; mem = record { 0 = 0 }; pods = 0 }

-- what a place adds to a node: its request and one pod to its own node, and nothing to any other
abbrev pub share : List ℕ → Place → Res
share node place =
    if bytes_eq place.node node
    then record { cpu = place.request.cpu; mem = place.request.mem; pods = 1 }
    else nothing

-- the sum of what places add to a node
abbrev pub used_by : List Place → List ℕ → Res
used_by places node =
    record {
      cpu = record { 0 = sum_by (λ place. (share node place).cpu.0) places };
      mem = record { 0 = sum_by (λ place. (share node place).mem.0) places };
      pods = sum_by (λ place. (share node place).pods) places;
    }

-- what the pods on a node use together, whether the node is there or not: the sum over the uids
-- that have a place
abbrev pub used : Places → List ℕ → Res
used places node = used_by (values places) node

-- 1 for a place that is assumed, and 0 for one that is bound
abbrev pub assumed_in : Status → ℕ
assumed_in (Assumed ticket finished) = 1
assumed_in Bound = 0

-- how many places are assumed
abbrev pub assumed : Places → ℕ
assumed places = sum_by (λ place. assumed_in place.status) (values places)

-- 1 for a place that is bound, and 0 for one that is assumed
abbrev pub bound_in : Status → ℕ
bound_in (Assumed ticket finished) = 0
bound_in Bound = 1

-- how many places are bound
abbrev pub bound : Places → ℕ
bound places = sum_by (λ place. bound_in place.status) (values places)
