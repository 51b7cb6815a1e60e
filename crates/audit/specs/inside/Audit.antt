-- The same sums over the slots and the tables that the code goes over.
use Rattle.std.specs.Prelude.{◌≡◌, ◌<◌, ◌+◌, ◌^◌, ℕ, List, Option, sum_by, unwrap_or, bytes_eq}
use Rattle.std.specs.Map.{lookup}
use Rattle.quant.specs.declared.amount.Res.{Res}
use Rattle.name_table.specs.Slots.{Slots}
use Rattle.name_table.specs.inside.Slots.{number_in}
use Rattle.name_table.specs.declared.entry.Entry.{Entry}
use Rattle.book.specs.declared.place.Place.{Place}
use Rattle.book.specs.Used.{nothing as nothing_used, share}
use Rattle.audit.specs.declared.sums.Sums.{Sums}

abbrev pub cpu_on : List ℕ → Place → ℕ
cpu_on node place = (share node place).cpu.0

abbrev pub mem_on : List ℕ → Place → ℕ
mem_on node place = (share node place).mem.0

abbrev pub pods_on : List ℕ → Place → ℕ
pods_on node place = (share node place).pods

-- so much of each resource
abbrev pub amounts : (cpu mem pods : ℕ) → Res
amounts cpu mem pods = record { cpu = record { 0 = cpu }; mem = record { 0 = mem }; pods = pods }

abbrev pub nothing : Res
nothing = nothing_used

-- what a slot adds to a node
abbrev pub share_in : List ℕ → Option (Entry Place) → Res
share_in node slot = amounts (number_in (cpu_on node) slot) (number_in (mem_on node) slot) (number_in (pods_on node) slot)

-- what all slots add to a node
abbrev pub used_in : Slots Place → List ℕ → Res
used_in slots node =
    amounts (sum_by (number_in (cpu_on node)) slots) (sum_by (number_in (mem_on node)) slots) (sum_by (number_in (pods_on node)) slots)

-- two amounts together
abbrev pub plus : Res → Res → Res
plus a b = amounts (a.cpu.0 + b.cpu.0) (a.mem.0 + b.mem.0) (a.pods + b.pods)

-- what a table has for a node
abbrev pub sum_in : Sums → List ℕ → Res
sum_in sums node = unwrap_or (lookup (bytes_eq node) sums.by_node.entries) nothing

-- one pod more fits, whatever it asks
abbrev pub HasRoom : Res → Type 0
HasRoom sum = (sum.cpu.0 + 2 ^ 30 < 2 ^ 64) × (sum.mem.0 + 2 ^ 44 < 2 ^ 64) × (sum.pods + 1 < 2 ^ 32)

-- a table has a place more
abbrev pub AddsShare : Sums → Place → Sums → Type 0
AddsShare before place after = (node : List ℕ) → sum_in after node ≡ plus (sum_in before node) (share node place)

-- a table has what the slots add up to
abbrev pub IsSumOf : Slots Place → Sums → Type 0
IsSumOf slots sums = (node : List ℕ) → sum_in sums node ≡ used_in slots node

-- what several tables have for a node together
abbrev pub total_in : List Sums → List ℕ → Res
total_in pieces node =
    amounts (sum_by (λ piece. (sum_in piece node).cpu.0) pieces) (sum_by (λ piece. (sum_in piece node).mem.0) pieces)
    (sum_by (λ piece. (sum_in piece node).pods) pieces)
