-- The definitions, computed on modules with a memory of one page, and with imports.
use Rattle.std.proofs.Common.{◌≡◌, ℕ, zero, suc, ◌*◌, List, [], ◌∷◌, ◌++◌, Option, Some, None, replicate, refl}
use Rattle.std.specs.Prelude.{codes}
use Rattle.wcode.specs.declared.value.ValueType.TheVariants.{I32}
use Rattle.wcode.specs.declared.value.Value.TheVariants as value
use Rattle.wcode.specs.declared.operator.Sign.{Sign}
use Rattle.wcode.specs.declared.operator.Sign.TheVariants.{Signed, Unsigned}
use Rattle.wcode.specs.declared.operator.LoadOp.TheVariants as loads
use Rattle.wcode.specs.declared.operator.StoreOp.TheVariants as stores
use Rattle.wcode.specs.declared.instruction.Plain.TheVariants as instruction
use Rattle.wcode.specs.Syntax.{Body, done, plain}
use Rattle.wnum.specs.Representation.{signed, from_signed}
use Rattle.wnum.specs.Conversion.{extend_s, extend_u}
use Rattle.wmem.specs.Access.{with_bytes}
use Rattle.wmem.specs.Memory.{page_size, zeros}
use Rattle.wmodule.specs.declared.module.Limits.{Limits}
use Rattle.wmodule.specs.declared.module.ImportKind.TheVariants as imported
use Rattle.rules.specs.declared.trap.Trap.TheVariants as traps
use Rattle.wmach.specs.declared.outcome.Outcome.{Outcome}
use Rattle.wmach.specs.declared.outcome.Outcome.TheVariants as outcome
use Rattle.wmach.specs.Configuration.{Store, Setting, instructions, invoke, trap, Reduction, leads_to}
use Rattle.wmach.specs.Reduction.{reduce}
use Rattle.wplain.proofs.Running.{Row, row_of}

-- a module with a memory of one page and at most so many, and one function from nothing to an i32
abbrev pub with_memory : Option ℕ → Body → Setting
with_memory most body = record {
  module_syntax = record {
    types = record { parameters = []; result = Some I32 } ∷ [];
    imports = [];
    functions = record { signature = 0; locals = []; body = body } ∷ [];
    tables = [];
    memories = record { least = 1; most = most } ∷ [];
    globals = [];
    exports = [];
    start = None;
    element_segments = [];
    data_segments = [];
  };
  records = λ n. None;
}

abbrev store_of : List ℕ → Store
store_of memory = record { memory = memory; globals = []; table = [] }

abbrev page : List ℕ
page = replicate 65536 0

abbrev i32 : ℕ → Body → Body
i32 n rest = plain (instruction.Const (value.I32 n)) rest

abbrev value_at_cost : ℕ → ℕ → Outcome
value_at_cost n cost = outcome.Value (Some (value.I32 n)) cost

-- a load of four bytes from an address, with an offset
abbrev loading : ℕ → ℕ → Body
loading address offset = i32 address (plain (instruction.Load (loads.Whole I32) (record { align = 2; offset = offset })) done)

-- the last four bytes
load_at_the_end : Row (with_memory None (loading 65532 0)) (store_of page) 0 100 (value_at_cost 0 1) (store_of page)
unfolding extend_u
load_at_the_end = row_of (with_memory None (loading 65532 0)) (store_of page) 0 100 (value_at_cost 0 1) (store_of page) 10 refl

load_past_the_end : Row (with_memory None (loading 65533 0)) (store_of page) 0 100 (outcome.Trap traps.MemoryOutOfBounds 1) (store_of page)
load_past_the_end = row_of (with_memory None (loading 65533 0)) (store_of page) 0 100 (outcome.Trap traps.MemoryOutOfBounds 1) (store_of page) 10 refl

-- the address doesn't wrap
load_without_wrapping : Row (with_memory None (loading 1 4294967295)) (store_of page) 0 100 (outcome.Trap traps.MemoryOutOfBounds 1) (store_of page)
load_without_wrapping = row_of (with_memory None (loading 1 4294967295)) (store_of page) 0 100 (outcome.Trap traps.MemoryOutOfBounds 1) (store_of page) 10 refl

-- a store past the end writes nothing
abbrev storing : Body
storing = i32 65533 (i32 7 (plain (instruction.Store (stores.Whole I32) (record { align = 2; offset = 0 })) (i32 0 done)))

store_past_the_end : Row (with_memory None storing) (store_of page) 0 100 (outcome.Trap traps.MemoryOutOfBounds 1) (store_of page)
store_past_the_end = row_of (with_memory None storing) (store_of page) 0 100 (outcome.Trap traps.MemoryOutOfBounds 1) (store_of page) 10 refl

-- what a narrow store writes, a narrow load reads with or without its sign
abbrev narrow : Sign → Body
narrow sign =
    i32 65535 (i32 511 (plain (instruction.Store (stores.Narrow8 I32) (record { align = 0; offset = 0 }))
    (i32 65534 (plain (instruction.Load (loads.Narrow8 I32 sign) (record { align = 0; offset = 1 })) done))))

narrow_with_a_sign : Row (with_memory None (narrow Signed)) (store_of page) 0 100 (value_at_cost 4294967295 2) (store_of (with_bytes page 65535 (255 ∷ [])))
unfolding extend_s signed from_signed
narrow_with_a_sign = row_of (with_memory None (narrow Signed)) (store_of page) 0 100 (value_at_cost 4294967295 2) (store_of (with_bytes page 65535 (255 ∷ []))) 20 refl

narrow_without_a_sign : Row (with_memory None (narrow Unsigned)) (store_of page) 0 100 (value_at_cost 255 2) (store_of (with_bytes page 65535 (255 ∷ [])))
unfolding extend_u
narrow_without_a_sign = row_of (with_memory None (narrow Unsigned)) (store_of page) 0 100 (value_at_cost 255 2) (store_of (with_bytes page 65535 (255 ∷ []))) 20 refl

abbrev growing : ℕ → Body → Body
growing delta rest = i32 delta (plain instruction.MemoryGrow rest)

-- to 32 pages
grow_to_the_most : Row (with_memory None (growing 31 done)) (store_of page) 0 100 (value_at_cost 1 1) (store_of (page ++ zeros (page_size * 31)))
grow_to_the_most = row_of (with_memory None (growing 31 done)) (store_of page) 0 100 (value_at_cost 1 1) (store_of (page ++ zeros (page_size * 31))) 10 refl

grow_past_the_most : Row (with_memory None (growing 32 done)) (store_of page) 0 100 (value_at_cost 4294967295 1) (store_of page)
grow_past_the_most = row_of (with_memory None (growing 32 done)) (store_of page) 0 100 (value_at_cost 4294967295 1) (store_of page) 10 refl

-- and the size stays
abbrev size_behind : Body
size_behind = growing 32 (plain instruction.Drop (plain instruction.MemorySize done))

size_after_failed_growth : Row (with_memory None size_behind) (store_of page) 0 100 (value_at_cost 1 3) (store_of page)
size_after_failed_growth = row_of (with_memory None size_behind) (store_of page) 0 100 (value_at_cost 1 3) (store_of page) 10 refl

-- twice by one page, where two are declared
abbrev grow_twice : Body
grow_twice = growing 1 (plain instruction.Drop (growing 1 done))

grow_past_the_declared : Row (with_memory (Some 2) grow_twice) (store_of page) 0 100 (value_at_cost 4294967295 3) (store_of (page ++ zeros (page_size * 1)))
unfolding zeros
grow_past_the_declared = row_of (with_memory (Some 2) grow_twice) (store_of page) 0 100 (value_at_cost 4294967295 3) (store_of (page ++ zeros (page_size * 1))) 10 refl

-- ---- host functions

-- a module with these memories that imports a host function and calls it with a pointer and a limit
abbrev importing_in : List Limits → (from name : List ℕ) → (ℕ → Option (List ℕ)) → (pointer limit : ℕ) → Setting
importing_in memories from name records pointer limit = record {
  module_syntax = record {
    types = record { parameters = []; result = Some I32 } ∷ record { parameters = I32 ∷ I32 ∷ []; result = Some I32 } ∷ [];
    imports = record { module_name = from; name = name; kind = imported.Function 1 } ∷ [];
    functions = record { signature = 0; locals = []; body = i32 pointer (i32 limit (plain (instruction.Call 0) done)) } ∷ [];
    tables = [];
    memories = memories;
    globals = [];
    exports = [];
    start = None;
    element_segments = [];
    data_segments = [];
  };
  records = records;
}

abbrev importing : (from name : List ℕ) → (ℕ → Option (List ℕ)) → (pointer limit : ℕ) → Setting
importing from name records pointer limit = importing_in (record { least = 1; most = None } ∷ []) from name records pointer limit

-- the record of a pod p1 of 100 thousandths of a core and 64 MiB: 26 bytes
abbrev pod_bytes : List ℕ
pod_bytes = 1 ∷ 1 ∷ 2 ∷ 112 ∷ 49 ∷ 0 ∷ 0 ∷ 0 ∷ 0 ∷ 100 ∷ 0 ∷ 0 ∷ 0 ∷ 0 ∷ 0 ∷ 0 ∷ 0 ∷ 0 ∷ 0 ∷ 0 ∷ 4 ∷ 0 ∷ 0 ∷ 0 ∷ 0 ∷ 0 ∷ []

-- the record of the pod alone, and the record of the node alone
abbrev first_only : List ℕ → ℕ → Option (List ℕ)
first_only bytes zero = Some bytes
first_only bytes (suc n) = None

abbrev second_only : List ℕ → ℕ → Option (List ℕ)
second_only bytes zero = None
second_only bytes (suc zero) = Some bytes
second_only bytes (suc (suc n)) = None

abbrev pod : ℕ → ℕ → Setting
pod pointer limit = importing (codes "sched") (codes "pod") (first_only pod_bytes) pointer limit

-- longer than the limit: the length alone
host_above_the_limit : Row (pod 65510 25) (store_of page) 1 100 (value_at_cost 26 1) (store_of page)
host_above_the_limit = row_of (pod 65510 25) (store_of page) 1 100 (value_at_cost 26 1) (store_of page) 10 refl

-- the length comes before the bounds
host_above_the_limit_and_out : Row (pod 4294967295 25) (store_of page) 1 100 (value_at_cost 26 1) (store_of page)
host_above_the_limit_and_out = row_of (pod 4294967295 25) (store_of page) 1 100 (value_at_cost 26 1) (store_of page) 10 refl

host_writes : Row (pod 65510 26) (store_of page) 1 100 (value_at_cost 26 2) (store_of (with_bytes page 65510 pod_bytes))
host_writes = row_of (pod 65510 26) (store_of page) 1 100 (value_at_cost 26 2) (store_of (with_bytes page 65510 pod_bytes)) 10 refl

host_out_of_bounds : Row (pod 65511 26) (store_of page) 1 100 (outcome.Trap traps.HostOutOfBounds 1) (store_of page)
host_out_of_bounds = row_of (pod 65511 26) (store_of page) 1 100 (outcome.Trap traps.HostOutOfBounds 1) (store_of page) 10 refl

-- the call is one reduction, and the copy the next
host_with_one : Row (pod 65510 26) (store_of page) 1 1 (outcome.Exhausted 1) (store_of page)
host_with_one = row_of (pod 65510 26) (store_of page) 1 1 (outcome.Exhausted 1) (store_of page) 10 refl

host_with_two : Row (pod 65510 26) (store_of page) 1 2 (value_at_cost 26 2) (store_of (with_bytes page 65510 pod_bytes))
host_with_two = row_of (pod 65510 26) (store_of page) 1 2 (value_at_cost 26 2) (store_of (with_bytes page 65510 pod_bytes)) 10 refl

-- a record of 257 bytes costs two
abbrev long_record : Setting
long_record = importing (codes "sched") (codes "node") (second_only (replicate 257 7)) 0 300

long_with_two : Row long_record (store_of page) 1 2 (outcome.Exhausted 1) (store_of page)
long_with_two = row_of long_record (store_of page) 1 2 (outcome.Exhausted 1) (store_of page) 10 refl

long_with_three : Row long_record (store_of page) 1 3 (value_at_cost 257 3) (store_of (with_bytes page 0 (replicate 257 7)))
long_with_three = row_of long_record (store_of page) 1 3 (value_at_cost 257 3) (store_of (with_bytes page 0 (replicate 257 7))) 10 refl

-- a record that isn't given, told before all else
host_without_a_record : Row (importing (codes "sched") (codes "node") (first_only pod_bytes) 65511 26) (store_of page) 1 100 (outcome.Trap traps.NoRecord 1) (store_of page)
host_without_a_record = row_of (importing (codes "sched") (codes "node") (first_only pod_bytes) 65511 26) (store_of page) 1 100 (outcome.Trap traps.NoRecord 1) (store_of page) 10 refl

-- the same pod's record of version 2, which has no tolerations: 27 bytes
abbrev second_pod_bytes : List ℕ
second_pod_bytes = 2 ∷ 1 ∷ 2 ∷ 112 ∷ 49 ∷ 0 ∷ 0 ∷ 0 ∷ 0 ∷ 100 ∷ 0 ∷ 0 ∷ 0 ∷ 0 ∷ 0 ∷ 0 ∷ 0 ∷ 0 ∷ 0 ∷ 0 ∷ 4 ∷ 0 ∷ 0 ∷ 0 ∷ 0 ∷ 0 ∷ 0 ∷ []

-- the pod's records of both versions alone
abbrev both_pods : ℕ → Option (List ℕ)
both_pods zero = Some pod_bytes
both_pods (suc zero) = None
both_pods (suc (suc zero)) = Some second_pod_bytes
both_pods (suc (suc (suc n))) = None

abbrev second_pod : ℕ → ℕ → Setting
second_pod pointer limit = importing (codes "sched2") (codes "pod") both_pods pointer limit

second_above_the_limit : Row (second_pod 65510 26) (store_of page) 1 100 (value_at_cost 27 1) (store_of page)
second_above_the_limit = row_of (second_pod 65510 26) (store_of page) 1 100 (value_at_cost 27 1) (store_of page) 10 refl

second_writes : Row (second_pod 65509 27) (store_of page) 1 100 (value_at_cost 27 2) (store_of (with_bytes page 65509 second_pod_bytes))
second_writes = row_of (second_pod 65509 27) (store_of page) 1 100 (value_at_cost 27 2) (store_of (with_bytes page 65509 second_pod_bytes)) 10 refl

-- the name alone doesn't tell a host function
second_node_is_not_the_first : Row (importing (codes "sched2") (codes "node") (second_only pod_bytes) 65511 26) (store_of page) 1 100 (outcome.Trap traps.NoRecord 1) (store_of page)
second_node_is_not_the_first = row_of (importing (codes "sched2") (codes "node") (second_only pod_bytes) 65511 26) (store_of page) 1 100 (outcome.Trap traps.NoRecord 1) (store_of page) 10 refl

-- where there is no memory, not even nothing is written
without_memory : Row (importing_in [] (codes "sched") (codes "pod") (first_only []) 0 0) (store_of []) 1 100 (outcome.Trap traps.HostOutOfBounds 1) (store_of [])
without_memory = row_of (importing_in [] (codes "sched") (codes "pod") (first_only []) 0 0) (store_of []) 1 100 (outcome.Trap traps.HostOutOfBounds 1) (store_of []) 10 refl

-- a host function makes no frame: it is called where there is room for no other function
abbrev in_the_last_frame : ℕ → Option Reduction
in_the_last_frame function = reduce (pod 65510 25) 256 (store_of page) [] (invoke (value.I32 25 ∷ value.I32 65510 ∷ []) function done)

host_in_the_last_frame : in_the_last_frame 0 ≡ leads_to 0 (store_of page) [] (instructions (value.I32 26 ∷ []) done)
host_in_the_last_frame = refl

own_in_the_last_frame : in_the_last_frame 1 ≡ leads_to 0 (store_of page) [] (trap traps.CallDepth)
own_in_the_last_frame = refl
