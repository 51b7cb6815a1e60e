-- What the evaluator's trees are seen as: what goes on, and what a reduction gives.
use Rattle.std.specs.Prelude.{◌+◌, ◌*◌, List, ◌++◌, Option, Some, slice_set}
use Rattle.wcode.specs.Syntax.{Body, done, plain, loop}
use Rattle.wmem.specs.Bytes.{bytes_of}
use Rattle.wmem.specs.Access.{byte_count, with_bytes}
use Rattle.wmem.specs.Memory.{page_size, zeros}
use Rattle.wmach.specs.Configuration as machine
use Rattle.wmach.specs.Configuration.{Store, Reduction}
use Rattle.wcode.specs.declared.value.Value.{Value}
use Rattle.wplain.specs.declared.code.Code.{Code}
use Rattle.wplain.specs.declared.execution.Continuation.{Continuation}
use Rattle.wplain.specs.declared.execution.Continuation.TheVariants as continuation
use Rattle.wplain.specs.declared.execution.Next.{Next}
use Rattle.wplain.specs.declared.execution.Next.TheVariants as next
use Rattle.wplain.specs.declared.execution.Execution.{Execution}
use Rattle.wplain.specs.declared.execution.Execution.TheVariants as execution
use Rattle.wplain.specs.declared.execution.Write.{Write}
use Rattle.wplain.specs.declared.execution.Write.TheVariants as write
use Rattle.wplain.specs.declared.execution.Effect.{Effect}
use Rattle.wplain.specs.declared.execution.Move.{Move}
use Rattle.wplain.specs.Seen.{body_of_code}

abbrev pub continuation_of : Continuation → Body
continuation_of continuation.Nothing = done
continuation_of (continuation.Loop t inside) = loop t (body_of_code inside.now) done

-- what is under way where these values stand and this comes next
abbrev pub place_of : List Value → Next → machine.Execution
place_of values (next.Code c) = machine.instructions values (body_of_code c.now)
place_of values (next.Plain p rest) = machine.instructions values (plain p (body_of_code rest.now))
place_of values (next.Loop t inside rest) = machine.instructions values (loop t (body_of_code inside.now) (body_of_code rest.now))
place_of values (next.Call function rest) = machine.invoke values function (body_of_code rest.now)
place_of values (next.Trap t) = machine.trap t

abbrev pub execution_of : Execution → machine.Execution
execution_of (execution.Here p) = place_of p.values.items p.next
execution_of (execution.Label' below arity c a inside rest) = machine.label below.items arity (continuation_of c) (execution_of inside) (body_of_code rest.now)
execution_of (execution.Frame' below arity locals a inside rest) = machine.frame below.items arity locals.items (execution_of inside) (body_of_code rest.now)

-- a store after a write
abbrev pub written : Store → Write → Store
written store write.Nothing = store
written store (write.Global x v) = record store { globals = slice_set store.globals x v }
written store (write.Number base offset width number) = record store { memory = with_bytes store.memory (base + offset) (bytes_of (byte_count width) number) }
written store (write.Bytes at bytes) = record store { memory = with_bytes store.memory at bytes.now }
written store (write.Pages n) = record store { memory = store.memory ++ zeros (page_size * n) }

-- a reduction from this store to these locals and this execution
abbrev pub reduction_of : Store → (locals : List Value) → machine.Execution → Effect → Reduction
reduction_of store locals e effect = record { cost = effect.cost; to = record { store = written store effect.write; locals = locals; execution = e } }

-- a reduction that leaves labels and frames alone
abbrev pub moved : Store → (locals values : List Value) → Move → Option Reduction
moved store locals values m = Some (reduction_of store locals (place_of values m.next) m.effect)
