use Rattle.std.proofs.Common.{◌+◌, ◌-◌, Ok, Err, take, drop, refl, sym, ap, subst, arith}
use Rattle.std.proofs.lemmas.Result.{err_from_is_err_and}
use Rattle.wcode.specs.Operators.{store_type}
use Rattle.wcode.specs.declared.value.ValueType.TheVariants.{I32}
use Rattle.wmach.proofs.Arms.{moved, spent_err, two_back, two_is, two_there}
use Rattle.wmach.proofs.MachineSteps.{went}
use Rattle.wmach.proofs.OverMemory.{over_store, over_store_trap, store_base, store_here, store_spent}
use Rattle.wmach.proofs.Stepping.{cut_off}
use Rattle.wmach.specs.inside.Machine.{On}
use Rattle.wmach.specs.Operands.{value_of}
use Rattle.wmach.specs.inside.Running.{activation_of, bytes_of}
use Rattle.rules.specs.declared.trap.Trap.TheVariants.{MemoryOutOfBounds}
use Rattle.wmem.specs.Access.{byte_count}
use Rattle.wmem.specs.declared.trap.Trap.TheVariants as mem_traps
use Rattle.wstore.specs.State.{StoreGives, StoreState}
use Rattle.wmach.proofs.plain.store.Goals as goal

pub returns-in_err-left : goal.returns-in_err-left
returns-in_err-left c w r h q =
    let st = c.args.memory.now in let s = c.args.state in let slots = c.args.slots.now in
    let e = err_from_is_err_and c.from_residual.result c.from_residual.ensures.1 in
    spent_err r s w slots st h c.from_residual.result e.0 c.in_err-left.field-0.0 e.1 e.2 c.in_err-left.ensures.none.0 c.in_err-left.ensures.none.1 (store_spent r.setting (bytes_of r) r.checked r.start h.spent (activation_of s) w (take s.top slots) st.current h.on c.args.op c.args.arg (drop c.args.next (bytes_of r)) q.spelled)

pub topmost-number-requires-clause-some : goal.topmost-number-requires-clause-some
topmost-number-requires-clause-some c =
    let w = c.requires.0 in let st = c.args.memory.now in let q = c.requires.1 in let r = q.run in let h = q.at in let s = c.args.state in let slots = c.args.slots.now in
    let o = store_here r.setting (bytes_of r) r.checked r.start h.spent (activation_of s) w (take s.top slots) st.current h.on c.args.op c.args.arg (drop c.args.next (bytes_of r)) q.reads.spelled in let two = two_there r s w slots st h (value_of (store_type c.args.op) o.number) (value_of I32 o.base) o.others o.values_are in
    omega (arith, two)

pub topmost-base-requires-clause-some : goal.topmost-base-requires-clause-some
topmost-base-requires-clause-some c =
    let w = c.requires.0 in let st = c.args.memory.now in let q = c.requires.1 in let r = q.run in let h = q.at in let s = c.args.state in let slots = c.args.slots.now in
    let o = store_here r.setting (bytes_of r) r.checked r.start h.spent (activation_of s) w (take s.top slots) st.current h.on c.args.op c.args.arg (drop c.args.next (bytes_of r)) q.reads.spelled in let two = two_there r s w slots st h (value_of (store_type c.args.op) o.number) (value_of I32 o.base) o.others o.values_are in
    omega (arith, two)

pub overflow_cast-base : goal.overflow_cast-base
overflow_cast-base c =
    let w = c.requires.0 in let st = c.args.memory.now in let q = c.requires.1 in let r = q.run in let h = q.at in let s = c.args.state in let slots = c.args.slots.now in
    let popped = two_back s.top slots c.topmost-base.result c.topmost-number.result c.topmost-number.ensures c.topmost-base.ensures in
    let less = store_base r.setting (bytes_of r) r.checked r.start h.spent (activation_of s) w (take s.top slots) st.current h.on c.args.op c.args.arg (drop c.args.next (bytes_of r)) (take (s.top - 2) slots) c.topmost-base.result c.topmost-number.result q.reads.spelled popped in omega (arith, less)

pub returns-in-Ok : goal.returns-in-Ok
returns-in-Ok c w r h q =
    let st = c.args.memory.now in let s = c.args.state in let slots = c.args.slots.now in
    let popped = two_back s.top slots c.topmost-base.result c.topmost-number.result c.topmost-number.ensures c.topmost-base.ensures in
    let gives = subst (λ y. StoreGives mem_traps.MemoryOutOfBounds st (c.topmost-base.result + c.args.arg.offset) (Rattle.wmem.specs.Bytes.bytes_of (byte_count c.width_of_store.result) c.topmost-number.result) y c.store.new.self) c.in-Ok.is c.store.ensures in
    let stored = subst (λ y. StoreGives mem_traps.MemoryOutOfBounds st (c.topmost-base.result + c.args.arg.offset) (Rattle.wmem.specs.Bytes.bytes_of (byte_count y) c.topmost-number.result) (Ok tt) c.store.new.self) c.width_of_store.ensures gives in
    let on = over_store r.setting (bytes_of r) r.checked r.start h.spent (activation_of s) w (take s.top slots) st.current h.on c.args.op c.args.arg c.args.next (take (s.top - 2) slots) c.topmost-base.result c.topmost-number.result q.within q.spelled popped stored.0 in
    let new = c.store.new.self in
    moved r s w slots st h c.args.next s.cursor (s.top - 2) c.in_ok-left.left 1 slots new (omega arith) c.in_ok-left.ensures.some (subst (λ x. On r.setting (bytes_of r) r.checked r.start (h.spent + 1) (went (activation_of s) c.args.next s.cursor) w (take (s.top - 2) slots) x) (sym (ap (λ (x : StoreState). x.current) stored.1)) on) (let t = h.top in omega (arith, t)) refl (ap (λ (x : StoreState). x.checked) stored.1) (ap (λ (x : StoreState). x.image) stored.1)

pub returns-in-Err : goal.returns-in-Err
returns-in-Err c w r h q =
    let st = c.args.memory.now in let s = c.args.state in let slots = c.args.slots.now in
    let popped = two_back s.top slots c.topmost-base.result c.topmost-number.result c.topmost-number.ensures c.topmost-base.ensures in
    let gives = subst (λ y. StoreGives mem_traps.MemoryOutOfBounds st (c.topmost-base.result + c.args.arg.offset) (Rattle.wmem.specs.Bytes.bytes_of (byte_count c.width_of_store.result) c.topmost-number.result) y c.store.new.self) c.in-Err.is c.store.ensures in
    let stored = subst (λ y. StoreGives mem_traps.MemoryOutOfBounds st (c.topmost-base.result + c.args.arg.offset) (Rattle.wmem.specs.Bytes.bytes_of (byte_count y) c.topmost-number.result) (Err c.in-Err.field-0) c.store.new.self) c.width_of_store.ensures gives in
    let t = over_store_trap r.setting (bytes_of r) r.checked r.start h.spent (activation_of s) w (take s.top slots) st.current h.on c.args.op c.args.arg (drop c.args.next (bytes_of r)) (take (s.top - 2) slots) c.topmost-base.result c.topmost-number.result q.spelled popped stored.0 in
    subst (λ x. Rattle.wmach.specs.inside.Running.Stopped r (Rattle.wmach.specs.declared.state.Stop.TheVariants.Trap MemoryOutOfBounds c.in_ok-left.left) slots x) (sym stored.2) (cut_off r s w slots st h MemoryOutOfBounds c.in_ok-left.left c.in_ok-left.ensures.some t)

pub overflow_sub-result : goal.overflow_sub-result
overflow_sub-result c =
    let w = c.requires.0 in let st = c.args.memory.now in let q = c.requires.1 in let r = q.run in let h = q.at in let s = c.args.state in let slots = c.args.slots.now in
    let o = store_here r.setting (bytes_of r) r.checked r.start h.spent (activation_of s) w (take s.top slots) st.current h.on c.args.op c.args.arg (drop c.args.next (bytes_of r)) q.reads.spelled in two_is s.top (two_there r s w slots st h (value_of (store_type c.args.op) o.number) (value_of I32 o.base) o.others o.values_are)
