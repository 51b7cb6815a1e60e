use Rattle.std.proofs.Common.{◌+◌, ◌-◌, ◌^◌, ◌<◌, [], ◌∷◌, Ok, Err, length, take, drop, refl, sym, subst, arith}
use Rattle.std.proofs.lemmas.Result.{err_from_is_err_and}
use Rattle.wcode.specs.Operators.{load_type}
use Rattle.wcode.specs.declared.instruction.Plain.TheVariants as plains
use Rattle.wcode.specs.declared.value.ValueType.TheVariants.{I32}
use Rattle.wmach.proofs.Arms.{one_there, pushed, some_is, spent_err, top_below}
use Rattle.wmach.proofs.OverMemory.{load_here, load_spent, over_load, over_load_trap}
use Rattle.wmach.proofs.OverNumbers.{one_top}
use Rattle.wmach.proofs.Stepping.{cut_off}
use Rattle.wmach.specs.Operands.{value_of}
use Rattle.wmach.specs.inside.Running.{activation_of, bytes_of}
use Rattle.rules.specs.declared.trap.Trap.TheVariants.{MemoryOutOfBounds}
use Rattle.wmem.specs.Access.{LoadGives}
use Rattle.wmach.proofs.plain.load.Goals as goal

pub returns-in_err-left : goal.returns-in_err-left
returns-in_err-left c w r h q =
    let st = c.args.store.now in let s = c.args.state in let slots = c.args.slots.now in
    let e = err_from_is_err_and c.from_residual.result c.from_residual.ensures.1 in
    spent_err r s w slots st h c.from_residual.result e.0 c.in_err-left.field-0.0 e.1 e.2 c.in_err-left.ensures.none.0 c.in_err-left.ensures.none.1 (load_spent r.setting (bytes_of r) r.checked r.start h.spent (activation_of s) w (take s.top slots) st.current h.on c.args.op c.args.arg (drop c.args.next (bytes_of r)) q.spelled)

pub topmost-base-requires-clause-some : goal.topmost-base-requires-clause-some
topmost-base-requires-clause-some c =
    let w = c.requires.0 in let st = c.args.store.now in let q = c.requires.1 in let r = q.run in let h = q.at in let s = c.args.state in let slots = c.args.slots.now in
    let o = load_here r.setting (bytes_of r) r.checked r.start h.spent (activation_of s) w (take s.top slots) st.current h.on c.args.op c.args.arg (drop c.args.next (bytes_of r)) q.reads.spelled in let some = one_there r s w slots st h (value_of I32 o.number) o.others o.values_are in
    some

pub overflow_cast-base : goal.overflow_cast-base
overflow_cast-base c =
    let w = c.requires.0 in let st = c.args.store.now in let q = c.requires.1 in let r = q.run in let h = q.at in let s = c.args.state in let slots = c.args.slots.now in
    let o = load_here r.setting (bytes_of r) r.checked r.start h.spent (activation_of s) w (take s.top slots) st.current h.on c.args.op c.args.arg (drop c.args.next (bytes_of r)) q.reads.spelled in let some = one_there r s w slots st h (value_of I32 o.number) o.others o.values_are in
    let top = one_top r.setting (bytes_of r) r.checked r.start h.spent (activation_of s) w (take s.top slots) st.current h.on (plains.Load c.args.op c.args.arg) I32 (load_type c.args.op ∷ []) o (take (s.top - 1) slots) c.topmost-base.result c.topmost-base.ensures in let fits = o.in_range in let less : c.topmost-base.result < 2 ^ 32 = subst (λ n. n < 2 ^ 32) (sym top) fits in omega (arith, less)

pub returns-in-Ok : goal.returns-in-Ok
returns-in-Ok c w r h q =
    let st = c.args.store.now in let s = c.args.state in let slots = c.args.slots.now in
    let o = load_here r.setting (bytes_of r) r.checked r.start h.spent (activation_of s) w (take s.top slots) st.current h.on c.args.op c.args.arg (drop c.args.next (bytes_of r)) q.spelled in let some = one_there r s w slots st h (value_of I32 o.number) o.others o.values_are in
    let gives = subst (λ y. LoadGives c.load_of.result st.current.memory (c.topmost-base.result + c.args.arg.offset) y) c.in-Ok.is c.load.ensures.value in
    let loaded = subst (λ y. LoadGives y st.current.memory (c.topmost-base.result + c.args.arg.offset) (Ok c.in-Ok.number)) c.load_of.ensures gives in
    let on = over_load r.setting (bytes_of r) r.checked r.start h.spent (activation_of s) w (take s.top slots) st.current h.on c.args.op c.args.arg c.args.next c.in-Ok.number (take (s.top - 1) slots) c.topmost-base.result q.within q.spelled c.topmost-base.ensures loaded.0 loaded.1 in
    pushed r s w slots st h c.args.next s.cursor c.push-top.result c.in_ok-left.left 1 c.in-Ok.number (take (s.top - 1) slots) c.push-top.new.slots st (omega arith) c.in_ok-left.ensures.some on c.push-top.ensures.slots (omega (arith, c.push-top.ensures.top, c.push-top.ensures.long, some, h.top)) c.push-top.ensures.long refl refl

pub returns-in-Err : goal.returns-in-Err
returns-in-Err c w r h q =
    let st = c.args.store.now in let s = c.args.state in let slots = c.args.slots.now in
    let o = load_here r.setting (bytes_of r) r.checked r.start h.spent (activation_of s) w (take s.top slots) st.current h.on c.args.op c.args.arg (drop c.args.next (bytes_of r)) q.spelled in let some = one_there r s w slots st h (value_of I32 o.number) o.others o.values_are in
    let gives = subst (λ y. LoadGives c.load_of.result st.current.memory (c.topmost-base.result + c.args.arg.offset) y) c.in-Err.is c.load.ensures.value in
    let failed = subst (λ y. LoadGives y st.current.memory (c.topmost-base.result + c.args.arg.offset) (Err c.in-Err.field-0)) c.load_of.ensures gives in
    let t = over_load_trap r.setting (bytes_of r) r.checked r.start h.spent (activation_of s) w (take s.top slots) st.current h.on c.args.op c.args.arg (drop c.args.next (bytes_of r)) (take (s.top - 1) slots) c.topmost-base.result q.spelled c.topmost-base.ensures failed.0 in
    cut_off r s w slots st h MemoryOutOfBounds c.in_ok-left.left c.in_ok-left.ensures.some t

pub push-top-requires : goal.push-top-requires
push-top-requires c =
    let w = c.requires.0 in let st = c.args.store.now in let q = c.requires.1 in let r = q.run in let h = q.at in let s = c.args.state in let slots = c.args.slots.now in
    let o = load_here r.setting (bytes_of r) r.checked r.start h.spent (activation_of s) w (take s.top slots) st.current h.on c.args.op c.args.arg (drop c.args.next (bytes_of r)) q.reads.spelled in top_below s.top (length slots) (one_there r s w slots st h (value_of I32 o.number) o.others o.values_are) h.top

pub overflow_sub-state : goal.overflow_sub-state
overflow_sub-state c =
    let w = c.requires.0 in let st = c.args.store.now in let q = c.requires.1 in let r = q.run in let h = q.at in let s = c.args.state in let slots = c.args.slots.now in
    let o = load_here r.setting (bytes_of r) r.checked r.start h.spent (activation_of s) w (take s.top slots) st.current h.on c.args.op c.args.arg (drop c.args.next (bytes_of r)) q.reads.spelled in some_is s.top (one_there r s w slots st h (value_of I32 o.number) o.others o.values_are)
