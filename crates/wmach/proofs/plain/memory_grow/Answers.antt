use Rattle.std.proofs.Common.{◌+◌, ◌-◌, ◌^◌, ◌<◌, ◌≤◌, [], ◌∷◌, ◌++◌, length, take, drop, sym, ap, subst, arith}
use Rattle.std.proofs.lemmas.Result.{err_from_is_err_and}
use Rattle.wcode.specs.declared.instruction.Plain.TheVariants as plains
use Rattle.wcode.specs.declared.value.ValueType.TheVariants.{I32}
use Rattle.wmach.proofs.Arms.{one_there, pushed, same_module, some_is, spent_err, top_below}
use Rattle.wmach.proofs.MachineSteps.{went}
use Rattle.wmach.proofs.OverMemory.{grow_here, grow_spent, over_grow, over_grow_fails}
use Rattle.wmach.proofs.OverNumbers.{one_top}
use Rattle.wmach.specs.Access.{cap_of}
use Rattle.wmach.specs.inside.Machine.{On}
use Rattle.wmach.specs.Operands.{value_of}
use Rattle.wmach.specs.inside.Running.{activation_of, bytes_of}
use Rattle.wmem.specs.Memory.{pages_in}
use Rattle.wstore.specs.State.{GrowthGives, StoreState}
use Rattle.wmach.proofs.plain.memory_grow.Goals as goal

pub returns-in_err-left : goal.returns-in_err-left
returns-in_err-left c w r h q =
    let st = c.args.store.now in let s = c.args.state in let slots = c.args.slots.now in
    let e = err_from_is_err_and c.from_residual.result c.from_residual.ensures.1 in
    spent_err r s w slots st h c.from_residual.result e.0 c.in_err-left.field-0.0 e.1 e.2 c.in_err-left.ensures.none.0 c.in_err-left.ensures.none.1 (grow_spent r.setting (bytes_of r) r.checked r.start h.spent (activation_of s) w (take s.top slots) st.current h.on (drop c.args.next (bytes_of r)) q.spelled)

pub topmost-delta-requires-clause-some : goal.topmost-delta-requires-clause-some
topmost-delta-requires-clause-some c =
    let w = c.requires.0 in let st = c.args.store.now in let q = c.requires.1 in let r = q.run in let h = q.at in let s = c.args.state in let slots = c.args.slots.now in
    let o = grow_here r.setting (bytes_of r) r.checked r.start h.spent (activation_of s) w (take s.top slots) st.current h.on (drop c.args.next (bytes_of r)) q.reads.spelled in let some = one_there r s w slots st h (value_of I32 o.number) o.others o.values_are in
    some

pub overflow_cast-delta : goal.overflow_cast-delta
overflow_cast-delta c =
    let w = c.requires.0 in let st = c.args.store.now in let q = c.requires.1 in let r = q.run in let h = q.at in let s = c.args.state in let slots = c.args.slots.now in
    let o = grow_here r.setting (bytes_of r) r.checked r.start h.spent (activation_of s) w (take s.top slots) st.current h.on (drop c.args.next (bytes_of r)) q.reads.spelled in let some = one_there r s w slots st h (value_of I32 o.number) o.others o.values_are in
    let top = one_top r.setting (bytes_of r) r.checked r.start h.spent (activation_of s) w (take s.top slots) st.current h.on plains.MemoryGrow I32 (I32 ∷ []) o (take (s.top - 1) slots) c.topmost-delta.result c.topmost-delta.ensures in let fits = o.in_range in let less : c.topmost-delta.result < 2 ^ 32 = subst (λ n. n < 2 ^ 32) (sym top) fits in omega (arith, less)

pub returns-in-Some : goal.returns-in-Some
returns-in-Some c w r h q =
    let st = c.args.store.now in let s = c.args.state in let slots = c.args.slots.now in
    let o = grow_here r.setting (bytes_of r) r.checked r.start h.spent (activation_of s) w (take s.top slots) st.current h.on (drop c.args.next (bytes_of r)) q.spelled in let some = one_there r s w slots st h (value_of I32 o.number) o.others o.values_are in
    let grew = subst (λ y. GrowthGives st c.topmost-delta.result y c.grow.new.self) c.in-Some.is c.grow.ensures in
    let new = c.grow.new.self in let m = same_module r s w slots st h in
    let on = over_grow r.setting (bytes_of r) r.checked r.start h.spent (activation_of s) w (take s.top slots) st.current h.on c.args.next c.in-Some.pages (take (s.top - 1) slots) c.topmost-delta.result q.within q.spelled c.topmost-delta.ensures (subst (λ x. pages_in st.current.memory + c.topmost-delta.result ≤ cap_of x.memories) m grew.0) grew.1 in
    let current = ap (λ (x : StoreState). x.current) grew.2 in let checked = ap (λ (x : StoreState). x.checked) grew.2 in let image = ap (λ (x : StoreState). x.image) grew.2 in
    pushed r s w slots st h c.args.next s.cursor c.push-top.result c.in_ok-left.left 1 c.in-Some.pages (take (s.top - 1) slots) c.push-top.new.slots new (omega arith) c.in_ok-left.ensures.some (subst (λ x. On r.setting (bytes_of r) r.checked r.start (h.spent + 1) (went (activation_of s) c.args.next s.cursor) w (take (s.top - 1) slots ++ c.in-Some.pages ∷ []) x) (sym current) on) c.push-top.ensures.slots (omega (arith, c.push-top.ensures.top, c.push-top.ensures.long, some, h.top)) c.push-top.ensures.long checked image

pub returns-in-None : goal.returns-in-None
returns-in-None c w r h q =
    let st = c.args.store.now in let s = c.args.state in let slots = c.args.slots.now in
    let o = grow_here r.setting (bytes_of r) r.checked r.start h.spent (activation_of s) w (take s.top slots) st.current h.on (drop c.args.next (bytes_of r)) q.spelled in let some = one_there r s w slots st h (value_of I32 o.number) o.others o.values_are in
    let grew = subst (λ y. GrowthGives st c.topmost-delta.result y c.grow.new.self) c.in-None.is c.grow.ensures in
    let new = c.grow.new.self in let m = same_module r s w slots st h in
    let on = over_grow_fails r.setting (bytes_of r) r.checked r.start h.spent (activation_of s) w (take s.top slots) st.current h.on c.args.next (take (s.top - 1) slots) c.topmost-delta.result q.within q.spelled c.topmost-delta.ensures (subst (λ x. cap_of x.memories < pages_in st.current.memory + c.topmost-delta.result) m grew.0) in
    let current = ap (λ (x : StoreState). x.current) grew.1 in let checked = ap (λ (x : StoreState). x.checked) grew.1 in let image = ap (λ (x : StoreState). x.image) grew.1 in
    pushed r s w slots st h c.args.next s.cursor c.push-top-in-None.result c.in_ok-left.left 1 4294967295 (take (s.top - 1) slots) c.push-top-in-None.new.slots new (omega arith) c.in_ok-left.ensures.some (subst (λ x. On r.setting (bytes_of r) r.checked r.start (h.spent + 1) (went (activation_of s) c.args.next s.cursor) w (take (s.top - 1) slots ++ 4294967295 ∷ []) x) (sym current) on) c.push-top-in-None.ensures.slots (omega (arith, c.push-top-in-None.ensures.top, c.push-top-in-None.ensures.long, some, h.top)) c.push-top-in-None.ensures.long checked image

pub push-top-requires : goal.push-top-requires
push-top-requires c =
    let w = c.requires.0 in let st = c.args.store.now in let q = c.requires.1 in let r = q.run in let h = q.at in let s = c.args.state in let slots = c.args.slots.now in
    let o = grow_here r.setting (bytes_of r) r.checked r.start h.spent (activation_of s) w (take s.top slots) st.current h.on (drop c.args.next (bytes_of r)) q.reads.spelled in top_below s.top (length slots) (one_there r s w slots st h (value_of I32 o.number) o.others o.values_are) h.top

pub push-top-requires-in-None : goal.push-top-requires-in-None
push-top-requires-in-None c =
    let w = c.requires.0 in let st = c.args.store.now in let q = c.requires.1 in let r = q.run in let h = q.at in let s = c.args.state in let slots = c.args.slots.now in
    let o = grow_here r.setting (bytes_of r) r.checked r.start h.spent (activation_of s) w (take s.top slots) st.current h.on (drop c.args.next (bytes_of r)) q.reads.spelled in top_below s.top (length slots) (one_there r s w slots st h (value_of I32 o.number) o.others o.values_are) h.top

pub overflow_sub-state : goal.overflow_sub-state
overflow_sub-state c =
    let w = c.requires.0 in let st = c.args.store.now in let q = c.requires.1 in let r = q.run in let h = q.at in let s = c.args.state in let slots = c.args.slots.now in
    let o = grow_here r.setting (bytes_of r) r.checked r.start h.spent (activation_of s) w (take s.top slots) st.current h.on (drop c.args.next (bytes_of r)) q.reads.spelled in some_is s.top (one_there r s w slots st h (value_of I32 o.number) o.others o.values_are)

pub overflow_sub-state-in-None : goal.overflow_sub-state-in-None
overflow_sub-state-in-None c =
    let w = c.requires.0 in let st = c.args.store.now in let q = c.requires.1 in let r = q.run in let h = q.at in let s = c.args.state in let slots = c.args.slots.now in
    let o = grow_here r.setting (bytes_of r) r.checked r.start h.spent (activation_of s) w (take s.top slots) st.current h.on (drop c.args.next (bytes_of r)) q.reads.spelled in some_is s.top (one_there r s w slots st h (value_of I32 o.number) o.others o.values_are)
