use Rattle.std.proofs.Common.{◌-◌, ◌^◌, ◌<◌, [], ◌∷◌, length, take, drop, refl, sym, ◌∙◌, subst, arith}
use Rattle.std.proofs.lemmas.Result.{err_from_is_err_and}
use Rattle.wcode.specs.declared.instruction.Plain.TheVariants as plains
use Rattle.wmach.proofs.Arms.{pushed, second_below, spent_err, two_back, two_is, two_some, two_there}
use Rattle.wmach.proofs.OverNumbers.{binary_here, binary_spent, over_binary, over_binary_trap, two_top}
use Rattle.wmach.proofs.Stepping.{cut_off}
use Rattle.wmach.specs.Numeric.{trap_where}
use Rattle.wmach.specs.Operands.{value_of, width_of}
use Rattle.wmach.specs.inside.Running.{activation_of, bytes_of}
use Rattle.wmach.proofs.plain.binary.Goals as goal

pub returns-in_err-left : goal.returns-in_err-left
returns-in_err-left c w st r h q =
    let s = c.args.state in let slots = c.args.slots.now in
    let e = err_from_is_err_and c.from_residual.result c.from_residual.ensures.1 in
    spent_err r s w slots st h c.from_residual.result e.0 c.in_err-left.field-0.0 e.1 e.2 c.in_err-left.ensures.none.0 c.in_err-left.ensures.none.1 (binary_spent r.setting (bytes_of r) r.checked r.start h.spent (activation_of s) w (take s.top slots) st.current h.on c.args.t c.args.op (drop c.args.next (bytes_of r)) q.spelled)

pub topmost-second-requires-clause-some : goal.topmost-second-requires-clause-some
topmost-second-requires-clause-some c =
    let w = c.requires.0 in let st = c.requires.1 in let q = c.requires.2 in let r = q.run in let h = q.at in let s = c.args.state in let slots = c.args.slots.now in
    let o = binary_here r.setting (bytes_of r) r.checked r.start h.spent (activation_of s) w (take s.top slots) st.current h.on c.args.t c.args.op (drop c.args.next (bytes_of r)) q.reads.spelled in let two = two_there r s w slots st h (value_of c.args.t o.second) (value_of c.args.t o.first) o.others o.values_are in omega (arith, two)

pub topmost-first-requires-clause-some : goal.topmost-first-requires-clause-some
topmost-first-requires-clause-some c =
    let w = c.requires.0 in let st = c.requires.1 in let q = c.requires.2 in let r = q.run in let h = q.at in let s = c.args.state in let slots = c.args.slots.now in
    let o = binary_here r.setting (bytes_of r) r.checked r.start h.spent (activation_of s) w (take s.top slots) st.current h.on c.args.t c.args.op (drop c.args.next (bytes_of r)) q.reads.spelled in let two = two_there r s w slots st h (value_of c.args.t o.second) (value_of c.args.t o.first) o.others o.values_are in omega (arith, two)

pub binary_word-requires-clause-first : goal.binary_word-requires-clause-first
binary_word-requires-clause-first c =
    let w = c.requires.0 in let st = c.requires.1 in let q = c.requires.2 in let r = q.run in let h = q.at in let s = c.args.state in let slots = c.args.slots.now in
    let o = binary_here r.setting (bytes_of r) r.checked r.start h.spent (activation_of s) w (take s.top slots) st.current h.on c.args.t c.args.op (drop c.args.next (bytes_of r)) q.reads.spelled in
    let popped = two_back s.top slots c.topmost-first.result c.topmost-second.result c.topmost-second.ensures c.topmost-first.ensures in
    let top = two_top r.setting (bytes_of r) r.checked r.start h.spent (activation_of s) w (take s.top slots) st.current h.on (plains.Binary c.args.t c.args.op) c.args.t (c.args.t ∷ []) o (take (s.top - 2) slots) c.topmost-first.result c.topmost-second.result popped in let fits = o.first_in_range in subst (λ n. n < 2 ^ width_of c.args.t) (sym top.x_is) fits

pub binary_word-requires-clause-second : goal.binary_word-requires-clause-second
binary_word-requires-clause-second c =
    let w = c.requires.0 in let st = c.requires.1 in let q = c.requires.2 in let r = q.run in let h = q.at in let s = c.args.state in let slots = c.args.slots.now in
    let o = binary_here r.setting (bytes_of r) r.checked r.start h.spent (activation_of s) w (take s.top slots) st.current h.on c.args.t c.args.op (drop c.args.next (bytes_of r)) q.reads.spelled in
    let popped = two_back s.top slots c.topmost-first.result c.topmost-second.result c.topmost-second.ensures c.topmost-first.ensures in
    let top = two_top r.setting (bytes_of r) r.checked r.start h.spent (activation_of s) w (take s.top slots) st.current h.on (plains.Binary c.args.t c.args.op) c.args.t (c.args.t ∷ []) o (take (s.top - 2) slots) c.topmost-first.result c.topmost-second.result popped in let fits = o.second_in_range in subst (λ n. n < 2 ^ width_of c.args.t) (sym top.y_is) fits

pub returns-in-Ok : goal.returns-in-Ok
returns-in-Ok c w st r h q =
    let s = c.args.state in let slots = c.args.slots.now in
    let o = binary_here r.setting (bytes_of r) r.checked r.start h.spent (activation_of s) w (take s.top slots) st.current h.on c.args.t c.args.op (drop c.args.next (bytes_of r)) q.spelled in let some = two_there r s w slots st h (value_of c.args.t o.second) (value_of c.args.t o.first) o.others o.values_are in
    let popped = two_back s.top slots c.topmost-first.result c.topmost-second.result c.topmost-second.ensures c.topmost-first.ensures in
    let fits = c.in-Ok.ensures.fits in
    let on = over_binary r.setting (bytes_of r) r.checked r.start h.spent (activation_of s) w (take s.top slots) st.current h.on c.args.t c.args.op c.args.next c.in-Ok.number (take (s.top - 2) slots) c.topmost-first.result c.topmost-second.result q.within q.spelled popped (sym c.binary_word.ensures.gives ∙ c.in-Ok.is) fits in
    pushed r s w slots st h c.args.next s.cursor c.push-top.result c.in_ok-left.left 1 c.in-Ok.number (take (s.top - 2) slots) c.push-top.new.slots st (omega arith) c.in_ok-left.ensures.some on c.push-top.ensures.slots (omega (arith, c.push-top.ensures.top, c.push-top.ensures.long, some, h.top)) c.push-top.ensures.long refl refl

pub returns-in-Err : goal.returns-in-Err
returns-in-Err c w st r h q =
    let s = c.args.state in let slots = c.args.slots.now in
    let popped = two_back s.top slots c.topmost-first.result c.topmost-second.result c.topmost-second.ensures c.topmost-first.ensures in
    let t = over_binary_trap r.setting (bytes_of r) r.checked r.start h.spent (activation_of s) w (take s.top slots) st.current h.on c.args.t c.args.op (drop c.args.next (bytes_of r)) (take (s.top - 2) slots) c.topmost-first.result c.topmost-second.result c.in-Err.undefined q.spelled popped (sym c.binary_word.ensures.gives ∙ c.in-Err.is) in
    subst (λ y. Rattle.wmach.specs.inside.Running.Stopped r (Rattle.wmach.specs.declared.state.Stop.TheVariants.Trap y c.in_ok-left.left) slots st) (sym c.trap_where.ensures) (cut_off r s w slots st h (trap_where c.in-Err.undefined) c.in_ok-left.left c.in_ok-left.ensures.some t)

pub push-top-requires : goal.push-top-requires
push-top-requires c =
    let w = c.requires.0 in let st = c.requires.1 in let q = c.requires.2 in let r = q.run in let h = q.at in let s = c.args.state in let slots = c.args.slots.now in
    let o = binary_here r.setting (bytes_of r) r.checked r.start h.spent (activation_of s) w (take s.top slots) st.current h.on c.args.t c.args.op (drop c.args.next (bytes_of r)) q.reads.spelled in second_below s.top (length slots) (two_there r s w slots st h (value_of c.args.t o.second) (value_of c.args.t o.first) o.others o.values_are) h.top

pub overflow_sub-state : goal.overflow_sub-state
overflow_sub-state c =
    let w = c.requires.0 in let st = c.requires.1 in let q = c.requires.2 in let r = q.run in let h = q.at in let s = c.args.state in let slots = c.args.slots.now in
    let o = binary_here r.setting (bytes_of r) r.checked r.start h.spent (activation_of s) w (take s.top slots) st.current h.on c.args.t c.args.op (drop c.args.next (bytes_of r)) q.reads.spelled in two_some s.top (two_there r s w slots st h (value_of c.args.t o.second) (value_of c.args.t o.first) o.others o.values_are)

pub overflow_sub-state-in-Ok : goal.overflow_sub-state-in-Ok
overflow_sub-state-in-Ok c =
    let w = c.requires.0 in let st = c.requires.1 in let q = c.requires.2 in let r = q.run in let h = q.at in let s = c.args.state in let slots = c.args.slots.now in
    let o = binary_here r.setting (bytes_of r) r.checked r.start h.spent (activation_of s) w (take s.top slots) st.current h.on c.args.t c.args.op (drop c.args.next (bytes_of r)) q.reads.spelled in two_is s.top (two_there r s w slots st h (value_of c.args.t o.second) (value_of c.args.t o.first) o.others o.values_are)
