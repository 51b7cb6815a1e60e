use Rattle.std.proofs.Common.{◌-◌, ◌^◌, ◌<◌, [], ◌∷◌, length, take, drop, refl, sym, subst, arith}
use Rattle.std.proofs.lemmas.Result.{err_from_is_err_and}
use Rattle.wcode.specs.declared.instruction.Plain.TheVariants as plains
use Rattle.wmach.proofs.Arms.{one_there, pushed, some_is, spent_err, top_below}
use Rattle.wmach.proofs.OverNumbers.{one_top, over_unary, unary_here, unary_spent}
use Rattle.wmach.specs.Operands.{value_of, width_of}
use Rattle.wmach.specs.inside.Running.{activation_of, bytes_of}
use Rattle.wmach.proofs.plain.unary.Goals as goal

pub returns-in_err-left : goal.returns-in_err-left
returns-in_err-left c w st r h q =
    let s = c.args.state in let slots = c.args.slots.now in
    let e = err_from_is_err_and c.from_residual.result c.from_residual.ensures.1 in
    spent_err r s w slots st h c.from_residual.result e.0 c.in_err-left.field-0.0 e.1 e.2 c.in_err-left.ensures.none.0 c.in_err-left.ensures.none.1 (unary_spent r.setting (bytes_of r) r.checked r.start h.spent (activation_of s) w (take s.top slots) st.current h.on c.args.t c.args.op (drop c.args.next (bytes_of r)) q.spelled)

pub topmost-number-requires-clause-some : goal.topmost-number-requires-clause-some
topmost-number-requires-clause-some c =
    let w = c.requires.0 in let st = c.requires.1 in let q = c.requires.2 in let r = q.run in let h = q.at in let s = c.args.state in let slots = c.args.slots.now in
    let o = unary_here r.setting (bytes_of r) r.checked r.start h.spent (activation_of s) w (take s.top slots) st.current h.on c.args.t c.args.op (drop c.args.next (bytes_of r)) q.reads.spelled in one_there r s w slots st h (value_of (c.args.t) o.number) o.others o.values_are

pub unary_word-requires : goal.unary_word-requires
unary_word-requires c =
    let w = c.requires.0 in let st = c.requires.1 in let q = c.requires.2 in let r = q.run in let h = q.at in let s = c.args.state in let slots = c.args.slots.now in
    let o = unary_here r.setting (bytes_of r) r.checked r.start h.spent (activation_of s) w (take s.top slots) st.current h.on c.args.t c.args.op (drop c.args.next (bytes_of r)) q.reads.spelled in
    let top = one_top r.setting (bytes_of r) r.checked r.start h.spent (activation_of s) w (take s.top slots) st.current h.on (plains.Unary c.args.t c.args.op) (c.args.t) (c.args.t ∷ []) o (take (s.top - 1) slots) c.topmost-number.result c.topmost-number.ensures in
    let fits = o.in_range in subst (λ n. n < 2 ^ width_of (c.args.t)) (sym top) fits

pub returns : goal.returns
returns c w st r h q =
    let s = c.args.state in let slots = c.args.slots.now in
    let o = unary_here r.setting (bytes_of r) r.checked r.start h.spent (activation_of s) w (take s.top slots) st.current h.on c.args.t c.args.op (drop c.args.next (bytes_of r)) q.spelled in let some = one_there r s w slots st h (value_of (c.args.t) o.number) o.others o.values_are in
    let on = over_unary r.setting (bytes_of r) r.checked r.start h.spent (activation_of s) w (take s.top slots) st.current h.on c.args.t c.args.op c.args.next c.unary_word.result (take (s.top - 1) slots) c.topmost-number.result q.within q.spelled c.topmost-number.ensures c.unary_word.ensures.gives c.unary_word.ensures.fits in
    pushed r s w slots st h c.args.next s.cursor c.push-top.result c.in_ok-left.left 1 c.unary_word.result (take (s.top - 1) slots) c.push-top.new.slots st (omega arith) c.in_ok-left.ensures.some on c.push-top.ensures.slots (omega (arith, c.push-top.ensures.top, c.push-top.ensures.long, some, h.top)) c.push-top.ensures.long refl refl

pub push-top-requires : goal.push-top-requires
push-top-requires c =
    let w = c.requires.0 in let st = c.requires.1 in let q = c.requires.2 in let r = q.run in let h = q.at in let s = c.args.state in let slots = c.args.slots.now in
    let o = unary_here r.setting (bytes_of r) r.checked r.start h.spent (activation_of s) w (take s.top slots) st.current h.on c.args.t c.args.op (drop c.args.next (bytes_of r)) q.reads.spelled in top_below s.top (length slots) (one_there r s w slots st h (value_of (c.args.t) o.number) o.others o.values_are) h.top

pub overflow_sub-state : goal.overflow_sub-state
overflow_sub-state c =
    let w = c.requires.0 in let st = c.requires.1 in let q = c.requires.2 in let r = q.run in let h = q.at in let s = c.args.state in let slots = c.args.slots.now in
    let o = unary_here r.setting (bytes_of r) r.checked r.start h.spent (activation_of s) w (take s.top slots) st.current h.on c.args.t c.args.op (drop c.args.next (bytes_of r)) q.reads.spelled in some_is s.top (one_there r s w slots st h (value_of (c.args.t) o.number) o.others o.values_are)
