use Rattle.std.proofs.Common.{◌+◌, ◌-◌, length, take, drop, refl, sym, ap, ◌∙◌, subst, arith}
use Rattle.std.proofs.lemmas.Result.{err_from_is_err_and}
use Rattle.wmach.proofs.Arms.{length_set, moved, spent_err, written_in_use}
use Rattle.wmach.proofs.MachineSteps.{went}
use Rattle.wmach.proofs.OverVariables.{set_here}
use Rattle.wmach.proofs.Stepping.{used_long}
use Rattle.wmach.specs.inside.Machine.{On}
use Rattle.wmach.specs.inside.Running.{activation_of, bytes_of}
use Rattle.wmach.proofs.plain.local_set.Goals as goal

pub returns-in_err-left : goal.returns-in_err-left
returns-in_err-left c w st r h q =
    let s = c.args.state in let slots = c.args.slots.now in
    let e = err_from_is_err_and c.from_residual.result c.from_residual.ensures.1 in
    spent_err r s w slots st h c.from_residual.result e.0 c.in_err-left.field-0.0 e.1 e.2 c.in_err-left.ensures.none.0 c.in_err-left.ensures.none.1 ((set_here r.setting (bytes_of r) r.checked r.start h.spent (activation_of s) w (take s.top slots) st.current h.on c.args.x (drop c.args.next (bytes_of r)) q.spelled).spent_here)

pub topmost-number-requires-clause-some : goal.topmost-number-requires-clause-some
topmost-number-requires-clause-some c =
    let w = c.requires.0 in let st = c.requires.1 in let q = c.requires.2 in let r = q.run in let h = q.at in let s = c.args.state in let slots = c.args.slots.now in
    let g = set_here r.setting (bytes_of r) r.checked r.start h.spent (activation_of s) w (take s.top slots) st.current h.on c.args.x (drop c.args.next (bytes_of r)) q.reads.spelled in let less = g.less in let used = used_long r s w slots st h in
    omega (arith, less, used)

pub write_slot-requires : goal.write_slot-requires
write_slot-requires c =
    let w = c.requires.0 in let st = c.requires.1 in let q = c.requires.2 in let r = q.run in let h = q.at in let s = c.args.state in let slots = c.args.slots.now in
    let g = set_here r.setting (bytes_of r) r.checked r.start h.spent (activation_of s) w (take s.top slots) st.current h.on c.args.x (drop c.args.next (bytes_of r)) q.reads.spelled in let less = g.less in let used = used_long r s w slots st h in
    let t = h.top in omega (arith, less, used, t)

pub returns : goal.returns
returns c w st r h q =
    let s = c.args.state in let slots = c.args.slots.now in
    let g = set_here r.setting (bytes_of r) r.checked r.start h.spent (activation_of s) w (take s.top slots) st.current h.on c.args.x (drop c.args.next (bytes_of r)) q.spelled in let less = g.less in let used = used_long r s w slots st h in
    let on = g.goes c.args.next (take (s.top - 1) slots) c.topmost-number.result q.within q.spelled c.topmost-number.ensures in
    let now = ap (λ l. take (s.top - 1) l) c.write_slot.ensures ∙ written_in_use (s.top - 1) (s.base + c.args.x) slots c.topmost-number.result in
    let long = ap length c.write_slot.ensures ∙ length_set slots (s.base + c.args.x) c.topmost-number.result in
    moved r s w slots st h c.args.next s.cursor (s.top - 1) c.in_ok-left.left 1 c.write_slot.new.slots st (omega arith) c.in_ok-left.ensures.some (subst (λ l. On r.setting (bytes_of r) r.checked r.start (h.spent + 1) (went (activation_of s) c.args.next s.cursor) w l st.current) (sym now) on) (let t = h.top in omega (arith, t, long)) long refl refl

pub overflow_add-state : goal.overflow_add-state
overflow_add-state c =
    let w = c.requires.0 in let st = c.requires.1 in let q = c.requires.2 in let r = q.run in let h = q.at in let s = c.args.state in let slots = c.args.slots.now in
    let g = set_here r.setting (bytes_of r) r.checked r.start h.spent (activation_of s) w (take s.top slots) st.current h.on c.args.x (drop c.args.next (bytes_of r)) q.reads.spelled in let less = g.less in let used = used_long r s w slots st h in
    let t = h.top in omega (arith, less, used, t)
