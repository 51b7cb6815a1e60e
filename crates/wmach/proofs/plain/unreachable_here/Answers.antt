use Rattle.std.proofs.Common.{take, drop}
use Rattle.std.proofs.lemmas.Result.{err_from_is_err_and}
use Rattle.wmach.proofs.Arms.{spent_err}
use Rattle.wmach.proofs.OverVariables.{over_unreachable, unreachable_spent}
use Rattle.wmach.proofs.Stepping.{cut_off}
use Rattle.wmach.specs.inside.Running.{activation_of, bytes_of}
use Rattle.rules.specs.declared.trap.Trap.TheVariants.{Unreachable}
use Rattle.wmach.proofs.plain.unreachable_here.Goals as goal

pub returns-in_err-left : goal.returns-in_err-left
returns-in_err-left c w st r h q =
    let s = c.args.state in let slots = c.args.slots.now in
    let e = err_from_is_err_and c.from_residual.result c.from_residual.ensures.1 in
    spent_err r s w slots st h c.from_residual.result e.0 c.in_err-left.field-0.0 e.1 e.2 c.in_err-left.ensures.none.0 c.in_err-left.ensures.none.1 (unreachable_spent r.setting (bytes_of r) r.checked r.start h.spent (activation_of s) w (take s.top slots) st.current h.on (drop c.args.next (bytes_of r)) q.spelled)

pub returns : goal.returns
returns c w st r h q =
    let s = c.args.state in let slots = c.args.slots.now in
    cut_off r s w slots st h Unreachable c.in_ok-left.left c.in_ok-left.ensures.some (over_unreachable r.setting (bytes_of r) r.checked r.start h.spent (activation_of s) w (take s.top slots) st.current h.on (drop c.args.next (bytes_of r)) q.spelled)
