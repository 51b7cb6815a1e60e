use Rattle.std.proofs.Common.{◌-◌, take, drop, refl, arith}
use Rattle.std.proofs.lemmas.Result.{err_from_is_err_and}
use Rattle.wmach.proofs.Arms.{moved, one_there, spent_err}
use Rattle.wmach.proofs.OverVariables.{drop_here, drop_spent, over_drop}
use Rattle.wmach.specs.inside.Running.{activation_of, bytes_of}
use Rattle.wmach.proofs.plain.drop_one.Goals as goal

pub returns-in_err-left : goal.returns-in_err-left
returns-in_err-left c w st r h q =
    let s = c.args.state in let slots = c.args.slots.now in
    let e = err_from_is_err_and c.from_residual.result c.from_residual.ensures.1 in
    spent_err r s w slots st h c.from_residual.result e.0 c.in_err-left.field-0.0 e.1 e.2 c.in_err-left.ensures.none.0 c.in_err-left.ensures.none.1 (drop_spent r.setting (bytes_of r) r.checked r.start h.spent (activation_of s) w (take s.top slots) st.current h.on (drop c.args.next (bytes_of r)) q.spelled)

pub topmost-dropped-requires-clause-some : goal.topmost-dropped-requires-clause-some
topmost-dropped-requires-clause-some c =
    let w = c.requires.0 in let st = c.requires.1 in let q = c.requires.2 in let r = q.run in let h = q.at in let s = c.args.state in let slots = c.args.slots.now in
    let d = drop_here r.setting (bytes_of r) r.checked r.start h.spent (activation_of s) w (take s.top slots) st.current h.on (drop c.args.next (bytes_of r)) q.reads.spelled in one_there r s w slots st h d.top d.others d.values_are

pub returns : goal.returns
returns c w st r h q =
    let s = c.args.state in let slots = c.args.slots.now in
    moved r s w slots st h c.args.next s.cursor (s.top - 1) c.in_ok-left.left 1 slots st (omega arith) c.in_ok-left.ensures.some (over_drop r.setting (bytes_of r) r.checked r.start h.spent (activation_of s) w (take s.top slots) st.current h.on c.args.next (take (s.top - 1) slots) c.topmost-dropped.result q.within q.spelled c.topmost-dropped.ensures) (let t = h.top in omega (arith, t)) refl refl refl
