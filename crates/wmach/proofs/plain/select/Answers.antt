use Rattle.std.proofs.Common.{length, ◌-◌, ◌<◌, [], ◌∷◌, ◌++◌, take, drop, refl, ap, ◌∙◌, arith}
use Rattle.std.proofs.lemmas.Result.{err_from_is_err_and}
use Rattle.wmach.proofs.Arms.{pushed, spent_err, third_below, three_back}
use Rattle.wmach.proofs.OverVariables.{select_here}
use Rattle.wmach.proofs.Stepping.{operands_there}
use Rattle.wmach.specs.inside.Running.{activation_of, bytes_of}
use Rattle.wmach.proofs.plain.select.Goals as goal

pub returns-in_err-left : goal.returns-in_err-left
returns-in_err-left c w st r h q =
    let s = c.args.state in let slots = c.args.slots.now in
    let e = err_from_is_err_and c.from_residual.result c.from_residual.ensures.1 in
    spent_err r s w slots st h c.from_residual.result e.0 c.in_err-left.field-0.0 e.1 e.2 c.in_err-left.ensures.none.0 c.in_err-left.ensures.none.1 ((select_here r.setting (bytes_of r) r.checked r.start h.spent (activation_of s) w (take s.top slots) st.current h.on (drop c.args.next (bytes_of r)) q.spelled).spent_here)

pub topmost-condition-requires-clause-some : goal.topmost-condition-requires-clause-some
topmost-condition-requires-clause-some c =
    let w = c.requires.0 in let st = c.requires.1 in let q = c.requires.2 in let r = q.run in let h = q.at in let s = c.args.state in let slots = c.args.slots.now in
    let d = select_here r.setting (bytes_of r) r.checked r.start h.spent (activation_of s) w (take s.top slots) st.current h.on (drop c.args.next (bytes_of r)) q.reads.spelled in let deep = d.deep in let t = operands_there r s w slots st h in omega (arith, deep, t)

pub topmost-second-requires-clause-some : goal.topmost-second-requires-clause-some
topmost-second-requires-clause-some c =
    let w = c.requires.0 in let st = c.requires.1 in let q = c.requires.2 in let r = q.run in let h = q.at in let s = c.args.state in let slots = c.args.slots.now in
    let d = select_here r.setting (bytes_of r) r.checked r.start h.spent (activation_of s) w (take s.top slots) st.current h.on (drop c.args.next (bytes_of r)) q.reads.spelled in let deep = d.deep in let t = operands_there r s w slots st h in omega (arith, deep, t)

pub topmost-first-requires-clause-some : goal.topmost-first-requires-clause-some
topmost-first-requires-clause-some c =
    let w = c.requires.0 in let st = c.requires.1 in let q = c.requires.2 in let r = q.run in let h = q.at in let s = c.args.state in let slots = c.args.slots.now in
    let d = select_here r.setting (bytes_of r) r.checked r.start h.spent (activation_of s) w (take s.top slots) st.current h.on (drop c.args.next (bytes_of r)) q.reads.spelled in let deep = d.deep in let t = operands_there r s w slots st h in omega (arith, deep, t)

pub returns : goal.returns
returns c w st r h q =
    let s = c.args.state in let slots = c.args.slots.now in
    let d = select_here r.setting (bytes_of r) r.checked r.start h.spent (activation_of s) w (take s.top slots) st.current h.on (drop c.args.next (bytes_of r)) q.spelled in let deep = d.deep in let t = operands_there r s w slots st h in
    let some : 2 < s.top = omega (arith, deep, t) in
    let popped = three_back s.top slots c.topmost-first.result c.topmost-second.result c.topmost-condition.result c.topmost-condition.ensures c.topmost-second.ensures c.topmost-first.ensures in
    let on = d.goes c.args.next (take (s.top - 3) slots) c.topmost-first.result c.topmost-second.result c.topmost-condition.result q.within q.spelled popped in
    pushed r s w slots st h c.args.next s.cursor c.push-top.result c.in_ok-left.left 1 (Rattle.std.specs.Prelude.if◌then◌else◌ (Rattle.std.specs.Prelude.◌==◌ c.topmost-condition.result 0) c.topmost-second.result c.topmost-first.result) (take (s.top - 3) slots) c.push-top.new.slots st (omega arith) c.in_ok-left.ensures.some on (c.push-top.ensures.slots ∙ ap (λ n. take (s.top - 3) slots ++ n ∷ []) c.chosen_by-chosen.ensures) (omega (arith, c.push-top.ensures.top, c.push-top.ensures.long, some, h.top)) c.push-top.ensures.long refl refl

pub push-top-requires : goal.push-top-requires
push-top-requires c =
    let w = c.requires.0 in let st = c.requires.1 in let q = c.requires.2 in let r = q.run in let h = q.at in let s = c.args.state in let slots = c.args.slots.now in
    let d = select_here r.setting (bytes_of r) r.checked r.start h.spent (activation_of s) w (take s.top slots) st.current h.on (drop c.args.next (bytes_of r)) q.reads.spelled in let deep = d.deep in let t = operands_there r s w slots st h in third_below s.top (length slots) (omega (arith, deep, t)) h.top
