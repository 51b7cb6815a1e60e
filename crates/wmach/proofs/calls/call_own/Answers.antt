use Rattle.std.proofs.Common.{inr, reverse, take, drop, refl, arith}
use Rattle.std.proofs.lemmas.Result.{err_from_is_err_and}
use Rattle.wmach.specs.inside.Running.{bytes_of, activation_of}
use Rattle.wmach.proofs.AcceptedFunctions.{functions_right}
use Rattle.wmach.proofs.Arms.{spent_err}
use Rattle.wmach.proofs.Invoking.{can_invoke, invokes}
use Rattle.wmach.proofs.OverInvoke.{call_spent, over_call_word}
use Rattle.wmach.proofs.calls.call_own.Goals as goal

pub enter-requires-clause-shape : goal.enter-requires-clause-shape
enter-requires-clause-shape c =
    let w = reverse c.args.waiting.now.items in let st = c.requires.ready.0 in let p = c.requires.ready.1 in let coded = c.requires.ready.2 in let r = p.run in let h = p.at in let q = p.reads in let s = c.args.state in let slots = c.args.slots.now in let code = c.args.code.now in
    let k = over_call_word r.setting (bytes_of r) r.checked r.start h.spent (activation_of s) w (take s.top slots) st.current h.on (functions_right r.setting.module_syntax r.accepted) c.args.function c.args.next q.within q.spelled in
    let can = can_invoke r s w slots st h code coded 1 c.args.function c.args.next s.top c.in_ok-left.left k c.args.waiting.now.items refl h.top in
    can.own c.requires.own

pub enter-requires-clause-fits : goal.enter-requires-clause-fits
enter-requires-clause-fits c =
    let w = reverse c.args.waiting.now.items in let st = c.requires.ready.0 in let p = c.requires.ready.1 in let coded = c.requires.ready.2 in let r = p.run in let h = p.at in let q = p.reads in let s = c.args.state in let slots = c.args.slots.now in let code = c.args.code.now in
    let k = over_call_word r.setting (bytes_of r) r.checked r.start h.spent (activation_of s) w (take s.top slots) st.current h.on (functions_right r.setting.module_syntax r.accepted) c.args.function c.args.next q.within q.spelled in
    let can = can_invoke r s w slots st h code coded 1 c.args.function c.args.next s.top c.in_ok-left.left k c.args.waiting.now.items refl h.top in
    λ shape is. can.room shape c.requires.own is

pub returns-in_err-left-clause-goes : goal.returns-in_err-left-clause-goes
returns-in_err-left-clause-goes c st coded r h q =
    let w = reverse c.args.waiting.now.items in let s = c.args.state in let slots = c.args.slots.now in
    let e = err_from_is_err_and c.from_residual.result c.from_residual.ensures.1 in
    spent_err r s w slots st h c.from_residual.result e.0 c.in_err-left.field-0.0 e.1 e.2 c.in_err-left.ensures.none.0 c.in_err-left.ensures.none.1 (call_spent r.setting (bytes_of r) r.checked r.start h.spent (activation_of s) w (take s.top slots) st.current h.on c.args.function (drop c.args.next (bytes_of r)) q.spelled)

pub returns-clause-goes : goal.returns-clause-goes
returns-clause-goes c st coded r h q =
    let w = reverse c.args.waiting.now.items in let s = c.args.state in let slots = c.args.slots.now in let code = c.args.code.now in
    let k = over_call_word r.setting (bytes_of r) r.checked r.start h.spent (activation_of s) w (take s.top slots) st.current h.on (functions_right r.setting.module_syntax r.accepted) c.args.function c.args.next q.within q.spelled in
    invokes r s w slots st h code coded 1 c.args.function c.args.next s.top c.in_ok-left.left k c.args.waiting.now.items c.enter.result c.enter.new.waiting.items c.enter.new.slots st refl c.in_ok-left.ensures.some (omega arith) h.top
    (inr (c.requires.own, refl, c.enter.ensures.entered))
