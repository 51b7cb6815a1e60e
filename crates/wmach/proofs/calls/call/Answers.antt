use Rattle.std.proofs.Common.{reverse, take, drop, refl, sym, subst, arith}
use Rattle.std.proofs.lemmas.Result.{err_from_is_err_and}
use Rattle.wmach.specs.inside.Running.{bytes_of, activation_of}
use Rattle.wmach.specs.inside.Calling.{Invokes}
use Rattle.wmach.proofs.AcceptedFunctions.{functions_right}
use Rattle.wmach.proofs.Arms.{spent_err}
use Rattle.wmach.proofs.Branching.{paid_state}
use Rattle.wmach.proofs.Invoking.{can_invoke, invokes}
use Rattle.wmach.proofs.OverInvoke.{call_spent, over_call_word}
use Rattle.wmach.proofs.calls.call.Goals as goal

pub invoke-requires-clause-can : goal.invoke-requires-clause-can
invoke-requires-clause-can g c =
    let w = reverse c.args.waiting.now.items in let st = c.args.store.now in let p = c.requires.ready in let coded = c.requires.coded in let r = p.run in let h = p.at in let q = p.reads in let s = c.args.state in let slots = c.args.slots.now in let code = c.args.code.now in
    let k = over_call_word r.setting (bytes_of r) r.checked r.start h.spent (activation_of s) w (take s.top slots) st.current h.on (functions_right r.setting.module_syntax r.accepted) c.args.function c.args.next q.within q.spelled in
    can_invoke r s w slots st h code coded 1 c.args.function c.args.next s.top c.in_ok-left.left k c.args.waiting.now.items refl h.top

pub returns-in_err-left-clause-goes : goal.returns-in_err-left-clause-goes
returns-in_err-left-clause-goes g c r records h q =
    let w = reverse c.args.waiting.now.items in let st = c.args.store.now in let s = c.args.state in let slots = c.args.slots.now in
    let e = err_from_is_err_and c.from_residual.result c.from_residual.ensures.1 in
    spent_err r s w slots st h c.from_residual.result e.0 c.in_err-left.field-0.0 e.1 e.2 c.in_err-left.ensures.none.0 c.in_err-left.ensures.none.1 (call_spent r.setting (bytes_of r) r.checked r.start h.spent (activation_of s) w (take s.top slots) st.current h.on c.args.function (drop c.args.next (bytes_of r)) q.spelled)

pub returns-clause-goes : goal.returns-clause-goes
returns-clause-goes g c r records h q =
    let w = reverse c.args.waiting.now.items in let st = c.args.store.now in let coded = c.requires.coded in let s = c.args.state in let slots = c.args.slots.now in let code = c.args.code.now in
    let k = over_call_word r.setting (bytes_of r) r.checked r.start h.spent (activation_of s) w (take s.top slots) st.current h.on (functions_right r.setting.module_syntax r.accepted) c.args.function c.args.next q.within q.spelled in
    invokes r s w slots st h code coded 1 c.args.function c.args.next s.top c.in_ok-left.left k c.args.waiting.now.items c.invoke.result c.invoke.new.waiting.items c.invoke.new.slots c.invoke.new.store refl c.in_ok-left.ensures.some (omega arith) h.top
    (subst (λ x. Invokes code x c.args.function c.args.next (paid_state r s w slots st h code coded s.top c.in_ok-left.left) c.args.waiting.now.items slots st c.invoke.result c.invoke.new.waiting.items c.invoke.new.slots c.invoke.new.store) (sym records) c.invoke.ensures.invoked)
