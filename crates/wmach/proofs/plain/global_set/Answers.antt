use Rattle.std.proofs.Common.{◌≡◌, ◌+◌, ◌-◌, take, drop, refl, sym, ap, ◌∙◌, subst, arith}
use Rattle.std.proofs.lemmas.Result.{err_from_is_err_and}
use Rattle.std.specs.Prelude.{slice_set}
use Rattle.wmach.proofs.Arms.{moved, spent_err}
use Rattle.wmach.proofs.MachineSteps.{went}
use Rattle.wmach.proofs.OverGlobals.{global_set_here, here_within, number_fits, set_by_number}
use Rattle.wmach.proofs.Stepping.{operands_there}
use Rattle.wmach.specs.inside.Machine.{On}
use Rattle.wmach.specs.Operands.{value_of}
use Rattle.wmach.specs.inside.Running.{activation_of, bytes_of}
use Rattle.wstore.specs.State.{StoreState}
use Rattle.wmach.proofs.plain.global_set.Goals as goal

pub returns-in_err-left : goal.returns-in_err-left
returns-in_err-left c w r h q =
    let st = c.args.store.now in let s = c.args.state in let slots = c.args.slots.now in
    let e = err_from_is_err_and c.from_residual.result c.from_residual.ensures.1 in
    spent_err r s w slots st h c.from_residual.result e.0 c.in_err-left.field-0.0 e.1 e.2 c.in_err-left.ensures.none.0 c.in_err-left.ensures.none.1 ((global_set_here r.setting (bytes_of r) r.checked r.start h.spent (activation_of s) w (take s.top slots) st.current h.on c.args.x (drop c.args.next (bytes_of r)) q.spelled).spent_here)

pub topmost-number-requires-clause-some : goal.topmost-number-requires-clause-some
topmost-number-requires-clause-some c =
    let w = c.requires.0 in let st = c.args.store.now in let q = c.requires.1 in let r = q.run in let h = q.at in let s = c.args.state in let slots = c.args.slots.now in
    let g = global_set_here r.setting (bytes_of r) r.checked r.start h.spent (activation_of s) w (take s.top slots) st.current h.on c.args.x (drop c.args.next (bytes_of r)) q.reads.spelled in
    let deep = g.deep in let t = operands_there r s w slots st h in omega (arith, deep, t)

pub set_global-requires-clause-there : goal.set_global-requires-clause-there
set_global-requires-clause-there c =
    let w = c.requires.0 in let st = c.args.store.now in let q = c.requires.1 in let r = q.run in let h = q.at in let s = c.args.state in let slots = c.args.slots.now in
    let g = global_set_here r.setting (bytes_of r) r.checked r.start h.spent (activation_of s) w (take s.top slots) st.current h.on c.args.x (drop c.args.next (bytes_of r)) q.reads.spelled in
    here_within r.setting.module_syntax st.current c.args.x g.kind g.here

pub set_global-requires-clause-in_range : goal.set_global-requires-clause-in_range
set_global-requires-clause-in_range c =
    let w = c.requires.0 in let st = c.args.store.now in let q = c.requires.1 in let r = q.run in let h = q.at in let s = c.args.state in let slots = c.args.slots.now in
    let g = global_set_here r.setting (bytes_of r) r.checked r.start h.spent (activation_of s) w (take s.top slots) st.current h.on c.args.x (drop c.args.next (bytes_of r)) q.reads.spelled in
    number_fits r.setting.module_syntax st.current c.args.x g.kind g.here c.topmost-number.result (g.in_range (take (s.top - 1) slots) c.topmost-number.result c.topmost-number.ensures)

pub returns : goal.returns
returns c w r h q =
    let st = c.args.store.now in let s = c.args.state in let slots = c.args.slots.now in
    let g = global_set_here r.setting (bytes_of r) r.checked r.start h.spent (activation_of s) w (take s.top slots) st.current h.on c.args.x (drop c.args.next (bytes_of r)) q.spelled in
    let on = g.goes c.args.next (take (s.top - 1) slots) c.topmost-number.result q.within q.spelled c.topmost-number.ensures in
    let new = c.set_global.new.self in
    let same : new.current ≡ record st.current { globals = slice_set st.current.globals c.args.x (value_of g.kind.value c.topmost-number.result) } = ap (λ (x : StoreState). x.current) c.set_global.ensures ∙ ap (λ l. record st.current { globals = l }) (set_by_number r.setting.module_syntax st.current c.args.x g.kind g.here c.topmost-number.result) in
    moved r s w slots st h c.args.next s.cursor (s.top - 1) c.in_ok-left.left 1 slots new (omega arith) c.in_ok-left.ensures.some (subst (λ x. On r.setting (bytes_of r) r.checked r.start (h.spent + 1) (went (activation_of s) c.args.next s.cursor) w (take (s.top - 1) slots) x) (sym same) on) (let t = h.top in omega (arith, t)) refl (ap (λ (x : StoreState). x.checked) c.set_global.ensures) (ap (λ (x : StoreState). x.image) c.set_global.ensures)
