use Rattle.std.proofs.Common.{rules, inl, inr, ◌≡◌, ◌-◌, true, false, reverse, take, drop, refl, sym, ◌∙◌, subst, arith}
use Rattle.std.proofs.lemmas.Result.{err_from_is_err_and}
use Rattle.rules.specs.declared.trap.Trap.TheVariants.{UndefinedElement, UninitializedElement, SignatureMismatch}
use Rattle.wcode.specs.declared.value.ValueType.TheVariants.{I32}
use Rattle.wmach.specs.Operands.{value_of}
use Rattle.wmach.specs.inside.Running.{bytes_of, activation_of}
use Rattle.std.specs.Prelude.{slice_get}
use Rattle.wmach.specs.declared.state.Stop.TheVariants as stop
use Rattle.wmach.specs.inside.Running.{Stopped}
use Rattle.wmach.specs.inside.Calling.{ElementGives, Invokes}
use Rattle.wmach.proofs.AcceptedFunctions.{functions_right}
use Rattle.wmach.proofs.Arms.{one_there, some_is, spent_err}
use Rattle.wmach.proofs.Stepping.{cut_off}
use Rattle.wmach.proofs.Branching.{paid_state}
use Rattle.wmach.proofs.Invoking.{can_invoke, invokes, imports_right, found_there, indirect_next}
use Rattle.wmach.proofs.OverArms.{i32_slot}
use Rattle.wmach.proofs.OverIndirect.{indirect_here, indirect_spent, over_undefined, over_uninitialized, over_mismatch}
use Rattle.wmach.proofs.calls.call_indirect.Goals as goal

pub returns-in_err-left-clause-goes : goal.returns-in_err-left-clause-goes
returns-in_err-left-clause-goes g c r records h q =
    let w = reverse c.args.waiting.now.items in let st = c.args.store.now in let s = c.args.state in let slots = c.args.slots.now in
    let e = err_from_is_err_and c.from_residual.result c.from_residual.ensures.1 in
    spent_err r s w slots st h c.from_residual.result e.0 c.in_err-left.field-0.0 e.1 e.2 c.in_err-left.ensures.none.0 c.in_err-left.ensures.none.1 (indirect_spent r.setting (bytes_of r) r.checked r.start h.spent (activation_of s) w (take s.top slots) st.current h.on (functions_right r.setting.module_syntax r.accepted) c.args.wanted (drop c.args.next (bytes_of r)) q.spelled)

pub topmost-place-requires-clause-some : goal.topmost-place-requires-clause-some
topmost-place-requires-clause-some g c =
    let w = reverse c.args.waiting.now.items in let st = c.args.store.now in let p = c.requires.ready in let r = p.run in let h = p.at in let q = p.reads in let s = c.args.state in let slots = c.args.slots.now in
    let i = indirect_here r.setting (bytes_of r) r.checked r.start h.spent (activation_of s) w (take s.top slots) st.current h.on c.args.wanted (drop c.args.next (bytes_of r)) q.spelled in
    one_there r s w slots st h (value_of I32 i.number) i.others i.values_are

pub overflow_cast-place : goal.overflow_cast-place
overflow_cast-place g c =
    let w = reverse c.args.waiting.now.items in let st = c.args.store.now in let p = c.requires.ready in let r = p.run in let h = p.at in let q = p.reads in let s = c.args.state in let slots = c.args.slots.now in
    let i = indirect_here r.setting (bytes_of r) r.checked r.start h.spent (activation_of s) w (take s.top slots) st.current h.on c.args.wanted (drop c.args.next (bytes_of r)) q.spelled in
    let less = i32_slot r.setting (bytes_of r) r.checked r.start h.spent (activation_of s) w (take s.top slots) st.current h.on i.number i.others i.values_are (take (s.top - 1) slots) c.topmost-place.result c.topmost-place.ensures in
    omega (arith, less)

pub is_of_type-requires : goal.is_of_type-requires
is_of_type-requires g c =
    let w = reverse c.args.waiting.now.items in let st = c.args.store.now in let p = c.requires.ready in let coded = c.requires.coded in let r = p.run in let h = p.at in let q = p.reads in let s = c.args.state in let slots = c.args.slots.now in let code = c.args.code.now in
    imports_right r s w slots st h code coded

pub returns-in-Err-clause-goes : goal.returns-in-Err-clause-goes
returns-in-Err-clause-goes g c r records h q =
    let w = reverse c.args.waiting.now.items in let st = c.args.store.now in let coded = c.requires.coded in let s = c.args.state in let slots = c.args.slots.now in let code = c.args.code.now in
    let there = subst (λ x. ElementGives (slice_get st.current.table c.topmost-place.result) x) c.in-Err.is c.function_at.ensures in
    elim there [
      | inl e ↦ subst (λ t. Stopped r (stop.Trap t c.in_ok-left.left) slots st) (sym e.1) (cut_off r s w slots st h UndefinedElement c.in_ok-left.left c.in_ok-left.ensures.some (over_undefined r.setting (bytes_of r) r.checked r.start h.spent (activation_of s) w (take s.top slots) st.current h.on c.args.wanted (drop c.args.next (bytes_of r)) (take (s.top - 1) slots) c.topmost-place.result q.spelled c.topmost-place.ensures e.0))
      | inr e ↦ subst (λ t. Stopped r (stop.Trap t c.in_ok-left.left) slots st) (sym e.1) (cut_off r s w slots st h UninitializedElement c.in_ok-left.left c.in_ok-left.ensures.some (over_uninitialized r.setting (bytes_of r) r.checked r.start h.spent (activation_of s) w (take s.top slots) st.current h.on c.args.wanted (drop c.args.next (bytes_of r)) (take (s.top - 1) slots) c.topmost-place.result q.spelled c.topmost-place.ensures e.0))
    ]

pub invoke-requires-clause-can : goal.invoke-requires-clause-can
invoke-requires-clause-can g c =
    let w = reverse c.args.waiting.now.items in let st = c.args.store.now in let p = c.requires.ready in let coded = c.requires.coded in let r = p.run in let h = p.at in let q = p.reads in let s = c.args.state in let slots = c.args.slots.now in let code = c.args.code.now in
    let there = subst (λ x. ElementGives (slice_get st.current.table c.topmost-place.result) x) c.in-Ok.is c.function_at.ensures in
    let f = found_there r s w slots st h code coded c.args.wanted c.args.next c.topmost-place.result c.in-Ok.function q.spelled there in
    let checked = c.is_of_type.ensures f.type f.wanted f.type_there f.wanted_there in
    let yes : c.is_of_type.result ≡ true = search rules in
    let k = indirect_next r s w slots st h code coded c.args.wanted c.args.next c.topmost-place.result c.in-Ok.function q.within q.spelled c.topmost-place.ensures there f (sym checked ∙ yes) in
    can_invoke r s w slots st h code coded 1 c.in-Ok.function c.args.next (s.top - 1) c.in_ok-left.left k c.args.waiting.now.items refl (let t = h.top in omega (arith, t))

pub returns-else-is_of_type-clause-goes : goal.returns-else-is_of_type-clause-goes
returns-else-is_of_type-clause-goes g c r records h q =
    let w = reverse c.args.waiting.now.items in let st = c.args.store.now in let coded = c.requires.coded in let s = c.args.state in let slots = c.args.slots.now in let code = c.args.code.now in
    let there = subst (λ x. ElementGives (slice_get st.current.table c.topmost-place.result) x) c.in-Ok.is c.function_at.ensures in
    let f = found_there r s w slots st h code coded c.args.wanted c.args.next c.topmost-place.result c.in-Ok.function q.spelled there in
    let checked = c.is_of_type.ensures f.type f.wanted f.type_there f.wanted_there in
    let no : c.is_of_type.result ≡ false = search rules in
    cut_off r s w slots st h SignatureMismatch c.in_ok-left.left c.in_ok-left.ensures.some (over_mismatch r.setting (bytes_of r) r.checked r.start h.spent (activation_of s) w (take s.top slots) st.current h.on c.args.wanted (drop c.args.next (bytes_of r)) (take (s.top - 1) slots) c.topmost-place.result c.in-Ok.function f.type f.wanted q.spelled c.topmost-place.ensures there f.type_is f.wanted_is (sym checked ∙ no))

pub returns-then-is_of_type-clause-goes : goal.returns-then-is_of_type-clause-goes
returns-then-is_of_type-clause-goes g c r records h q =
    let w = reverse c.args.waiting.now.items in let st = c.args.store.now in let coded = c.requires.coded in let s = c.args.state in let slots = c.args.slots.now in let code = c.args.code.now in
    let there = subst (λ x. ElementGives (slice_get st.current.table c.topmost-place.result) x) c.in-Ok.is c.function_at.ensures in
    let f = found_there r s w slots st h code coded c.args.wanted c.args.next c.topmost-place.result c.in-Ok.function q.spelled there in
    let checked = c.is_of_type.ensures f.type f.wanted f.type_there f.wanted_there in
    let yes : c.is_of_type.result ≡ true = search rules in
    let k = indirect_next r s w slots st h code coded c.args.wanted c.args.next c.topmost-place.result c.in-Ok.function q.within q.spelled c.topmost-place.ensures there f (sym checked ∙ yes) in
    invokes r s w slots st h code coded 1 c.in-Ok.function c.args.next (s.top - 1) c.in_ok-left.left k c.args.waiting.now.items c.invoke.result c.invoke.new.waiting.items c.invoke.new.slots c.invoke.new.store refl c.in_ok-left.ensures.some (omega arith) (let t = h.top in omega (arith, t))
    (subst (λ x. Invokes code x c.in-Ok.function c.args.next (paid_state r s w slots st h code coded (s.top - 1) c.in_ok-left.left) c.args.waiting.now.items slots st c.invoke.result c.invoke.new.waiting.items c.invoke.new.slots c.invoke.new.store) (sym records) c.invoke.ensures.invoked)

pub overflow_sub-top : goal.overflow_sub-top
overflow_sub-top g c =
    let w = reverse c.args.waiting.now.items in let st = c.args.store.now in let p = c.requires.ready in let r = p.run in let h = p.at in let q = p.reads in let s = c.args.state in let slots = c.args.slots.now in
    let i = indirect_here r.setting (bytes_of r) r.checked r.start h.spent (activation_of s) w (take s.top slots) st.current h.on c.args.wanted (drop c.args.next (bytes_of r)) q.spelled in
    some_is s.top (one_there r s w slots st h (value_of I32 i.number) i.others i.values_are)
