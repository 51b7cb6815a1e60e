use Rattle.std.proofs.Common.{rules, inl, inr, ◌≡◌, ◌≤◌, ◌-◌, true, false, length, reverse, take, drop, refl, sym, ◌∙◌, subst, arith}
use Rattle.std.specs.Prelude.{slice_get}
use Rattle.wcode.specs.declared.value.ValueType.TheVariants.{I32}
use Rattle.rules.specs.declared.trap.Trap.TheVariants.{UndefinedElement, UninitializedElement, SignatureMismatch}
use Rattle.wmach.specs.declared.state.Stop.TheVariants as stop
use Rattle.wmach.specs.Operands.{value_of}
use Rattle.wmach.specs.inside.Running.{bytes_of, activation_of, Stopped}
use Rattle.wmach.specs.inside.Went.{IsCall}
use Rattle.wmach.specs.inside.Calling.{ElementGives}
use Rattle.wmach.proofs.AcceptedFunctions.{functions_right}
use Rattle.wmach.proofs.Arms.{one_there, some_is}
use Rattle.wmach.proofs.Stepping.{cut_off, no_fuel}
use Rattle.wmach.proofs.Invoking.{can_invoke, invokes, imports_right, found_there, indirect_next}
use Rattle.wmach.proofs.OverArms.{i32_slot}
use Rattle.wmach.proofs.OverIndirect.{indirect_here, indirect_spent, over_undefined, over_uninitialized, over_mismatch}
use Rattle.wmach.proofs.Words.{bytes_are}
use Rattle.wmach.proofs.calls.call_indirect_own.Goals as goal

pub returns-in-Err-clause-goes : goal.returns-in-Err-clause-goes
returns-in-Err-clause-goes c r h q =
    let w = reverse c.args.waiting.now.items in let st = c.args.store.now in let coded = c.requires.coded in let s = c.args.state in let slots = c.args.slots.now in let code = c.args.code.now in
    no_fuel r s w slots st h c.in-Err.how c.in-Err.ensures.none.0 c.in-Err.ensures.none.1 (indirect_spent r.setting (bytes_of r) r.checked r.start h.spent (activation_of s) w (take s.top slots) st.current h.on (functions_right r.setting.module_syntax r.accepted) c.args.wanted (drop c.args.next (bytes_of r)) q.spelled)

pub topmost-place-requires-clause-some : goal.topmost-place-requires-clause-some
topmost-place-requires-clause-some c =
    let w = reverse c.args.waiting.now.items in let st = c.args.store.now in let coded = c.requires.coded in let s = c.args.state in let slots = c.args.slots.now in let code = c.args.code.now in
    let p = c.requires.ready in let r = p.run in let h = p.at in let q = p.reads in
    let i = indirect_here r.setting (bytes_of r) r.checked r.start h.spent (activation_of s) w (take s.top slots) st.current h.on c.args.wanted (drop c.args.next (bytes_of r)) q.spelled in
    one_there r s w slots st h (value_of I32 i.number) i.others i.values_are

pub overflow_cast-place : goal.overflow_cast-place
overflow_cast-place c =
    let w = reverse c.args.waiting.now.items in let st = c.args.store.now in let coded = c.requires.coded in let s = c.args.state in let slots = c.args.slots.now in let code = c.args.code.now in
    let p = c.requires.ready in let r = p.run in let h = p.at in let q = p.reads in
    let i = indirect_here r.setting (bytes_of r) r.checked r.start h.spent (activation_of s) w (take s.top slots) st.current h.on c.args.wanted (drop c.args.next (bytes_of r)) q.spelled in
    let less = i32_slot r.setting (bytes_of r) r.checked r.start h.spent (activation_of s) w (take s.top slots) st.current h.on i.number i.others i.values_are (take (s.top - 1) slots) c.topmost-place.result c.topmost-place.ensures in
    omega (arith, less)

pub is_of_type-requires : goal.is_of_type-requires
is_of_type-requires c =
    let w = reverse c.args.waiting.now.items in let st = c.args.store.now in let coded = c.requires.coded in let s = c.args.state in let slots = c.args.slots.now in let code = c.args.code.now in
    let p = c.requires.ready in let r = p.run in let h = p.at in let q = p.reads in
    imports_right r s w slots st h code coded

pub returns-in-Err-function_at-clause-goes : goal.returns-in-Err-function_at-clause-goes
returns-in-Err-function_at-clause-goes c r h q =
    let w = reverse c.args.waiting.now.items in let st = c.args.store.now in let coded = c.requires.coded in let s = c.args.state in let slots = c.args.slots.now in let code = c.args.code.now in
    let there = subst (λ x. ElementGives (slice_get st.current.table c.topmost-place.result) x) c.in-Err-function_at.is c.function_at.ensures in
    elim there [
      | inl e ↦ subst (λ t. Stopped r (stop.Trap t c.in-Ok.left) slots st) (sym e.1) (cut_off r s w slots st h UndefinedElement c.in-Ok.left c.in-Ok.ensures.some (over_undefined r.setting (bytes_of r) r.checked r.start h.spent (activation_of s) w (take s.top slots) st.current h.on c.args.wanted (drop c.args.next (bytes_of r)) (take (s.top - 1) slots) c.topmost-place.result q.spelled c.topmost-place.ensures e.0))
      | inr e ↦ subst (λ t. Stopped r (stop.Trap t c.in-Ok.left) slots st) (sym e.1) (cut_off r s w slots st h UninitializedElement c.in-Ok.left c.in-Ok.ensures.some (over_uninitialized r.setting (bytes_of r) r.checked r.start h.spent (activation_of s) w (take s.top slots) st.current h.on c.args.wanted (drop c.args.next (bytes_of r)) (take (s.top - 1) slots) c.topmost-place.result q.spelled c.topmost-place.ensures e.0))
    ]

pub returns-then-not-is_of_type-clause-goes : goal.returns-then-not-is_of_type-clause-goes
returns-then-not-is_of_type-clause-goes c r h q =
    let w = reverse c.args.waiting.now.items in let st = c.args.store.now in let coded = c.requires.coded in let s = c.args.state in let slots = c.args.slots.now in let code = c.args.code.now in
    let there = subst (λ x. ElementGives (slice_get st.current.table c.topmost-place.result) x) c.in-Ok-function_at.is c.function_at.ensures in
    let f = found_there r s w slots st h code coded c.args.wanted c.args.next c.topmost-place.result c.in-Ok-function_at.function q.spelled there in
    let checked = c.is_of_type.ensures f.type f.wanted f.type_there f.wanted_there in
    let no : c.is_of_type.result ≡ false = search rules in
    cut_off r s w slots st h SignatureMismatch c.in-Ok.left c.in-Ok.ensures.some (over_mismatch r.setting (bytes_of r) r.checked r.start h.spent (activation_of s) w (take s.top slots) st.current h.on c.args.wanted (drop c.args.next (bytes_of r)) (take (s.top - 1) slots) c.topmost-place.result c.in-Ok-function_at.function f.type f.wanted q.spelled c.topmost-place.ensures there f.type_is f.wanted_is (sym checked ∙ no))

pub enter-requires-clause-shape : goal.enter-requires-clause-shape
enter-requires-clause-shape c =
    let w = reverse c.args.waiting.now.items in let st = c.args.store.now in let coded = c.requires.coded in let s = c.args.state in let slots = c.args.slots.now in let code = c.args.code.now in
    let p = c.requires.ready in let r = p.run in let h = p.at in let q = p.reads in
    let there = subst (λ x. ElementGives (slice_get st.current.table c.topmost-place.result) x) c.in-Ok-function_at.is c.function_at.ensures in
    let f = found_there r s w slots st h code coded c.args.wanted c.args.next c.topmost-place.result c.in-Ok-function_at.function q.spelled there in
    let checked = c.is_of_type.ensures f.type f.wanted f.type_there f.wanted_there in
    let yes : c.is_of_type.result ≡ true = search rules in
    let k = indirect_next r s w slots st h code coded c.args.wanted c.args.next c.topmost-place.result c.in-Ok-function_at.function q.within q.spelled c.topmost-place.ensures there f (sym checked ∙ yes) in
    let can = can_invoke r s w slots st h code coded 1 c.in-Ok-function_at.function c.args.next (s.top - 1) c.in-Ok.left k c.args.waiting.now.items refl (let t = h.top in omega (arith, t)) in
    let own : length code.records.now ≤ c.in-Ok-function_at.function = omega (arith, c.if-index-code.false) in
    can.own own

pub enter-requires-clause-fits : goal.enter-requires-clause-fits
enter-requires-clause-fits c =
    let w = reverse c.args.waiting.now.items in let st = c.args.store.now in let coded = c.requires.coded in let s = c.args.state in let slots = c.args.slots.now in let code = c.args.code.now in
    let p = c.requires.ready in let r = p.run in let h = p.at in let q = p.reads in
    let there = subst (λ x. ElementGives (slice_get st.current.table c.topmost-place.result) x) c.in-Ok-function_at.is c.function_at.ensures in
    let f = found_there r s w slots st h code coded c.args.wanted c.args.next c.topmost-place.result c.in-Ok-function_at.function q.spelled there in
    let checked = c.is_of_type.ensures f.type f.wanted f.type_there f.wanted_there in
    let yes : c.is_of_type.result ≡ true = search rules in
    let k = indirect_next r s w slots st h code coded c.args.wanted c.args.next c.topmost-place.result c.in-Ok-function_at.function q.within q.spelled c.topmost-place.ensures there f (sym checked ∙ yes) in
    let can = can_invoke r s w slots st h code coded 1 c.in-Ok-function_at.function c.args.next (s.top - 1) c.in-Ok.left k c.args.waiting.now.items refl (let t = h.top in omega (arith, t)) in
    let own : length code.records.now ≤ c.in-Ok-function_at.function = omega (arith, c.if-index-code.false) in
    λ shape is. can.room shape own is

pub returns-clause-goes : goal.returns-clause-goes
returns-clause-goes c r h q =
    let w = reverse c.args.waiting.now.items in let st = c.args.store.now in let coded = c.requires.coded in let s = c.args.state in let slots = c.args.slots.now in let code = c.args.code.now in
    let there = subst (λ x. ElementGives (slice_get st.current.table c.topmost-place.result) x) c.in-Ok-function_at.is c.function_at.ensures in
    let f = found_there r s w slots st h code coded c.args.wanted c.args.next c.topmost-place.result c.in-Ok-function_at.function q.spelled there in
    let checked = c.is_of_type.ensures f.type f.wanted f.type_there f.wanted_there in
    let yes : c.is_of_type.result ≡ true = search rules in
    let k = indirect_next r s w slots st h code coded c.args.wanted c.args.next c.topmost-place.result c.in-Ok-function_at.function q.within q.spelled c.topmost-place.ensures there f (sym checked ∙ yes) in
    let own : length code.records.now ≤ c.in-Ok-function_at.function = omega (arith, c.if-index-code.false) in
    invokes r s w slots st h code coded 1 c.in-Ok-function_at.function c.args.next (s.top - 1) c.in-Ok.left k c.args.waiting.now.items c.enter.result c.enter.new.waiting.items c.enter.new.slots st refl c.in-Ok.ensures.some (omega arith) (let t = h.top in omega (arith, t))
    (inr (own, refl, c.enter.ensures.entered))

pub returns-then-index-code-clause-goes : goal.returns-then-index-code-clause-goes
returns-then-index-code-clause-goes c r h q =
    let w = reverse c.args.waiting.now.items in let st = c.args.store.now in let s = c.args.state in let slots = c.args.slots.now in let code = c.args.code.now in
    (refl, refl, refl, subst (λ b. IsCall b s.at) (bytes_are r s w slots st h code c.requires.coded) c.requires.call)

pub overflow_sub-top : goal.overflow_sub-top
overflow_sub-top c =
    let w = reverse c.args.waiting.now.items in let st = c.args.store.now in let coded = c.requires.coded in let s = c.args.state in let slots = c.args.slots.now in let code = c.args.code.now in
    let p = c.requires.ready in let r = p.run in let h = p.at in let q = p.reads in
    let i = indirect_here r.setting (bytes_of r) r.checked r.start h.spent (activation_of s) w (take s.top slots) st.current h.on c.args.wanted (drop c.args.next (bytes_of r)) q.spelled in
    some_is s.top (one_there r s w slots st h (value_of I32 i.number) i.others i.values_are)
