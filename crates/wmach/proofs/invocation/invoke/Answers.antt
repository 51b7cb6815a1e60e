use Rattle.std.proofs.Common.{◌≡◌, ◌-◌, [], length, reverse, refl, sym, ap, ◌∙◌, subst, arith}
use Rattle.std.specs.Prelude.{slice_get}
use Rattle.std.proofs.lemmas.Option.{slice_get_within}
use Rattle.wmodule.specs.Syntax.{module_of}
use Rattle.wmach.specs.inside.Kept.{IsCallOf}
use Rattle.wmach.specs.Reduction.{imported_count}
use Rattle.wmach.specs.inside.Running.{At}
use Rattle.wmach.proofs.Invocations.{imports_are, run_of, own_there, locals_room, at_start}
use Rattle.wmach.proofs.invocation.invoke.Goals as goal

pub overflow_sub-place : goal.overflow_sub-place
overflow_sub-place g c =
    let checked = c.args.store.now.checked in let ok = c.requires.checked in let coded = c.requires.coded in let code = c.args.code.now in
    let m = module_of checked.content in let k = c.args.function in let store = c.args.store.now in
    let f = own_there m ok.accepted c.args.export k c.requires.there in let imports = imports_are checked code coded in let past = f.past in
    omega (arith, past, imports)

pub begin-first-requires-clause-there : goal.begin-first-requires-clause-there
begin-first-requires-clause-there g c =
    let checked = c.args.store.now.checked in let ok = c.requires.checked in let coded = c.requires.coded in let code = c.args.code.now in
    let m = module_of checked.content in let k = c.args.function in let store = c.args.store.now in
    let f = own_there m ok.accepted c.args.export k c.requires.there in let imports = imports_are checked code coded in let past = f.past in
    let within = slice_get_within m.functions (k - imported_count m) f.syntax_of f.is in let count = coded.shapes.count in
    omega (arith, within, count, imports)

pub begin-first-requires-clause-room : goal.begin-first-requires-clause-room
begin-first-requires-clause-room g c shape is =
    let checked = c.args.store.now.checked in let ok = c.requires.checked in let coded = c.requires.coded in let code = c.args.code.now in
    let m = module_of checked.content in let k = c.args.function in let store = c.args.store.now in
    let f = own_there m ok.accepted c.args.export k c.requires.there in let imports = imports_are checked code coded in let past = f.past in
    let room = locals_room checked ok code coded (k - length code.records.now) shape is c.requires.slots.0 c.requires.slots.1 in let long = c.requires.slots.2 in
    omega (arith, room, long)

pub run-how-requires-clause-at : goal.run-how-requires-clause-at
run-how-requires-clause-at g c =
    let checked = c.args.store.now.checked in let ok = c.requires.checked in let coded = c.requires.coded in let code = c.args.code.now in
    let m = module_of checked.content in let k = c.args.function in let store = c.args.store.now in
    let f = own_there m ok.accepted c.args.export k c.requires.there in let imports = imports_are checked code coded in let past = f.past in
    let r = run_of checked ok (g.H.Host.records c.args.host.now) store k c.args.fuel c.requires.slots.0 c.requires.slots.1 in
    let call : IsCallOf r store.current c.args.export k c.args.fuel = record { start = refl; fuel_is = refl; fits = c.always_fits.ensures.current; function_is = c.requires.there } in
    let b = c.begin-first.ensures.begun in
    let same : k - imported_count m ≡ k - length code.records.now = ap (λ n. k - n) (sym imports) in
    let i = coded.shapes.each (k - imported_count m) b.shape (ap (λ n. slice_get code.shapes.now n) same ∙ b.shape_is) in
    let slots = c.begin-first.new.slots in
    let long = c.requires.slots.2 in
    let there = at_start r store c.args.export k c.args.fuel call refl refl b.shape i slots (let kept = c.begin-first.ensures.long in omega (arith, long, kept)) b.within b.zeros in
    let placed = subst (λ n. At r (record { function = n; at = b.shape.begin; cursor = 0; base = 0; operands = b.shape.locals; top = b.shape.locals; left = c.args.fuel; end = b.shape.end }) [] slots store) same there in
    let at = subst (λ s. At r s [] slots store) (sym b.state_is) placed in
    let at_first = subst (λ w. At r c.begin-first.result w slots store) (ap reverse (sym c.clear.ensures.items)) at in
    (r, refl, at_first)

pub outcome_of-requires : goal.outcome_of-requires
outcome_of-requires g c =
    let checked = c.args.store.now.checked in let ok = c.requires.checked in let coded = c.requires.coded in let code = c.args.code.now in
    let m = module_of checked.content in let k = c.args.function in let store = c.args.store.now in
    let f = own_there m ok.accepted c.args.export k c.requires.there in let imports = imports_are checked code coded in let past = f.past in
    let r = run_of checked ok (g.H.Host.records c.args.host.now) store k c.args.fuel c.requires.slots.0 c.requires.slots.1 in
    let call : IsCallOf r store.current c.args.export k c.args.fuel = record { start = refl; fuel_is = refl; fits = c.always_fits.ensures.current; function_is = c.requires.there } in
    let b = c.begin-first.ensures.begun in
    let same : k - imported_count m ≡ k - length code.records.now = ap (λ n. k - n) (sym imports) in
    let i = coded.shapes.each (k - imported_count m) b.shape (ap (λ n. slice_get code.shapes.now n) same ∙ b.shape_is) in
    let slots = c.begin-first.new.slots in
    let long = c.requires.slots.2 in
    let there = at_start r store c.args.export k c.args.fuel call refl refl b.shape i slots (let kept = c.begin-first.ensures.long in omega (arith, long, kept)) b.within b.zeros in
    let placed = subst (λ n. At r (record { function = n; at = b.shape.begin; cursor = 0; base = 0; operands = b.shape.locals; top = b.shape.locals; left = c.args.fuel; end = b.shape.end }) [] slots store) same there in
    let at = subst (λ s. At r s [] slots store) (sym b.state_is) placed in
    let at_first = subst (λ w. At r c.begin-first.result w slots store) (ap reverse (sym c.clear.ensures.items)) at in
    let stopped = c.run-how.ensures.stops r refl at_first in
    (r, store.current, k, c.run-how.new.store, call, stopped.stops)

pub returns-clause-ends : goal.returns-clause-ends
returns-clause-ends g c =
    let checked = c.args.store.now.checked in let ok = c.requires.checked in let coded = c.requires.coded in let code = c.args.code.now in
    let m = module_of checked.content in let k = c.args.function in let store = c.args.store.now in
    let f = own_there m ok.accepted c.args.export k c.requires.there in let imports = imports_are checked code coded in let past = f.past in
    let r = run_of checked ok (g.H.Host.records c.args.host.now) store k c.args.fuel c.requires.slots.0 c.requires.slots.1 in
    let call : IsCallOf r store.current c.args.export k c.args.fuel = record { start = refl; fuel_is = refl; fits = c.always_fits.ensures.current; function_is = c.requires.there } in
    let b = c.begin-first.ensures.begun in
    let same : k - imported_count m ≡ k - length code.records.now = ap (λ n. k - n) (sym imports) in
    let i = coded.shapes.each (k - imported_count m) b.shape (ap (λ n. slice_get code.shapes.now n) same ∙ b.shape_is) in
    let slots = c.begin-first.new.slots in
    let long = c.requires.slots.2 in
    let there = at_start r store c.args.export k c.args.fuel call refl refl b.shape i slots (let kept = c.begin-first.ensures.long in omega (arith, long, kept)) b.within b.zeros in
    let placed = subst (λ n. At r (record { function = n; at = b.shape.begin; cursor = 0; base = 0; operands = b.shape.locals; top = b.shape.locals; left = c.args.fuel; end = b.shape.end }) [] slots store) same there in
    let at = subst (λ s. At r s [] slots store) (sym b.state_is) placed in
    let at_first = subst (λ w. At r c.begin-first.result w slots store) (ap reverse (sym c.clear.ensures.items)) at in
    let stopped = c.run-how.ensures.stops r refl at_first in
    c.outcome_of.ensures.outcome r store.current k c.run-how.new.store call stopped.stops

pub returns-clause-checked : goal.returns-clause-checked
returns-clause-checked g c =
    let checked = c.args.store.now.checked in let ok = c.requires.checked in let coded = c.requires.coded in let code = c.args.code.now in
    let m = module_of checked.content in let k = c.args.function in let store = c.args.store.now in
    let f = own_there m ok.accepted c.args.export k c.requires.there in let imports = imports_are checked code coded in let past = f.past in
    let r = run_of checked ok (g.H.Host.records c.args.host.now) store k c.args.fuel c.requires.slots.0 c.requires.slots.1 in
    let call : IsCallOf r store.current c.args.export k c.args.fuel = record { start = refl; fuel_is = refl; fits = c.always_fits.ensures.current; function_is = c.requires.there } in
    let b = c.begin-first.ensures.begun in
    let same : k - imported_count m ≡ k - length code.records.now = ap (λ n. k - n) (sym imports) in
    let i = coded.shapes.each (k - imported_count m) b.shape (ap (λ n. slice_get code.shapes.now n) same ∙ b.shape_is) in
    let slots = c.begin-first.new.slots in
    let long = c.requires.slots.2 in
    let there = at_start r store c.args.export k c.args.fuel call refl refl b.shape i slots (let kept = c.begin-first.ensures.long in omega (arith, long, kept)) b.within b.zeros in
    let placed = subst (λ n. At r (record { function = n; at = b.shape.begin; cursor = 0; base = 0; operands = b.shape.locals; top = b.shape.locals; left = c.args.fuel; end = b.shape.end }) [] slots store) same there in
    let at = subst (λ s. At r s [] slots store) (sym b.state_is) placed in
    let at_first = subst (λ w. At r c.begin-first.result w slots store) (ap reverse (sym c.clear.ensures.items)) at in
    let stopped = c.run-how.ensures.stops r refl at_first in
    stopped.checked_is

pub returns-clause-image : goal.returns-clause-image
returns-clause-image g c =
    let checked = c.args.store.now.checked in let ok = c.requires.checked in let coded = c.requires.coded in let code = c.args.code.now in
    let m = module_of checked.content in let k = c.args.function in let store = c.args.store.now in
    let f = own_there m ok.accepted c.args.export k c.requires.there in let imports = imports_are checked code coded in let past = f.past in
    let r = run_of checked ok (g.H.Host.records c.args.host.now) store k c.args.fuel c.requires.slots.0 c.requires.slots.1 in
    let call : IsCallOf r store.current c.args.export k c.args.fuel = record { start = refl; fuel_is = refl; fits = c.always_fits.ensures.current; function_is = c.requires.there } in
    let b = c.begin-first.ensures.begun in
    let same : k - imported_count m ≡ k - length code.records.now = ap (λ n. k - n) (sym imports) in
    let i = coded.shapes.each (k - imported_count m) b.shape (ap (λ n. slice_get code.shapes.now n) same ∙ b.shape_is) in
    let slots = c.begin-first.new.slots in
    let long = c.requires.slots.2 in
    let there = at_start r store c.args.export k c.args.fuel call refl refl b.shape i slots (let kept = c.begin-first.ensures.long in omega (arith, long, kept)) b.within b.zeros in
    let placed = subst (λ n. At r (record { function = n; at = b.shape.begin; cursor = 0; base = 0; operands = b.shape.locals; top = b.shape.locals; left = c.args.fuel; end = b.shape.end }) [] slots store) same there in
    let at = subst (λ s. At r s [] slots store) (sym b.state_is) placed in
    let at_first = subst (λ w. At r c.begin-first.result w slots store) (ap reverse (sym c.clear.ensures.items)) at in
    let stopped = c.run-how.ensures.stops r refl at_first in
    stopped.image_is
