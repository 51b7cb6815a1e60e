use Rattle.std.proofs.Common.{◌≡◌, ◌+◌, [], ◌∷◌, ◌++◌, take, drop, refl, sym, ap, ◌∙◌, arith}
use Rattle.std.proofs.lemmas.Option.{slice_get_within}
use Rattle.std.proofs.lemmas.Result.{err_from_is_err_and}
use Rattle.wmach.proofs.Arms.{in_use, pushed, room_above, some_same, spent_err}
use Rattle.wmach.proofs.OverVariables.{get_here}
use Rattle.wmach.specs.inside.Running.{activation_of, bytes_of}
use Rattle.wmach.proofs.plain.local_get.Goals as goal

pub returns-in_err-left : goal.returns-in_err-left
returns-in_err-left c w st r h q =
    let s = c.args.state in let slots = c.args.slots.now in
    let e = err_from_is_err_and c.from_residual.result c.from_residual.ensures.1 in
    spent_err r s w slots st h c.from_residual.result e.0 c.in_err-left.field-0.0 e.1 e.2 c.in_err-left.ensures.none.0 c.in_err-left.ensures.none.1 ((get_here r.setting (bytes_of r) r.checked r.start h.spent (activation_of s) w (take s.top slots) st.current h.on c.args.x (drop c.args.next (bytes_of r)) q.spelled).spent_here)

pub slot-number-requires : goal.slot-number-requires
slot-number-requires c =
    let w = c.requires.0 in let st = c.requires.1 in let q = c.requires.2 in let r = q.run in let h = q.at in let s = c.args.state in let slots = c.args.slots.now in
    let g = get_here r.setting (bytes_of r) r.checked r.start h.spent (activation_of s) w (take s.top slots) st.current h.on c.args.x (drop c.args.next (bytes_of r)) q.reads.spelled in
    let there = in_use s.top (s.base + c.args.x) slots g.word g.there in let less = slice_get_within slots (s.base + c.args.x) g.word there in
    less

pub push-top-requires : goal.push-top-requires
push-top-requires c =
    let w = c.requires.0 in let st = c.requires.1 in let q = c.requires.2 in let r = q.run in let h = q.at in let s = c.args.state in let slots = c.args.slots.now in
    let g = get_here r.setting (bytes_of r) r.checked r.start h.spent (activation_of s) w (take s.top slots) st.current h.on c.args.x (drop c.args.next (bytes_of r)) q.reads.spelled in
    let there = in_use s.top (s.base + c.args.x) slots g.word g.there in let less = slice_get_within slots (s.base + c.args.x) g.word there in
    room_above r s w slots st h s.top 1 g.word h.top (g.goes c.args.next q.reads.within q.reads.spelled)

pub returns : goal.returns
returns c w st r h q =
    let s = c.args.state in let slots = c.args.slots.now in
    let g = get_here r.setting (bytes_of r) r.checked r.start h.spent (activation_of s) w (take s.top slots) st.current h.on c.args.x (drop c.args.next (bytes_of r)) q.spelled in
    let there = in_use s.top (s.base + c.args.x) slots g.word g.there in let less = slice_get_within slots (s.base + c.args.x) g.word there in
    let on = g.goes c.args.next q.within q.spelled in
    let same : c.slot-number.result ≡ g.word = some_same (sym c.slot-number.ensures ∙ there) in
    let room = room_above r s w slots st h s.top 1 g.word h.top on in
    pushed r s w slots st h c.args.next s.cursor c.push-top.result c.in_ok-left.left 1 g.word (take s.top slots) c.push-top.new.slots st (omega arith) c.in_ok-left.ensures.some on (c.push-top.ensures.slots ∙ ap (λ n. take s.top slots ++ n ∷ []) same) (omega (arith, c.push-top.ensures.top, c.push-top.ensures.long, room)) c.push-top.ensures.long refl refl

pub overflow_add-state : goal.overflow_add-state
overflow_add-state c =
    let w = c.requires.0 in let st = c.requires.1 in let q = c.requires.2 in let r = q.run in let h = q.at in let s = c.args.state in let slots = c.args.slots.now in
    let g = get_here r.setting (bytes_of r) r.checked r.start h.spent (activation_of s) w (take s.top slots) st.current h.on c.args.x (drop c.args.next (bytes_of r)) q.reads.spelled in
    let less = slice_get_within slots (s.base + c.args.x) g.word (in_use s.top (s.base + c.args.x) slots g.word g.there) in
    omega (arith, less)
