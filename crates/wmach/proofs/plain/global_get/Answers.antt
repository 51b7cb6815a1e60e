use Rattle.std.proofs.Common.{◌≡◌, [], ◌∷◌, ◌++◌, take, drop, refl, ap, ◌∙◌, arith}
use Rattle.std.proofs.lemmas.Result.{err_from_is_err_and}
use Rattle.wmach.proofs.Arms.{pushed, room_above, spent_err, stored_word}
use Rattle.wmach.proofs.OverGlobals.{global_get_here, here_within}
use Rattle.wstore.specs.Values.{word_of}
use Rattle.wmach.specs.inside.Running.{activation_of, bytes_of}
use Rattle.wmach.proofs.plain.global_get.Goals as goal

pub returns-in_err-left : goal.returns-in_err-left
returns-in_err-left c w r h q =
    let st = c.args.store.now in let s = c.args.state in let slots = c.args.slots.now in
    let e = err_from_is_err_and c.from_residual.result c.from_residual.ensures.1 in
    spent_err r s w slots st h c.from_residual.result e.0 c.in_err-left.field-0.0 e.1 e.2 c.in_err-left.ensures.none.0 c.in_err-left.ensures.none.1 ((global_get_here r.setting (bytes_of r) r.checked r.start h.spent (activation_of s) w (take s.top slots) st.current h.on c.args.x (drop c.args.next (bytes_of r)) q.spelled).spent_here)

pub global-number-requires : goal.global-number-requires
global-number-requires c =
    let w = c.requires.0 in let st = c.args.store.now in let q = c.requires.1 in let r = q.run in let h = q.at in let s = c.args.state in let slots = c.args.slots.now in
    let g = global_get_here r.setting (bytes_of r) r.checked r.start h.spent (activation_of s) w (take s.top slots) st.current h.on c.args.x (drop c.args.next (bytes_of r)) q.reads.spelled in
    here_within r.setting.module_syntax st.current c.args.x g.kind g.here

pub push-top-requires : goal.push-top-requires
push-top-requires c =
    let w = c.requires.0 in let st = c.args.store.now in let q = c.requires.1 in let r = q.run in let h = q.at in let s = c.args.state in let slots = c.args.slots.now in
    let g = global_get_here r.setting (bytes_of r) r.checked r.start h.spent (activation_of s) w (take s.top slots) st.current h.on c.args.x (drop c.args.next (bytes_of r)) q.reads.spelled in
    room_above r s w slots st h s.top 1 (word_of g.here.global) h.top (g.goes c.args.next q.reads.within q.reads.spelled)

pub returns : goal.returns
returns c w r h q =
    let st = c.args.store.now in let s = c.args.state in let slots = c.args.slots.now in
    let g = global_get_here r.setting (bytes_of r) r.checked r.start h.spent (activation_of s) w (take s.top slots) st.current h.on c.args.x (drop c.args.next (bytes_of r)) q.spelled in
    let on = g.goes c.args.next q.within q.spelled in
    let same : c.global-number.result ≡ word_of g.here.global = stored_word st.current.globals c.args.x g.here.global c.global-number.result g.here.is c.global-number.ensures in
    let room = room_above r s w slots st h s.top 1 (word_of g.here.global) h.top on in
    pushed r s w slots st h c.args.next s.cursor c.push-top.result c.in_ok-left.left 1 (word_of g.here.global) (take s.top slots) c.push-top.new.slots st (omega arith) c.in_ok-left.ensures.some on (c.push-top.ensures.slots ∙ ap (λ n. take s.top slots ++ n ∷ []) same) (omega (arith, c.push-top.ensures.top, c.push-top.ensures.long, room)) c.push-top.ensures.long refl refl
