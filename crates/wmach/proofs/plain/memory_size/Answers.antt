use Rattle.std.proofs.Common.{take, drop, refl, arith}
use Rattle.std.proofs.lemmas.Result.{err_from_is_err_and}
use Rattle.wmach.proofs.Arms.{pushed, room_above, spent_err}
use Rattle.wmach.proofs.OverMemory.{over_size, size_spent}
use Rattle.wmach.specs.inside.Running.{activation_of, bytes_of}
use Rattle.wmem.specs.Memory.{pages_in}
use Rattle.wmach.proofs.plain.memory_size.Goals as goal

pub returns-in_err-left : goal.returns-in_err-left
returns-in_err-left c w r h q =
    let st = c.args.store.now in let s = c.args.state in let slots = c.args.slots.now in
    let e = err_from_is_err_and c.from_residual.result c.from_residual.ensures.1 in
    spent_err r s w slots st h c.from_residual.result e.0 c.in_err-left.field-0.0 e.1 e.2 c.in_err-left.ensures.none.0 c.in_err-left.ensures.none.1 (size_spent r.setting (bytes_of r) r.checked r.start h.spent (activation_of s) w (take s.top slots) st.current h.on (drop c.args.next (bytes_of r)) q.spelled)

pub push-top-requires : goal.push-top-requires
push-top-requires c =
    let w = c.requires.0 in let st = c.args.store.now in let q = c.requires.1 in let r = q.run in let h = q.at in let s = c.args.state in let slots = c.args.slots.now in
    room_above r s w slots st h s.top 1 (pages_in st.current.memory) h.top (over_size r.setting (bytes_of r) r.checked r.start h.spent (activation_of s) w (take s.top slots) st.current h.on c.args.next (pages_in st.current.memory) q.reads.within q.reads.spelled refl)

pub returns : goal.returns
returns c w r h q =
    let st = c.args.store.now in let s = c.args.state in let slots = c.args.slots.now in
    let on = over_size r.setting (bytes_of r) r.checked r.start h.spent (activation_of s) w (take s.top slots) st.current h.on c.args.next c.size.result q.within q.spelled c.size.ensures in
    let room = room_above r s w slots st h s.top 1 c.size.result h.top on in
    pushed r s w slots st h c.args.next s.cursor c.push-top.result c.in_ok-left.left 1 c.size.result (take s.top slots) c.push-top.new.slots st (omega arith) c.in_ok-left.ensures.some on c.push-top.ensures.slots (omega (arith, c.push-top.ensures.top, c.push-top.ensures.long, room)) c.push-top.ensures.long refl refl
