use Rattle.std.proofs.Common.{[], ◌∷◌, ◌++◌, take, ap, ◌∙◌, arith}
use Rattle.wmach.proofs.Arms.{pushed_free, room_above}
use Rattle.wmach.proofs.OverVariables.{over_const}
use Rattle.wstore.specs.Values.{word_of}
use Rattle.wmach.specs.inside.Running.{activation_of, bytes_of}
use Rattle.wmach.proofs.plain.constant.Goals as goal

pub push-top-requires : goal.push-top-requires
push-top-requires c =
    let w = c.requires.0 in let st = c.requires.1 in let q = c.requires.2 in let r = q.run in let h = q.at in let s = c.args.state in let slots = c.args.slots.now in
    room_above r s w slots st h s.top 0 (word_of c.args.value) h.top (over_const r.setting (bytes_of r) r.checked r.start h.spent (activation_of s) w (take s.top slots) st.current h.on c.args.value c.args.next q.reads.within q.reads.spelled)

pub returns : goal.returns
returns c w st r h q =
    let s = c.args.state in let slots = c.args.slots.now in
    let on = over_const r.setting (bytes_of r) r.checked r.start h.spent (activation_of s) w (take s.top slots) st.current h.on c.args.value c.args.next q.within q.spelled in
    let room = room_above r s w slots st h s.top 0 (word_of c.args.value) h.top on in
    pushed_free r s w slots st h c.args.next s.cursor c.push-top.result (word_of c.args.value) (take s.top slots) c.push-top.new.slots q.later on (c.push-top.ensures.slots ∙ ap (λ n. take s.top slots ++ n ∷ []) c.number_of.ensures) (omega (arith, c.push-top.ensures.top, c.push-top.ensures.long, room)) c.push-top.ensures.long
