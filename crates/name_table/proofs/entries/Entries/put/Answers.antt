-- A slot that isn't written yet is within the room, and so there is capacity for it.
use Rattle.std.proofs.Common.{◌≡◌, ℕ, ◌-◌, ◌+◌, ◌<◌, ◌≤◌, [], ◌∷◌, ◌++◌, length, set, None, Some, sym, ap, ◌∙◌, arith}
use Rattle.std.specs.Vec.{vec_len, vec_capacity}
use Rattle.name_table.specs.Slots.{Slots, with_free}
use Rattle.name_table.proofs.FreeLemmas.{free_many, free_set, free_more}
use Rattle.name_table.proofs.entries.Entries.put.Goals as goal

-- there is room for the slot
in_room : {X : Type 0} (s now : Slots X) (n room slot : ℕ) → n ≡ length s → n ≤ room → with_free s room ≡ now → slot < length now → slot < room
in_room s now n room slot len within same lt = omega (arith, free_many s room (omega arith), ap length same)

pub loop-self-init : goal.loop-self-init
loop-self-init g c = record { same = c.self.view_is; within = c.self.invariant.0; fits = c.self.invariant.1 }

pub unwrap-requires : goal.unwrap-requires
unwrap-requires g c =
    let v = c.loop-self.self-inside.written in
    let room = c.loop-self.self-inside.room in
    let i = c.loop-self.invariant in
    let lt : c.args.slot < room = in_room v.items c.args.self.now (vec_len v) room c.args.slot v.ok.0 i.within i.same c.requires in
    let fits : room ≤ vec_capacity v = i.fits in
    let test : c.len.result ≤ c.args.slot = c.loop-self-test.true in
    let len : c.len.result ≡ vec_len v = c.len.ensures in
    c.push.ensures.succeeds (omega arith)

pub loop-self-smaller : goal.loop-self-smaller
loop-self-smaller g c =
    let v = c.loop-self.self-inside.written in
    let room = c.loop-self.self-inside.room in
    let i = c.loop-self.invariant in
    let lt : c.args.slot < room = in_room v.items c.args.self.now (vec_len v) room c.args.slot v.ok.0 i.within i.same c.requires in
    let test : c.len.result ≤ c.args.slot = c.loop-self-test.true in
    let len : c.len.result ≡ vec_len v = c.len.ensures in
    let more : vec_len c.push.new.self ≡ vec_len v + 1 = rw c.unwrap.ensures at c.push.ensures.len in
    let less : room - vec_len c.push.new.self < room - vec_len v = omega arith in
    less

pub loop-self-preserved : goal.loop-self-preserved
loop-self-preserved g c =
    let v = c.loop-self.self-inside.written in
    let room = c.loop-self.self-inside.room in
    let i = c.loop-self.invariant in
    let lt : c.args.slot < room = in_room v.items c.args.self.now (vec_len v) room c.args.slot v.ok.0 i.within i.same c.requires in
    let test : c.len.result ≤ c.args.slot = c.loop-self-test.true in
    let len : c.len.result ≡ vec_len v = c.len.ensures in
    let long : vec_len v ≡ length v.items = v.ok.0 in
    let more : vec_len c.push.new.self ≡ vec_len v + 1 = rw c.unwrap.ensures at c.push.ensures.len in
    let items : c.push.new.self.items ≡ v.items ++ None ∷ [] = rw c.unwrap.ensures at c.push.ensures.items in
    let fits : room ≤ vec_capacity v = i.fits in
    let kept : vec_capacity v ≤ vec_capacity c.push.new.self = c.push.ensures.capacity in
    record {
      same = ap (λ z. with_free z room) items ∙ free_more v.items room (omega arith) ∙ i.same;
      within = omega arith;
      fits = omega arith;
    }

pub invariant_of-self : goal.invariant_of-self
invariant_of-self g c = (c.loop-self.invariant.within, c.loop-self.invariant.fits)

pub returns : goal.returns
returns g c =
    let s = c.loop-self.self-inside.written.items in
    let room = c.loop-self.self-inside.room in
    let test : c.args.slot < c.len.result = c.loop-self-test.false in
    let len = c.len.ensures in
    let long = c.loop-self.self-inside.written.ok.0 in
    let lt : c.args.slot < length s = omega arith in
    sym (free_set s room c.args.slot (Some c.args.entry) lt) ∙ ap (λ z. set z c.args.slot (Some c.args.entry)) c.loop-self.invariant.same
