use Rattle.std.proofs.Common.{◌≡◌, true, false, length, arith, sym, ap, ◌∙◌}
use Rattle.std.specs.FinMap as table
use Rattle.std.proofs.lemmas.Bool.{leb-false}
use Rattle.quant.specs.declared.objects.Pod.{Pod}
use Rattle.queue.specs.declared.refusal.Refusal.TheVariants.{Known, Full}
use Rattle.name_table.specs.Slots.{map_of}
use Rattle.queued.specs.Entry.{Entry, new_entry}
use Rattle.queue.specs.Queue.{has_entry, is_full_queue, with_entry, refusal_to_add, after_add}
use Rattle.queue.specs.inside.Slots.{state_of}
use Rattle.queue.proofs.States.{refused, known_to_add, full_to_add, may_add, add_some, index_added, kept_added, none_found}
use Rattle.queue.proofs.queue.Queue.add.Goals as goal

pub returns-then-is_some-clause-answer : goal.returns-then-is_some-clause-answer
returns-then-is_some-clause-answer c =
    let there : has_entry (state_of c.self.inside.pods) c.args.pod.uid ≡ true = ap (λ (p : Pod). has_entry (state_of c.self.inside.pods) p.uid) (sym c.deref.ensures) ∙ sym c.find.ensures.there ∙ sym c.is_some.ensures ∙ c.if-is_some.true in
    sym (known_to_add (state_of c.self.inside.pods) c.args.pod.uid there) ∙ ap (λ q. refusal_to_add q c.args.pod.uid) c.self.view_is

pub returns-then-is_some-clause-after : goal.returns-then-is_some-clause-after
unfolding after_add
returns-then-is_some-clause-after c =
    let there : has_entry (state_of c.self.inside.pods) c.args.pod.uid ≡ true = ap (λ (p : Pod). has_entry (state_of c.self.inside.pods) p.uid) (sym c.deref.ensures) ∙ sym c.find.ensures.there ∙ sym c.is_some.ensures ∙ c.if-is_some.true in
    refused _ Known (state_of c.self.inside.pods) (with_entry (state_of c.self.inside.pods) c.args.pod.uid (new_entry c.args.pod c.args.now)) (known_to_add (state_of c.self.inside.pods) c.args.pod.uid there)
    ∙ ap (λ q. after_add q c.args.pod c.args.now) c.self.view_is

pub returns-then-is_full-clause-answer : goal.returns-then-is_full-clause-answer
returns-then-is_full-clause-answer c =
    let absent : has_entry (state_of c.self.inside.pods) c.args.pod.uid ≡ false = ap (λ (p : Pod). has_entry (state_of c.self.inside.pods) p.uid) (sym c.deref.ensures) ∙ sym c.find.ensures.there ∙ sym c.is_some.ensures ∙ c.if-is_some.false in
    let full : is_full_queue (state_of c.self.inside.pods) ≡ true = sym c.is_full.ensures.full ∙ c.if-is_full.true in
    sym (full_to_add (state_of c.self.inside.pods) c.args.pod.uid absent full) ∙ ap (λ q. refusal_to_add q c.args.pod.uid) c.self.view_is

pub returns-then-is_full-clause-after : goal.returns-then-is_full-clause-after
unfolding after_add
returns-then-is_full-clause-after c =
    let absent : has_entry (state_of c.self.inside.pods) c.args.pod.uid ≡ false = ap (λ (p : Pod). has_entry (state_of c.self.inside.pods) p.uid) (sym c.deref.ensures) ∙ sym c.find.ensures.there ∙ sym c.is_some.ensures ∙ c.if-is_some.false in
    let full : is_full_queue (state_of c.self.inside.pods) ≡ true = sym c.is_full.ensures.full ∙ c.if-is_full.true in
    refused _ Full (state_of c.self.inside.pods) (with_entry (state_of c.self.inside.pods) c.args.pod.uid (new_entry c.args.pod c.args.now)) (full_to_add (state_of c.self.inside.pods) c.args.pod.uid absent full)
    ∙ ap (λ q. after_add q c.args.pod c.args.now) c.self.view_is

-- no entry was compared
pub invariant_of-self : goal.invariant_of-self
invariant_of-self c = let kept = c.self.invariant in record { index = kept.index; once = kept.once; own_uid = kept.own_uid; limited = kept.limited; few = omega arith }

pub invariant_of-self-then-is_full : goal.invariant_of-self-then-is_full
invariant_of-self-then-is_full c = let kept = c.self.invariant in record { index = kept.index; once = kept.once; own_uid = kept.own_uid; limited = kept.limited; few = omega arith }

pub insert-slot-requires-clause-new : goal.insert-slot-requires-clause-new
insert-slot-requires-clause-new c =
    let pods = c.self.inside.pods in
    let absent : has_entry (state_of pods) c.args.pod.uid ≡ false = ap (λ (p : Pod). has_entry (state_of pods) p.uid) (sym c.deref.ensures) ∙ sym c.find.ensures.there ∙ sym c.is_some.ensures ∙ c.if-is_some.false in
    none_found _ (ap (has_entry (state_of pods)) (c.copied-uid.ensures ∙ ap (λ (p : Pod). p.uid) c.deref-2.ensures) ∙ absent)

pub insert-slot-requires-clause-room : goal.insert-slot-requires-clause-room
insert-slot-requires-clause-room c = leb-false (length c.self.inside.pods) (table.len (map_of c.self.inside.pods)) (sym c.is_full.ensures.full ∙ c.if-is_full.false)

pub enter-requires-clause-index : goal.enter-requires-clause-index
enter-requires-clause-index c =
    index_added c.self.inside.pods c.insert-slot.new.self c.self.inside.index c.insert-slot.result _ c.self.invariant.index c.insert-slot.ensures.free c.insert-slot.ensures.slots

pub enter-requires-clause-few : goal.enter-requires-clause-few
enter-requires-clause-few c = omega arith

-- the pod came into a free slot
pub invariant_of-self-2 : goal.invariant_of-self-2
invariant_of-self-2 c =
    kept_added c.self.inside.pods c.insert-slot.new.self c.self.inside.index c.enter.new.self c.insert-slot.result c.self.inside.compared c.enter.new.count (record { name = c.copied-uid.result; value = c.new.result }) c.self.invariant
    c.insert-slot.ensures.a_slot c.insert-slot.ensures.slots (ap (λ (e : Entry). e.pod.uid) c.new.ensures ∙ sym (c.copied-uid.ensures ∙ ap (λ (p : Pod). p.uid) c.deref-2.ensures)) c.insert-slot.ensures.once c.insert-slot.ensures.room
    c.enter.ensures.index (omega (arith, c.enter.ensures.counted))

pub returns-clause-answer : goal.returns-clause-answer
returns-clause-answer c =
    let absent : has_entry (state_of c.self.inside.pods) c.args.pod.uid ≡ false = ap (λ (p : Pod). has_entry (state_of c.self.inside.pods) p.uid) (sym c.deref.ensures) ∙ sym c.find.ensures.there ∙ sym c.is_some.ensures ∙ c.if-is_some.false in
    let room : is_full_queue (state_of c.self.inside.pods) ≡ false = sym c.is_full.ensures.full ∙ c.if-is_full.false in
    sym (may_add (state_of c.self.inside.pods) c.args.pod.uid absent room) ∙ ap (λ q. refusal_to_add q c.args.pod.uid) c.self.view_is

pub returns-clause-after : goal.returns-clause-after
returns-clause-after c =
    let absent : has_entry (state_of c.self.inside.pods) c.args.pod.uid ≡ false = ap (λ (p : Pod). has_entry (state_of c.self.inside.pods) p.uid) (sym c.deref.ensures) ∙ sym c.find.ensures.there ∙ sym c.is_some.ensures ∙ c.if-is_some.false in
    let room : is_full_queue (state_of c.self.inside.pods) ≡ false = sym c.is_full.ensures.full ∙ c.if-is_full.false in
    add_some c.self.inside.pods c.insert-slot.new.self c.args.pod c.args.now c.copied-uid.result c.new.result absent room (c.copied-uid.ensures ∙ ap (λ (p : Pod). p.uid) c.deref-2.ensures) c.new.ensures c.insert-slot.ensures.room c.insert-slot.ensures.map
    ∙ ap (λ q. after_add q c.args.pod c.args.now) c.self.view_is
