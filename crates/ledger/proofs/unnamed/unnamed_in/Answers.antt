use Rattle.std.proofs.Common.{◌≡◌, ℕ, List, [], ◌∷◌, ◌++◌, refl, sym, ap, ◌∙◌}
use Rattle.ledger.proofs.Omitted.{step, with_name, without_name, without_slot, all_in_order}
use Rattle.ledger.proofs.unnamed.unnamed_in.Goals as goal
use Rattle.ledger.proofs.unnamed.unnamed_in.Goals.{then-list-lists+in-Ok, else-list-lists}

-- what a name was added to has the name that was copied
pushed : (after names : List (List ℕ)) (copy name : List ℕ) (items : List (List ℕ)) → after ≡ items → items ≡ names ++ copy ∷ [] → copy ≡ name → after ≡ names ++ name ∷ []
pushed after names copy name items is added same = is ∙ added ∙ ap (λ n. names ++ n ∷ []) same

-- a free slot has no name
pub loop-slot-preserved-in_default : goal.loop-slot-preserved-in_default
loop-slot-preserved-in_default g c =
    let names = c.loop-slot.names.items in
    step g.V.Listed.list c.args.lists c.slots-slot-items.result.now c.loop-slot.slot-index c.slot-item.result names names c.loop-slot-test.true c.slot-item.is c.loop-slot.invariant
    (without_slot g.V.Listed.list c.args.lists names names c.slot-item.result c.in_default.is refl)

-- and another has one, which is added where it wasn't told since
pub loop-slot-preserved : goal.loop-slot-preserved
loop-slot-preserved g c =
    let names = c.loop-slot.names.items in
    let after = c.if-list-lists.names.items in
    step g.V.Listed.list c.args.lists c.slots-slot-items.result.now c.loop-slot.slot-index c.slot-item.result names after c.loop-slot-test.true c.slot-item.is c.loop-slot.invariant
    (
    elim c.if-list-lists.branch [
      | then-list-lists+in-Ok w ↦
          with_name g.V.Listed.list c.args.lists names after c.slot-item.result c.in-Some.entry c.in-Some.is (λ same. w.if-list-lists.true (c.list.ensures ∙ same))
          (pushed after names w.copied.result c.in-Some.entry.name w.push.new.self.items (ap (λ (v : _). v.items) w.names-is) w.in-Ok.ensures.items w.copied.ensures)
      | else-list-lists w ↦
          without_name g.V.Listed.list c.args.lists names after c.slot-item.result c.in-Some.entry c.in-Some.is (sym c.list.ensures ∙ w.if-list-lists.false) (ap (λ (v : _). v.items) w.names-is)
    ]
    )

-- once all slots were gone over, they are put in order
pub returns : goal.returns
returns g c =
    all_in_order g.V.Listed.list c.args.lists c.slots-slot-items.result.now c.args.table.now _ c.loop-slot.slot-index c.loop-slot.names.items c.sort_unstable.new.self.items
    c.len-once.ensures.once c.slots-slot-items.ensures c.loop-slot-test.false c.loop-slot.invariant c.sort_unstable.ensures.permutation c.sort_unstable.ensures.sorted
