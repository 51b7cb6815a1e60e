use Rattle.std.proofs.Common.{◌≡◌, ◌≤◌, List, ℕ, length, take, sym, ap, ◌∙◌, subst}
use Rattle.std.proofs.lemmas.List.{with_items_is}
use Rattle.queue.specs.inside.Row.{SlotRow, IsInverse, IsSwapped}
use Rattle.queue.proofs.Rows.{front_swapped, in_front, row_written}
use Rattle.queue.proofs.row.Row.swap.Goals as goal

pub exchange-requires-clause-inverse : goal.exchange-requires-clause-inverse
exchange-requires-clause-inverse c =
    subst (λ l. IsInverse l c.deref_mut-2.result.now) (sym c.deref_mut.ensures.value)
    (subst (λ l. IsInverse c.self.inside.slots.items l) (sym c.deref_mut-2.ensures.value) c.self.invariant.inverse)

-- what is written back are the slots and their places
pub invariant_of-self : goal.invariant_of-self
invariant_of-self c =
    row_written _ _ _ _ _ (c.exchange.auto.slots ∙ c.deref_mut.ensures.len) (c.exchange.auto.places ∙ c.deref_mut-2.ensures.len) c.exchange.ensures.inverse c.self.invariant.within c.self.invariant.few

pub returns-clause-swapped : goal.returns-clause-swapped
returns-clause-swapped c =
    let row = c.self.inside in
    let made = c.exchange.new.slots in
    let was : take row.len row.slots.items ≡ c.args.self.now.slots = ap (λ (r : SlotRow). r.slots) c.self.view_is in
    let fits : row.len ≤ length row.slots.items = subst (λ n. row.len ≤ n) row.slots.ok.0 c.self.invariant.within in
    let swapped : IsSwapped row.slots.items made c.args.i c.args.j = subst (λ (l : List ℕ). IsSwapped l made c.args.i c.args.j) c.deref_mut.ensures.value c.exchange.ensures.swapped in
    subst (λ (l : List ℕ). IsSwapped c.args.self.now.slots (take row.len l) c.args.i c.args.j) (sym (with_items_is row.slots made (c.exchange.auto.slots ∙ c.deref_mut.ensures.len)))
    (subst (λ (l : List ℕ). IsSwapped l (take row.len made) c.args.i c.args.j) was
    (front_swapped row.slots.items made row.len c.args.i c.args.j fits (in_front _ _ _ _ was fits c.requires.first) (in_front _ _ _ _ was fits c.requires.second) swapped))
