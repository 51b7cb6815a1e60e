use Rattle.std.proofs.Common.{◌≡◌, ℕ, ◌+◌, ◌<◌, ◌≤◌, List, length, arith, sym, ap, ◌∙◌, subst}
use Rattle.std.proofs.lemmas.List.{get_or_read}
use Rattle.queue.specs.inside.Row.{SlotRow, at, IsIn, IsInverse, IsSwapped}
use Rattle.queue.proofs.Rows.{pushed, row_written, stands_behind}
use Rattle.queue.proofs.row.Row.push.Goals as goal

-- a place that isn't in the row is behind it
next_is : (len place n : ℕ) → len ≤ place → place < n → len + 1 ≤ n
next_is len place n high there = omega arith

below : (len place n : ℕ) → len ≤ place → place < n → len < n
below len place n high there = omega arith

pub exchange-requires-clause-inverse : goal.exchange-requires-clause-inverse
exchange-requires-clause-inverse c =
    subst (λ l. IsInverse l c.deref_mut-2.result.now) (sym c.deref_mut.ensures.value)
    (subst (λ l. IsInverse c.self.inside.slots.items l) (sym c.deref_mut-2.ensures.value) c.self.invariant.inverse)

-- and the place is one of all
pub exchange-requires-clause-few : goal.exchange-requires-clause-few
exchange-requires-clause-few c = omega (arith, ap length c.deref_mut.ensures.value, c.self.inside.slots.ok.0, c.self.invariant.few)

pub exchange-requires-clause-first : goal.exchange-requires-clause-first
exchange-requires-clause-first c =
    let row = c.self.inside in
    let slot : c.args.slot < length row.slots.items = subst (λ (n : ℕ). c.args.slot < n) row.slots.ok.0 (subst (λ (n : ℕ). c.args.slot < n) (sym (ap (λ (r : SlotRow). r.room) c.self.view_is)) c.requires.a_slot) in
    let read : c.index.result.now ≡ at row.places.items c.args.slot = get_or_read row.places.items c.args.slot c.index.result.now (subst (λ (n : ℕ). c.args.slot < n) (sym c.self.invariant.inverse.as_many) slot) c.index.ensures 0 in
    let stands = stands_behind row.slots.items row.places.items row.len c.index.result.now c.args.slot c.self.invariant.inverse slot read (subst (λ (n : ℕ). row.len ≤ n) row.slots.ok.0 c.self.invariant.within) (λ there. c.requires.new (subst (λ (r : SlotRow). IsIn r.slots c.args.slot) c.self.view_is there)) in
    subst (λ l. row.len < length l) (sym c.deref_mut.ensures.value) (below row.len c.index.result.now (length row.slots.items) stands.1 stands.2)

pub exchange-requires-clause-second : goal.exchange-requires-clause-second
exchange-requires-clause-second c =
    let row = c.self.inside in
    let slot : c.args.slot < length row.slots.items = subst (λ (n : ℕ). c.args.slot < n) row.slots.ok.0 (subst (λ (n : ℕ). c.args.slot < n) (sym (ap (λ (r : SlotRow). r.room) c.self.view_is)) c.requires.a_slot) in
    let read : c.index.result.now ≡ at row.places.items c.args.slot = get_or_read row.places.items c.args.slot c.index.result.now (subst (λ (n : ℕ). c.args.slot < n) (sym c.self.invariant.inverse.as_many) slot) c.index.ensures 0 in
    let stands = stands_behind row.slots.items row.places.items row.len c.index.result.now c.args.slot c.self.invariant.inverse slot read (subst (λ (n : ℕ). row.len ≤ n) row.slots.ok.0 c.self.invariant.within) (λ there. c.requires.new (subst (λ (r : SlotRow). IsIn r.slots c.args.slot) c.self.view_is there)) in
    subst (λ l. c.index.result.now < length l) (sym c.deref_mut.ensures.value) stands.2

pub overflow_add-self : goal.overflow_add-self
overflow_add-self c = omega (arith, c.self.invariant.within, c.self.invariant.few)

-- what is written back are the slots and their places
pub invariant_of-self : goal.invariant_of-self
invariant_of-self c =
    let row = c.self.inside in
    let slot : c.args.slot < length row.slots.items = subst (λ (n : ℕ). c.args.slot < n) row.slots.ok.0 (subst (λ (n : ℕ). c.args.slot < n) (sym (ap (λ (r : SlotRow). r.room) c.self.view_is)) c.requires.a_slot) in
    let read : c.index.result.now ≡ at row.places.items c.args.slot = get_or_read row.places.items c.args.slot c.index.result.now (subst (λ (n : ℕ). c.args.slot < n) (sym c.self.invariant.inverse.as_many) slot) c.index.ensures 0 in
    let stands = stands_behind row.slots.items row.places.items row.len c.index.result.now c.args.slot c.self.invariant.inverse slot read (subst (λ (n : ℕ). row.len ≤ n) row.slots.ok.0 c.self.invariant.within) (λ there. c.requires.new (subst (λ (r : SlotRow). IsIn r.slots c.args.slot) c.self.view_is there)) in
    row_written _ _ _ _ _ (c.exchange.auto.slots ∙ c.deref_mut.ensures.len) (c.exchange.auto.places ∙ c.deref_mut-2.ensures.len) c.exchange.ensures.inverse
    (next_is row.len c.index.result.now row.slots.len stands.1 (subst (λ (n : ℕ). c.index.result.now < n) (sym row.slots.ok.0) stands.2)) c.self.invariant.few

pub returns-clause-pushed : goal.returns-clause-pushed
returns-clause-pushed c =
    let row = c.self.inside in
    let slot : c.args.slot < length row.slots.items = subst (λ (n : ℕ). c.args.slot < n) row.slots.ok.0 (subst (λ (n : ℕ). c.args.slot < n) (sym (ap (λ (r : SlotRow). r.room) c.self.view_is)) c.requires.a_slot) in
    let read : c.index.result.now ≡ at row.places.items c.args.slot = get_or_read row.places.items c.args.slot c.index.result.now (subst (λ (n : ℕ). c.args.slot < n) (sym c.self.invariant.inverse.as_many) slot) c.index.ensures 0 in
    let stands = stands_behind row.slots.items row.places.items row.len c.index.result.now c.args.slot c.self.invariant.inverse slot read (subst (λ (n : ℕ). row.len ≤ n) row.slots.ok.0 c.self.invariant.within) (λ there. c.requires.new (subst (λ (r : SlotRow). IsIn r.slots c.args.slot) c.self.view_is there)) in
    let swapped : IsSwapped row.slots.items c.exchange.new.slots row.len c.index.result.now = subst (λ (l : List ℕ). IsSwapped l c.exchange.new.slots row.len c.index.result.now) c.deref_mut.ensures.value c.exchange.ensures.swapped in
    pushed c.args.self.now.slots row.slots.items c.exchange.new.slots row.slots.len row.len c.index.result.now c.args.slot (ap (λ (r : SlotRow). r.slots) c.self.view_is) row.slots.ok.0
    (below row.len c.index.result.now row.slots.len stands.1 (subst (λ (n : ℕ). c.index.result.now < n) (sym row.slots.ok.0) stands.2)) swapped stands.0 stands.1
