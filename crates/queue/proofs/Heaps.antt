-- What each step of a heap of slots keeps.
use Rattle.std.proofs.Common.{◌≡◌, ℕ, zero, suc, ◌+◌, ◌-◌, ◌*◌, ◌/◌, ◌<◌, ◌≤◌, Bool, true, false, ⊎_elim, List, [], ◌∷◌, length, arith, refl, sym, ap, subst, ◌∙◌}
use Rattle.std.specs.Prelude.{◌≢◌, IsSome}
use Rattle.name_table.specs.declared.entry.Entry.{Entry as Named}
use Rattle.name_table.specs.Slots.{entry_in}
use Rattle.queued.specs.Entry.{Entry}
use Rattle.std.specs.Cmp.{IsTotalOrder, IsStrictWeakOrder}
use Rattle.std.specs.Cmp.Lexicographic.{options_total}
use Rattle.std.proofs.lemmas.Cmp.{on_total, then_total, nat_cmp_total}
use Rattle.std.proofs.lemmas.List.MinMax.{ranks_by}
use Rattle.queue.specs.Order.{Item}
use Rattle.queue.specs.inside.Row.{at, IsSwapped, IsPushed, HasSame}
use Rattle.queue.specs.inside.Heap.{Pods, wait_cmp, item_in, goes_before, AllThere, IsHeap, GoesFirst, IsHeapBut}
use Rattle.queued.specs.Change.{moment_of}
use Rattle.queue.proofs.Ranks.{item_laws}
use Rattle.queue.proofs.Rows.{same_or_not, with_pushed}

-- what a slot has
abbrev pub Kept : Type 0
Kept = Named Entry

-- the laws of the heaps' order
pub wait_laws : IsTotalOrder wait_cmp
wait_laws = then_total (on_total (λ (item : Item). moment_of item.1.state) nat_cmp_total) item_laws

-- and of slots
pub slot_laws : (pods : Pods) → IsStrictWeakOrder (goes_before pods)
unfolding goes_before
slot_laws pods = ranks_by (options_total wait_laws) (item_in pods)

-- what goes before neither of two in turn does not go before the first
pub chained : (pods : Pods) (a b c : ℕ) → goes_before pods a b ≡ false → goes_before pods b c ≡ false → goes_before pods a c ≡ false
chained pods = (slot_laws pods).chain

-- what goes before is not gone before
pub one_way : (pods : Pods) (a b : ℕ) → goes_before pods a b ≡ true → goes_before pods b a ≡ false
one_way pods = (slot_laws pods).one_way

-- no slot goes before itself
pub not_itself : (pods : Pods) (a b : ℕ) → a ≡ b → goes_before pods a b ≡ false
not_itself pods a b same =
    elim (goes_before pods a b) as (λ v. goes_before pods a b ≡ v → v ≡ false) [
      | true ↦ λ h. sym h ∙ ap (λ (s : ℕ). goes_before pods s b) same ∙ ap (goes_before pods b) (sym same) ∙ one_way pods a b h
      | false ↦ λ h. refl
    ] refl

-- a slot that has an entry is one of the slots
pub a_slot : (pods : Pods) (s : ℕ) → IsSome (entry_in pods s) → s < length pods
a_slot [] s there = cc
a_slot (o ∷ pods) zero there = omega arith
a_slot (o ∷ pods) (suc s) there = let rest : s < length pods = a_slot pods s there in omega arith

-- the same, of other slots that are equal
by : (pods : Pods) (a b x y : ℕ) → a ≡ x → b ≡ y → goes_before pods x y ≡ false → goes_before pods a b ≡ false
by pods a b x y p q h = (λ i. goes_before pods (p i) (q i)) ∙ h

-- what a comparison of two slots that were read says
pub compared : (pods : Pods) (a b x y : ℕ) (r v : Bool) → r ≡ goes_before pods a b → a ≡ x → b ≡ y → r ≡ v → goes_before pods x y ≡ v
compared pods a b x y r v answer p q is = (λ i. goes_before pods (sym p i) (sym q i)) ∙ sym answer ∙ is

-- the hole goes down: the child that goes first takes its place
pub fallen : (pods : Pods) (xs ys : List ℕ) (j c : ℕ) → j * 2 + 1 ≤ c → c ≤ j * 2 + 2 → c < length xs → IsSwapped xs ys j c → GoesFirst pods xs j c → IsHeapBut pods xs j → IsHeapBut pods ys c
fallen pods xs ys j c low high within s best hole = record {
  others = λ p k a b f u v. ⊎_elim
      (λ (e : p ≡ j). by pods _ _ _ _ (s.others k (omega arith) v) (ap (at ys) e ∙ s.first) (best k (omega arith) (omega arith) (omega (arith, s.len))))
      (λ (w : p ≢ j). ⊎_elim
      (λ (e : k ≡ j). by pods _ _ _ _ (ap (at ys) e ∙ s.first) (s.others p w u) (hole.across p c (omega arith) (omega arith) low high within))
      (λ (z : k ≢ j). by pods _ _ _ _ (s.others k z v) (s.others p w u) (hole.others p k a b (omega (arith, s.len)) w z))
      (same_or_not k j))
      (same_or_not p j);
  across = λ p k a b f g i.
      let e : p ≡ j = omega arith in
      by pods _ _ _ _ (s.others k (omega arith) (omega arith)) (ap (at ys) e ∙ s.first) (hole.others c k f g (omega (arith, s.len)) (omega arith) (omega arith));
}

-- the hole goes up: its slot goes before its parent, and takes its place
pub risen : (pods : Pods) (xs ys : List ℕ) (j c : ℕ) → j * 2 + 1 ≤ c → c ≤ j * 2 + 2 → c < length xs → IsSwapped xs ys j c → goes_before pods (at xs c) (at xs j) ≡ true → IsHeapBut pods xs c → IsHeapBut pods ys j
risen pods xs ys j c low high within s before hole = record {
  others = λ p k a b f u v. ⊎_elim
      (λ (e : p ≡ c). by pods _ _ _ _ (s.others k v (omega arith)) (ap (at ys) e ∙ s.second) (hole.across j k low high (omega arith) (omega arith) (omega (arith, s.len))))
      (λ (w : p ≢ c).
      let z : k ≢ c = omega arith in
      by pods _ _ _ _ (s.others k v z) (s.others p u w) (hole.others p k a b (omega (arith, s.len)) w z))
      (same_or_not p c);
  across = λ p k a b f g i.
      let over : goes_before pods (at xs j) (at xs p) ≡ false = hole.others p j a b (omega arith) (omega arith) (omega arith) in
      let same : at ys p ≡ at xs p = s.others p (omega arith) (omega arith) in
      ⊎_elim
      (λ (e : k ≡ c). by pods _ _ _ _ (ap (at ys) e ∙ s.second) same over)
      (λ (w : k ≢ c). by pods _ _ _ _ (s.others k (omega arith) w) same (chained pods _ _ _ (hole.others j k f g (omega (arith, s.len)) (omega arith) w) over))
      (same_or_not k c);
}

-- and its new children do not go before it
pub risen_first : (pods : Pods) (xs ys : List ℕ) (j c : ℕ) → j * 2 + 1 ≤ c → c ≤ j * 2 + 2 → c < length xs → IsSwapped xs ys j c → goes_before pods (at xs c) (at xs j) ≡ true → IsHeapBut pods xs c → GoesFirst pods ys j j
risen_first pods xs ys j c low high within s before hole k a b f =
    ⊎_elim
    (λ (e : k ≡ c). by pods _ _ _ _ (ap (at ys) e ∙ s.second) s.first (one_way pods _ _ before))
    (λ (w : k ≢ c). by pods _ _ _ _ (s.others k (omega arith) w) s.first (chained pods _ _ _ (hole.others j k a b (omega (arith, s.len)) (omega arith) w) (one_way pods _ _ before)))
    (same_or_not k c)

-- the second child goes first, where it goes before the first one
pub second_child : (pods : Pods) (xs : List ℕ) (j left right : ℕ) → left ≡ j * 2 + 1 → right ≡ left + 1 → goes_before pods (at xs right) (at xs left) ≡ true → GoesFirst pods xs j right
second_child pods xs j left right is next before k a b f =
    ⊎_elim
    (λ (e : k ≡ right). not_itself pods _ _ (ap (at xs) e))
    (λ (u : k ≢ right). let e : k ≡ left = omega arith in by pods _ _ _ _ (ap (at xs) e) refl (one_way pods _ _ before))
    (same_or_not k right)

-- and the first one, where the second does not go before it, or is not there
pub first_child : (pods : Pods) (xs : List ℕ) (j left right : ℕ) → left ≡ j * 2 + 1 → right ≡ left + 1 → (right < length xs → goes_before pods (at xs right) (at xs left) ≡ false) → GoesFirst pods xs j left
first_child pods xs j left right is next late k a b f =
    ⊎_elim
    (λ (e : k ≡ left). not_itself pods _ _ (ap (at xs) e))
    (λ (u : k ≢ left). let e : k ≡ right = omega arith in by pods _ _ _ _ (ap (at xs) e) refl (late (omega arith)))
    (same_or_not k left)

-- nothing in a heap goes before its top
top_by : (pods : Pods) (xs : List ℕ) → IsHeap pods xs → (fuel k : ℕ) → k ≤ fuel → k < length xs → goes_before pods (at xs k) (at xs 0) ≡ false
top_by pods xs heap zero k few within = not_itself pods _ _ (ap (at xs) (omega arith))
top_by pods xs heap (suc fuel) k few within =
    ⊎_elim
    (λ (e : k ≡ 0). not_itself pods _ _ (ap (at xs) e))
    (λ (u : k ≢ 0). chained pods _ _ _ (heap ((k - 1) / 2) k (omega arith) (omega arith) within) (top_by pods xs heap fuel ((k - 1) / 2) (omega arith) (omega arith)))
    (same_or_not k 0)

-- the same
pub top : (pods : Pods) (xs : List ℕ) (k : ℕ) → IsHeap pods xs → k < length xs → goes_before pods (at xs k) (at xs 0) ≡ false
top pods xs k heap within = top_by pods xs heap k k (omega arith) within

-- a heap with one slot more behind it is one but for that slot
pub added : (pods : Pods) (xs ys : List ℕ) (s : ℕ) → IsPushed xs ys s → IsHeap pods xs → IsHeapBut pods ys (length xs)
added pods xs ys s w heap = record {
  others = λ p k a b f u v. by pods _ _ _ _ (w.others k (omega (arith, w.len))) (w.others p (omega (arith, w.len))) (heap p k a b (omega (arith, w.len)));
  across = λ p k a b f g i. absurd (omega (arith, w.len));
}

-- a heap without the slot at a place, in which the last one stands now, is one but for that place
pub replaced : (pods : Pods) (xs ys zs : List ℕ) (j last s : ℕ) → last + 1 ≡ length xs → j < last → IsHeap pods xs → IsSwapped xs ys j last → IsPushed zs ys s → IsHeapBut pods zs j
replaced pods xs ys zs j last s end inside heap swapped popped =
    let keeps : (k : ℕ) → k < last → (k ≢ j) → at zs k ≡ at xs k = λ k low other. sym (popped.others k (omega (arith, popped.len, swapped.len))) ∙ swapped.others k other (omega arith) in
    record {
      others = λ p k a b f u v. by pods _ _ _ _ (keeps k (omega (arith, popped.len, swapped.len)) v) (keeps p (omega (arith, popped.len, swapped.len)) u) (heap p k a b (omega (arith, popped.len, swapped.len)));
      across = λ p k a b f g i. by pods _ _ _ _ (keeps k (omega (arith, popped.len, swapped.len)) (omega arith)) (keeps p (omega arith) (omega arith)) (chained pods _ _ _ (heap j k f g (omega (arith, popped.len, swapped.len))) (heap p j a b (omega arith)));
    }

-- each slot has an entry where one comes that has one
pub all_pushed : (pods : Pods) (xs ys : List ℕ) (s : ℕ) → IsPushed xs ys s → AllThere pods xs → IsSome (entry_in pods s) → AllThere pods ys
all_pushed pods xs ys s w there filled t is =
    ⊎_elim (λ (same : t ≡ s). subst (λ n. IsSome (entry_in pods n)) (sym same) filled) (λ (other : t ≢ s). there t ((with_pushed xs ys s w).back t is other))
    (same_or_not t s)

-- and where the last one goes
pub all_popped : (pods : Pods) (xs ys zs : List ℕ) (s : ℕ) → HasSame xs ys → IsPushed zs ys s → AllThere pods xs → AllThere pods zs
all_popped pods xs ys zs s h w there t is =
    there t (h.back t record { place = is.place; within = omega (arith, w.len, is.within); is = w.others is.place is.within ∙ is.is })
