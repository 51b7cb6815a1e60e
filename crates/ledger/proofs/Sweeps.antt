-- A sweep of a table, slot by slot.
use Rattle.std.proofs.Common.{◌≡◌, ◌≢◌, ◌⊎◌, inl, inr, ℕ, ◌+◌, ◌<◌, ◌≤◌, false, List, Option, None, Some, length, set, refl, sym, ap, subst, ◌∙◌, arith, get_or-set_same, get_or-set_other}
use Rattle.std.specs.Prelude.{if◌then◌else◌}
use Rattle.std.specs.Str.{bytes_eq}
use Rattle.std.specs.Cmp.Lexicographic.{nat_list_cmp_total, bytes_decides}
use Rattle.std.specs.FinMap.{get, len, get-remove, remove}
use Rattle.std.proofs.lemmas.Bool.Decides.{nat_tests, eqb_tells}
use Rattle.std.proofs.lemmas.Bool.{cases_Bool}
use Rattle.name_table.proofs.FreeLemmas.{free_past}
use Rattle.name_table.proofs.SlotLemmas.{slot_with, map_at, within}
use Rattle.name_table.specs.declared.entry.Entry.{Entry}
use Rattle.name_table.specs.Slots.{Slots, entry_in, map_of, with_free, NamesOnce}
use Rattle.book.specs.Cluster.{Cluster}
use Rattle.book.proofs.TableLemmas.{same_test}
use Rattle.ledger.specs.Lists.{Side, is_named, is_left, IsSwept}
use Rattle.ledger.specs.inside.Swept.{IsTakenOut, IsWithout, IsNamedIn, IsSlotSwept}

-- what a written slot has
pub read_slot : {X : Type 0} (s t : Slots X) (slot : ℕ) (o : Option (Entry X)) → with_free s (length t) ≡ t → o ≡ entry_in s slot → entry_in t slot ≡ o
read_slot s t slot o is read = ap (λ l. entry_in l slot) (sym is) ∙ free_past s (length t) slot ∙ sym read

module _ {X Y R : Type 0} (side : Side X Y R) where
  -- the entry of a slot was named
  pub named_in : (lists slot : ℕ) (e : Entry X) (s : Slots X) → entry_in s slot ≡ Some e → side.list e.value ≡ lists → IsNamedIn side lists slot s
  named_in lists slot e s there named f is = let one : f ≡ e = cc in ap (λ (g : Entry X). side.list g.value) one ∙ named

  -- or it wasn't, and was taken out
  pub taken_out : (lists slot : ℕ) (e f : Entry X) (old new : Slots X) → NamesOnce old → entry_in old slot ≡ Some e → side.list e.value ≢ lists → entry_in old slot ≡ Some f → new ≡ set old slot None → map_of new ≡ remove (map_of old) f.name → IsTakenOut side lists slot f old new
  taken_out lists slot e f old new once is unnamed there slots map = record {
    there = there;
    unnamed = λ same. unnamed (let one : e ≡ f = cc in ap (λ (g : Entry X). side.list g.value) one ∙ same);
    known = map_at old slot f once there;
    slots = slots;
    map = map;
  }

  -- what is known of an object, and what stands of it in the book, is as before, or it was unnamed
  -- and is gone
  abbrev pub SameOrGone : ℕ → Slots X → Slots X → Cluster → Cluster → List ℕ → Type 0
  SameOrGone lists old now book left name =
      ((get (map_of now) name ≡ get (map_of old) name) × (get (side.table left) name ≡ get (side.table book) name))
      ⊎ ((is_named side.list lists (get (map_of old) name) ≡ false) × (get (map_of now) name ≡ None) × (get (side.table left) name ≡ (if is_left side lists (get (map_of old) name) then get (side.table book) name else None)))

  -- so many slots were swept
  pub record SoFar (lists i : ℕ) (old now : Slots X) (book left : Cluster) : Type 0 where
    pub room : length now ≡ length old
    pub once : NamesOnce now
    pub each : (name : List ℕ) → SameOrGone lists old now book left name
    pub earlier : (j : ℕ) → j < i → IsNamedIn side lists j now
    pub rest : side.rest left ≡ side.rest book
    pub version : left.version ≤ book.version + i
    pub counted : left.version + len (side.table left) ≡ book.version + len (side.table book)

  pub begun : (lists : ℕ) (old : Slots X) (book : Cluster) → NamesOnce old → SoFar lists 0 old old book book
  begun lists old book once = record {
    room = refl;
    once = once;
    each = λ name. inl (refl, refl);
    earlier = λ j lt. absurd (omega arith);
    rest = refl;
    version = omega arith;
    counted = refl;
  }

  -- an object that is taken out
  out_of : (lists i : ℕ) (old now new : Slots X) (book left next : Cluster) (e : Entry X) → IsTakenOut side lists i e now new → IsWithout side e left next → (name : List ℕ) → SameOrGone lists old now book left name → SameOrGone lists old new book next name
  out_of lists i old now new book left next e out without name was = elim (cases_Bool (bytes_eq name e.name)) [
    | inl is ↦ elim was [
      | inl same ↦
          let here : name ≡ e.name = (bytes_decides name e.name).0 is in
          let known : get (map_of old) name ≡ Some e.value = sym same.0 ∙ ap (get (map_of now)) here ∙ out.known in
          inr (grind (arith, nat_tests, known, out.unnamed), ap (λ m. get m name) out.map ∙ grind (arith, get-remove nat_list_cmp_total (map_of now) e.name name, same_test name e.name, is), grind (arith, nat_tests, known, out.unnamed, without.standing name, is, same.1))
      | inr gone ↦ absurd (let known : get (map_of now) name ≡ Some e.value = ap (get (map_of now)) ((bytes_decides name e.name).0 is) ∙ out.known in cc)
    ]
    | inr isnt ↦
        let rest : get (map_of new) name ≡ get (map_of now) name = ap (λ m. get m name) out.map ∙ grind (arith, get-remove nat_list_cmp_total (map_of now) e.name name, same_test name e.name, isnt) in
        let place : get (side.table next) name ≡ get (side.table left) name = grind (arith, without.standing name, isnt) in
        elim was [
          | inl same ↦ inl (rest ∙ same.0, place ∙ same.1)
          | inr gone ↦ inr (gone.0, rest ∙ gone.1, place ∙ gone.2)
        ]
  ]

  -- an earlier slot still has what was named
  earlier_out : (lists i : ℕ) (e : Entry X) (now new : Slots X) → IsTakenOut side lists i e now new → ((j : ℕ) → j < i → IsNamedIn side lists j now) → (j : ℕ) → j < i + 1 → IsNamedIn side lists j new
  earlier_out lists i e now new out was j lt f is = elim (eqb_tells j i) [
    | inl same ↦ absurd (let gone : entry_in new j ≡ None = ap (λ s. entry_in s j) out.slots ∙ ap (entry_in (set now i None)) same.1 ∙ get_or-set_same now i None None (within now i e out.there) in cc)
    | inr other ↦ was j (omega (arith, other.1)) f (sym (ap (λ s. entry_in s j) out.slots ∙ get_or-set_other now i j None None other.1) ∙ is)
  ]

  pub one_more : (lists i : ℕ) (old now new : Slots X) (book left next : Cluster) → SoFar lists i old now book left → IsSlotSwept side lists i now new left next → length new ≡ length now → NamesOnce new → next.version ≤ left.version + 1 → next.version + len (side.table next) ≡ left.version + len (side.table left) → SoFar lists (i + 1) old new book next
  one_more lists i old now new book left next s out room once version counted = elim out [
    | inl same ↦ record {
      room = room ∙ s.room;
      once = once;
      each = λ name. subst (λ b. SameOrGone lists old new book b name) (sym same.2) (subst (λ p. SameOrGone lists old p book left name) (sym same.1) (s.each name));
      earlier = λ j lt. subst (λ p. IsNamedIn side lists j p) (sym same.1) (elim (eqb_tells j i) [ inl at ↦ subst (λ k. IsNamedIn side lists k now) (sym at.1) same.0 | inr other ↦ s.earlier j (omega (arith, other.1)) ]);
      rest = ap side.rest same.2 ∙ s.rest;
      version = omega (arith, s.version, version);
      counted = counted ∙ s.counted;
    }
    | inr gone ↦ record {
      room = room ∙ s.room;
      once = once;
      each = λ name. out_of lists i old now new book left next gone.0 gone.1 gone.2 name (s.each name);
      earlier = earlier_out lists i gone.0 now new gone.1 s.earlier;
      rest = gone.2.rest ∙ s.rest;
      version = omega (arith, s.version, version);
      counted = counted ∙ s.counted;
    }
  ]

  -- once all slots were swept, what was named stays, and nothing else
  pub swept : (lists i : ℕ) (old now : Slots X) (book left : Cluster) → length now ≤ i → SoFar lists i old now book left → IsSwept side lists (map_of old) (map_of now) book left
  swept lists i old now book left all s = record {
    known = λ name. by name (get (map_of old) name) refl (s.each name);
    standing = λ name. counts name (get (map_of old) name) refl (s.each name);
    rest = s.rest;
    version = s.counted;
  }
    where
      named : (name : List ℕ) (k : X) → get (map_of now) name ≡ Some k → side.list k ≡ lists
      named name k is =
          let slot = slot_with now name k s.once is in
          s.earlier slot.0 (omega (arith, all, within now slot.0 _ slot.1)) (record { name = name; value = k }) slot.1

      by : (name : List ℕ) (o : Option X) → get (map_of old) name ≡ o → SameOrGone lists old now book left name → get (map_of now) name ≡ (if is_named side.list lists (get (map_of old) name) then get (map_of old) name else None)
      by name None is (inl same) = grind (arith, is, same.0)
      by name (Some k) is (inl same) = grind (arith, nat_tests, is, same.0, named name k (same.0 ∙ is))
      by name o is (inr gone) = grind (arith, gone.0, gone.1)

      counts : (name : List ℕ) (o : Option X) → get (map_of old) name ≡ o → SameOrGone lists old now book left name → get (side.table left) name ≡ (if is_left side lists (get (map_of old) name) then get (side.table book) name else None)
      counts name None is (inl same) = grind (arith, is, same.1)
      counts name (Some k) is (inl same) = grind (arith, nat_tests, is, same.1, named name k (same.0 ∙ is))
      counts name o is (inr gone) = gone.2
