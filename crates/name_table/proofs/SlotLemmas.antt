-- What the finite map of a table's slots is, and what a change in one slot does to it.
use Rattle.std.proofs.Common.{◌≡◌, ℕ, zero, suc, ◌+◌, ◌<◌, true, false, cond, List, [], ◌∷◌, length, set, Option, None, Some, is_some, IsSome, sum_by, count_by, refl, sym, ap, ◌∙◌, inl, inr, ◌⊎◌, arith, get_or-set_same, get_or-set_other}
use Rattle.std.specs.declared.cmp.Ordering.{Ordering}
use Rattle.std.specs.declared.cmp.Ordering.TheVariants.{Less, Equal, Greater}
use Rattle.std.specs.Ordering.{is_eq, eq_by_cmp}
use Rattle.std.specs.Cmp.{tied_itself}
use Rattle.std.specs.Cmp.Lexicographic.{nat_list_cmp_total, bytes_decides}
use Rattle.std.specs.Option.{option_map}
use Rattle.std.specs.Str.{bytes_eq}
use Rattle.std.specs.List.{position_or_len}
use Rattle.std.specs.FinMap as fin
use Rattle.std.specs.FinMap.{find}
use Rattle.std.proofs.Math.Dec.{ltb}
use Rattle.std.specs.Map.{values_of}
use Rattle.std.proofs.lemmas.Bool.{cases_eq, cases_lt, cases_Bool, false_from_ne_true, cond-true, cond-false, lt-ltb, le-ltb}
use Rattle.std.proofs.lemmas.List.{get_or_past}
use Rattle.std.proofs.lemmas.List.Sums.{sum_by-cons, position_or_len_is}
use Rattle.name_table.specs.declared.entry.Entry.{Entry}
use Rattle.name_table.specs.Slots.{name_cmp, Slots, entry_in, name_in, value_in, with_value, put_in, has_name, slot_of, filled, map_of, NamesOnce}
use Rattle.name_table.specs.inside.Slots.{number_in}
use Rattle.name_table.proofs.SumLemmas.{sum_insert, of_option, entries_empty, same_name}

-- two names are equal or not
cases_name : (a b : List ℕ) → (a ≡ b) ⊎ (a ≡ b → ⊥)
cases_name a b = elim (cases_Bool (bytes_eq a b)) [
  | inl e ↦ inl ((bytes_decides a b).0 e)
  | inr ne ↦ inr (λ e. absurd (let t : bytes_eq a b ≡ true = (bytes_decides a b).1 e in cc))
]

-- an order that tests as equal is Equal
equal_of : (r : Ordering) → is_eq r ≡ true → r ≡ Equal
equal_of Less h = absurd (cc)
equal_of Equal h = refl
equal_of Greater h = absurd (cc)

-- equal names tie
tied : (a b : List ℕ) → a ≡ b → eq_by_cmp name_cmp a b ≡ true
tied a b e = ap (λ q. is_eq (name_cmp a q)) (sym e) ∙ ap is_eq (tied_itself nat_list_cmp_total a)

-- and others don't
apart : (a b : List ℕ) → (a ≡ b → ⊥) → eq_by_cmp name_cmp a b ≡ false
apart a b ne = false_from_ne_true _ (λ t. ne (same_name a b (equal_of _ t)))

module _ {X : Type 0} where
  -- the names of later slots
  once_later : (o : Option (Entry X)) (s : Slots X) → NamesOnce (o ∷ s) → NamesOnce s
  unfolding NamesOnce
  once_later o s once i j q hi hj = let e : suc i ≡ suc j = once (suc i) (suc j) q hi hj in omega arith

  -- the first of the filled slots' entries with a name, where a slot has it
  find_at : (s : Slots X) (i : ℕ) (e : Entry X) → NamesOnce s → entry_in s i ≡ Some e → find name_cmp e.name (filled s) ≡ Some e.value
  unfolding NamesOnce
  find_at [] i e once h = absurd (cc)
  find_at (None ∷ s) zero e once h = absurd (cc)
  find_at (None ∷ s) (suc i) e once h = find_at s i e (once_later None s once) h
  find_at (Some f ∷ s) zero e once h =
      let same : f ≡ e = cc in
      cond-true (eq_by_cmp name_cmp e.name f.name) (Some f.value) (find name_cmp e.name (filled s)) (tied e.name f.name (ap (λ (g : Entry X). g.name) (sym same)))
      ∙ ap (λ (g : Entry X). Some g.value) same
  find_at (Some f ∷ s) (suc i) e once h =
      let other : e.name ≡ f.name → ⊥ = λ same. let z : zero ≡ suc i = once zero (suc i) f.name refl (ap (option_map (λ (g : Entry X). g.name)) h ∙ ap Some same) in omega arith in
      cond-false (eq_by_cmp name_cmp e.name f.name) (Some f.value) (find name_cmp e.name (filled s)) (apart e.name f.name other)
      ∙ find_at s i e (once_later (Some f) s once) h

  -- a name that no slot has isn't found
  find_lacks : (s : Slots X) (q : List ℕ) → ((i : ℕ) → name_in s i ≡ Some q → ⊥) → find name_cmp q (filled s) ≡ None
  find_lacks [] q lacks = refl
  find_lacks (None ∷ s) q lacks = find_lacks s q (λ i h. lacks (suc i) h)
  find_lacks (Some f ∷ s) q lacks =
      cond-false (eq_by_cmp name_cmp q f.name) (Some f.value) (find name_cmp q (filled s)) (apart q f.name (λ e. lacks zero (ap Some (sym e))))
      ∙ find_lacks s q (λ i h. lacks (suc i) h)

  -- a name that a slot doesn't have, and no later one, is in none
  no_slot : (o : Option (Entry X)) (s : Slots X) (q : List ℕ) → (option_map (λ e. e.name) o ≡ Some q → ⊥) → ((i : ℕ) → name_in s i ≡ Some q → ⊥) → (i : ℕ) → name_in (o ∷ s) i ≡ Some q → ⊥
  no_slot o s q first later zero h = first h
  no_slot o s q first later (suc i) h = later i h

  -- a slot has a name, or none has
  pub cases_slot : (s : Slots X) (q : List ℕ) → ((i : ℕ) × (name_in s i ≡ Some q)) ⊎ ((i : ℕ) → name_in s i ≡ Some q → ⊥)
  cases_slot [] q = inr (λ i h. absurd (cc))
  cases_slot (None ∷ s) q = elim (cases_slot s q) [
    | inl at ↦ inl (suc at.0, at.1)
    | inr lacks ↦ inr (no_slot None s q (λ h. absurd (cc)) lacks)
  ]
  cases_slot (Some f ∷ s) q = elim (cases_slot s q) [
    | inl at ↦ inl (suc at.0, at.1)
    | inr lacks ↦ elim (cases_name f.name q) [
      | inl same ↦ inl (zero, ap Some same)
      | inr other ↦ inr (no_slot (Some f) s q (λ h. other (cc)) lacks)
    ]
  ]

  -- the map has at a slot's name what the slot has
  pub map_at : (s : Slots X) (i : ℕ) (e : Entry X) → NamesOnce s → entry_in s i ≡ Some e → fin.get (map_of s) e.name ≡ Some e.value
  map_at s i e once h = fin.get-from_entries nat_list_cmp_total (filled s) e.name ∙ find_at s i e once h

  -- and nothing at a name that no slot has
  pub map_lacks : (s : Slots X) (q : List ℕ) → ((i : ℕ) → name_in s i ≡ Some q → ⊥) → fin.get (map_of s) q ≡ None
  map_lacks s q lacks = fin.get-from_entries nat_list_cmp_total (filled s) q ∙ find_lacks s q lacks

  -- an entry with a name
  pub entry_named : (o : Option (Entry X)) (q : List ℕ) → option_map (λ e. e.name) o ≡ Some q → (e : Entry X) × (o ≡ Some e) × (e.name ≡ q)
  entry_named None q h = absurd (cc)
  entry_named (Some e) q h = (e, refl, cc)

  -- the map has at a name the value of the slot that has it
  pub map_named : (s : Slots X) (i : ℕ) (q : List ℕ) → NamesOnce s → name_in s i ≡ Some q → fin.get (map_of s) q ≡ value_in s i
  map_named s i q once h =
      let at = entry_named (entry_in s i) q h in
      ap (fin.get (map_of s)) (sym at.2) ∙ map_at s i at.0 once at.1 ∙ sym (ap (option_map (λ (e : Entry X). e.value)) at.1)

  -- what the map has is in a slot
  pub slot_with : (s : Slots X) (q : List ℕ) (v : X) → NamesOnce s → fin.get (map_of s) q ≡ Some v → (i : ℕ) × (entry_in s i ≡ Some (record { name = q; value = v }))
  slot_with s q v once h = elim (cases_slot s q) [
    | inl at ↦
        let e = entry_named (entry_in s at.0) q at.1 in
        let value : Some e.0.value ≡ Some v = sym (map_at s at.0 e.0 once e.1) ∙ ap (fin.get (map_of s)) e.2 ∙ h in
        let same : e.0.value ≡ v = cc in
        (at.0, e.1 ∙ (λ t. Some (record { name = e.2 t; value = same t })))
    | inr lacks ↦ absurd (let none : fin.get (map_of s) q ≡ None = map_lacks s q lacks in cc)
  ]

  -- whether a slot has a name
  pub has_true : (q : List ℕ) (o : Option (Entry X)) → option_map (λ e. e.name) o ≡ Some q → has_name q o ≡ true
  has_true q None h = absurd (cc)
  has_true q (Some e) h = (bytes_decides q e.name).1 (cc)

  pub has_back : (q : List ℕ) (o : Option (Entry X)) → has_name q o ≡ true → option_map (λ e. e.name) o ≡ Some q
  has_back q None h = absurd (cc)
  has_back q (Some e) h = ap Some (sym ((bytes_decides q e.name).0 h))

  pub has_false : (q : List ℕ) (o : Option (Entry X)) → (option_map (λ e. e.name) o ≡ Some q → ⊥) → has_name q o ≡ false
  has_false q None lacks = refl
  has_false q (Some e) lacks = false_from_ne_true (bytes_eq q e.name) (λ t. lacks (ap Some (sym ((bytes_decides q e.name).0 t))))

  -- a slot with a name is within the room
  pub within : (s : Slots X) (i : ℕ) (e : Entry X) → entry_in s i ≡ Some e → i < length s
  within s i e h = elim (cases_lt i (length s)) [
    | inl lt ↦ lt
    | inr past ↦ absurd (let none : entry_in s i ≡ None = get_or_past s i None past in cc)
  ]

  -- and so is one that isn't free
  pub some_within : (s : Slots X) (i : ℕ) → IsSome (entry_in s i) → i < length s
  some_within s i some = elim (cases_lt i (length s)) [
    | inl lt ↦ lt
    | inr past ↦ absurd (let none : is_some (entry_in s i) ≡ false = ap is_some (get_or_past s i None past) in cc)
  ]

  -- the slot of a name that a slot has
  pub slot_of_at : (s : Slots X) (i : ℕ) (q : List ℕ) → NamesOnce s → name_in s i ≡ Some q → slot_of s q ≡ Some i
  unfolding NamesOnce
  slot_of_at s i q once h =
      let e = entry_named (entry_in s i) q h in
      let lt : i < length s = within s i e.0 e.1 in
      let at : position_or_len (has_name q) s ≡ i =
      position_or_len_is (has_name q) s i None (omega arith) (λ k below. has_false q (entry_in s k) (λ hk. let same : k ≡ i = once k i q hk h in omega arith)) (λ _. has_true q (entry_in s i) h) in
      ap (λ n. cond (ltb n (length s)) (Some n) None) at ∙ cond-true _ (Some i) None (lt-ltb i (length s) lt)

  -- and that of one that none has
  pub slot_of_none : (s : Slots X) (q : List ℕ) → ((i : ℕ) → name_in s i ≡ Some q → ⊥) → slot_of s q ≡ None
  slot_of_none s q lacks =
      let at : position_or_len (has_name q) s ≡ length s =
      position_or_len_is (has_name q) s (length s) None (omega arith) (λ k below. has_false q (entry_in s k) (lacks k)) (λ lt. absurd (omega arith)) in
      ap (λ n. cond (ltb n (length s)) (Some n) None) at ∙ cond-false _ (Some (length s)) None (le-ltb (length s) (length s) (omega arith))

  -- the slots after one is given this
  after : (s : Slots X) (i : ℕ) (o : Option (Entry X)) → i < length s → (j : ℕ) → ((j ≡ i) × (entry_in (set s i o) j ≡ o)) ⊎ ((j ≡ i → ⊥) × (entry_in (set s i o) j ≡ entry_in s j))
  after s i o lt j = elim (cases_eq j i) [
    | inl e ↦ inl (e, ap (entry_in (set s i o)) e ∙ get_or-set_same s i o None lt)
    | inr ne ↦ inr (ne, get_or-set_other s i j o None ne)
  ]

  -- names stay once where the new one is in no other slot
  pub once_set : (s : Slots X) (i : ℕ) (o : Option (Entry X)) → i < length s → NamesOnce s → ((j : ℕ) (q : List ℕ) → (j ≡ i → ⊥) → option_map (λ e. e.name) o ≡ Some q → name_in s j ≡ Some q → ⊥) → NamesOnce (set s i o)
  unfolding NamesOnce
  once_set s i o lt once new j k q hj hk =
      let name = option_map (λ (e : Entry X). e.name) in
      elim (after s i o lt j) [
        | inl at_j ↦ elim (after s i o lt k) [
          | inl at_k ↦ at_j.0 ∙ sym at_k.0
          | inr off_k ↦ absurd (new k q off_k.0 (ap name (sym at_j.1) ∙ hj) (ap name (sym off_k.1) ∙ hk))
        ]
        | inr off_j ↦ elim (after s i o lt k) [
          | inl at_k ↦ absurd (new j q off_j.0 (ap name (sym at_k.1) ∙ hk) (ap name (sym off_j.1) ∙ hj))
          | inr off_k ↦ once j k q (ap name (sym off_j.1) ∙ hj) (ap name (sym off_k.1) ∙ hk)
        ]
      ]

  -- they do where the name stays
  pub once_put : (s : Slots X) (i : ℕ) (o : Option (Entry X)) → i < length s → NamesOnce s → option_map (λ e. e.name) o ≡ name_in s i → NamesOnce (set s i o)
  unfolding NamesOnce
  once_put s i o lt once same = once_set s i o lt once (λ j q ne h hj. ne (once j i q hj (sym same ∙ h)))

  -- where two tables have a name in the same slots alike, so do their maps
  same_at : (s t : Slots X) (q : List ℕ) → NamesOnce s → NamesOnce t → ((j : ℕ) → name_in s j ≡ Some q → entry_in t j ≡ entry_in s j) → ((j : ℕ) → name_in t j ≡ Some q → entry_in s j ≡ entry_in t j) → fin.get (map_of t) q ≡ fin.get (map_of s) q
  same_at s t q once_s once_t on back =
      let name = option_map (λ (e : Entry X). e.name) in
      elim (cases_slot s q) [
        | inl at ↦
            let e = on at.0 at.1 in
            map_named t at.0 q once_t (ap name e ∙ at.1) ∙ ap (option_map (λ (f : Entry X). f.value)) e ∙ sym (map_named s at.0 q once_s at.1)
        | inr lacks ↦ map_lacks t q (λ j h. lacks j (ap name (back j h) ∙ h)) ∙ sym (map_lacks s q lacks)
      ]

  -- at other names than a slot's old and new one
  same_else : (s : Slots X) (i : ℕ) (o : Option (Entry X)) (q : List ℕ) → i < length s → NamesOnce s → NamesOnce (set s i o) → (name_in s i ≡ Some q → ⊥) → (option_map (λ e. e.name) o ≡ Some q → ⊥) → fin.get (map_of (set s i o)) q ≡ fin.get (map_of s) q
  same_else s i o q lt once_s once_t not_old not_new =
      let name = option_map (λ (e : Entry X). e.name) in
      same_at s (set s i o) q once_s once_t
      (λ j h. elim (after s i o lt j) [ inl at ↦ absurd (not_old (ap (name_in s) (sym at.0) ∙ h)) | inr off ↦ off.1 ])
      (λ j h. elim (after s i o lt j) [ inl at ↦ absurd (not_new (ap name (sym at.1) ∙ h)) | inr off ↦ sym off.1 ])

  -- an entry in a slot that was free, or had the same name, is in the map
  map_set : (s : Slots X) (i : ℕ) (q : List ℕ) (v : X) → i < length s → NamesOnce s → NamesOnce (set s i (Some (record { name = q; value = v }))) → ((r : List ℕ) → name_in s i ≡ Some r → r ≡ q) → map_of (set s i (Some (record { name = q; value = v }))) ≡ fin.insert (map_of s) q v
  map_set s i q v lt once_s once_t old =
      let e : Entry X = record { name = q; value = v } in
      let t = set s i (Some e) in
      let m = map_of s in
      fin.same_map nat_list_cmp_total same_name (map_of t) (fin.insert m q v) (λ r. elim (cases_name r q) [
        | inl same ↦
            ap (fin.get (map_of t)) same ∙ map_at t i e once_t (get_or-set_same s i (Some e) None lt)
            ∙ sym (fin.get-insert nat_list_cmp_total m q v r ∙ cond-true _ (Some v) (fin.get m r) (tied r q same))
        | inr other ↦
            same_else s i (Some e) r lt once_s once_t (λ h. other (old r h)) (λ h. other (cc))
            ∙ sym (fin.get-insert nat_list_cmp_total m q v r ∙ cond-false _ (Some v) (fin.get m r) (apart r q other))
      ])

  -- a name that the map lacks is in no slot
  pub no_name : (s : Slots X) (q : List ℕ) → NamesOnce s → fin.get (map_of s) q ≡ None → (i : ℕ) → name_in s i ≡ Some q → ⊥
  no_name s q once none i h =
      let e = entry_named (entry_in s i) q h in
      let some : fin.get (map_of s) e.0.name ≡ Some e.0.value = map_at s i e.0 once e.1 in
      let none_too : fin.get (map_of s) e.0.name ≡ None = ap (fin.get (map_of s)) e.2 ∙ none in
      absurd (cc)

  -- a new name in a free slot
  pub once_insert : (s : Slots X) (i : ℕ) (q : List ℕ) (v : X) → i < length s → NamesOnce s → fin.get (map_of s) q ≡ None → NamesOnce (set s i (Some (record { name = q; value = v })))
  once_insert s i q v lt once none =
      once_set s i (Some (record { name = q; value = v })) lt once (λ j r ne e h. no_name s q once none j (h ∙ sym e))

  pub map_insert : (s : Slots X) (i : ℕ) (q : List ℕ) (v : X) → i < length s → NamesOnce s → entry_in s i ≡ None → fin.get (map_of s) q ≡ None → map_of (set s i (Some (record { name = q; value = v }))) ≡ fin.insert (map_of s) q v
  map_insert s i q v lt once free none =
      map_set s i q v lt once (once_insert s i q v lt once none)
      (λ r h. absurd (let gone : name_in s i ≡ None = ap (option_map (λ (e : Entry X). e.name)) free in cc))

  -- another value in a slot
  pub put_named : (s : Slots X) (i : ℕ) (q : List ℕ) (v : X) → name_in s i ≡ Some q → put_in s i v ≡ set s i (Some (record { name = q; value = v }))
  put_named s i q v h =
      let e = entry_named (entry_in s i) q h in
      ap (λ o. set s i (with_value o v)) e.1 ∙ (λ t. set s i (Some (record { name = e.2 t; value = v })))

  once_put_q : (s : Slots X) (i : ℕ) (q : List ℕ) (v : X) → NamesOnce s → name_in s i ≡ Some q → NamesOnce (set s i (Some (record { name = q; value = v })))
  unfolding NamesOnce
  once_put_q s i q v once h =
      let e = entry_named (entry_in s i) q h in
      once_set s i (Some (record { name = q; value = v })) (within s i e.0 e.1) once (λ j r ne same hj. ne (once j i q (hj ∙ sym same) h))

  pub map_put : (s : Slots X) (i : ℕ) (q : List ℕ) (v : X) → NamesOnce s → name_in s i ≡ Some q → map_of (put_in s i v) ≡ fin.insert (map_of s) q v
  map_put s i q v once h =
      let e = entry_named (entry_in s i) q h in
      ap map_of (put_named s i q v h)
      ∙ map_set s i q v (within s i e.0 e.1) once (once_put_q s i q v once h) (λ r hr. let same : Some r ≡ Some q = sym hr ∙ h in cc)

  -- a slot is freed
  pub once_remove : (s : Slots X) (i : ℕ) → i < length s → NamesOnce s → NamesOnce (set s i None)
  once_remove s i lt once = once_set s i None lt once (λ j q ne e h. absurd (cc))

  pub map_remove : (s : Slots X) (i : ℕ) (q : List ℕ) → NamesOnce s → name_in s i ≡ Some q → map_of (set s i None) ≡ fin.remove (map_of s) q
  unfolding NamesOnce
  map_remove s i q once h =
      let at = entry_named (entry_in s i) q h in
      let lt : i < length s = within s i at.0 at.1 in
      let t = set s i None in
      let m = map_of s in
      let once_t : NamesOnce t = once_remove s i lt once in
      fin.same_map nat_list_cmp_total same_name (map_of t) (fin.remove m q) (λ r. elim (cases_name r q) [
        | inl same ↦
            map_lacks t r (λ j hj. elim (after s i None lt j) [
              | inl here ↦ absurd (let none : name_in t j ≡ None = ap (option_map (λ (e : Entry X). e.name)) here.1 in cc)
              | inr off ↦ off.0 (once j i q (ap (option_map (λ (e : Entry X). e.name)) (sym off.1) ∙ hj ∙ ap Some same) h)
            ])
            ∙ sym (fin.get-remove nat_list_cmp_total m q r ∙ cond-true _ None (fin.get m r) (tied r q same))
        | inr other ↦
            same_else s i None r lt once once_t (λ hr. other (let e : Some r ≡ Some q = sym hr ∙ h in cc)) (λ hr. absurd (cc))
            ∙ sym (fin.get-remove nat_list_cmp_total m q r ∙ cond-false _ None (fin.get m r) (apart r q other))
      ])

  -- to remove a name that isn't there changes nothing
  pub remove_absent : (s : Slots X) (q : List ℕ) → fin.get (map_of s) q ≡ None → map_of s ≡ fin.remove (map_of s) q
  remove_absent s q none =
      let m = map_of s in
      fin.same_map nat_list_cmp_total same_name m (fin.remove m q) (λ r. elim (cases_name r q) [
        | inl same ↦ ap (fin.get m) same ∙ none ∙ sym (fin.get-remove nat_list_cmp_total m q r ∙ cond-true _ None (fin.get m r) (tied r q same))
        | inr other ↦ sym (fin.get-remove nat_list_cmp_total m q r ∙ cond-false _ None (fin.get m r) (apart r q other))
      ])

  -- there are as many names as slots that aren't free
  pub len_map : (s : Slots X) → NamesOnce s → fin.len (map_of s) ≡ count_by is_some s
  unfolding NamesOnce
  len_map [] once = fin.len-empty name_cmp X
  len_map (None ∷ s) once = len_map s (once_later None s once)
  len_map (Some e ∷ s) once =
      let none : fin.get (map_of s) e.name ≡ None = map_lacks s e.name (λ i h. let z : zero ≡ suc i = once zero (suc i) e.name refl h in omega arith) in
      let longer : fin.len (fin.insert (map_of s) e.name e.value) ≡ fin.len (map_of s) + 1 =
      fin.len-insert nat_list_cmp_total (map_of s) e.name e.value ∙ ap (λ o. cond (is_some o) (fin.len (map_of s)) (fin.len (map_of s) + 1)) none in
      omega (arith, longer, len_map s (once_later (Some e) s once), sum_by-cons (λ (o : Option (Entry X)). cond {A = ℕ} (is_some o) 1 0) (Some e) s)

  -- where not each slot has a name, one is free
  pub some_free : (s : Slots X) → count_by is_some s < length s → (i : ℕ) × (i < length s) × (entry_in s i ≡ None)
  some_free [] lt = absurd (omega arith)
  some_free (None ∷ s) lt = (zero, omega arith, refl)
  some_free (Some e ∷ s) lt =
      let later = some_free s (omega (arith, sum_by-cons (λ (o : Option (Entry X)). cond {A = ℕ} (is_some o) 1 0) (Some e) s)) in
      (suc later.0, (let less = later.1 in omega arith), later.2)

  -- a sum over the values is that over the slots
  pub sum_map : (number : X → ℕ) (s : Slots X) → NamesOnce s → sum_by number (fin.values (map_of s)) ≡ sum_by (number_in number) s
  unfolding NamesOnce
  sum_map number [] once = ap (λ es. sum_by number (values_of es)) (entries_empty X)
  sum_map number (None ∷ s) once = sum_map number s (once_later None s once)
  sum_map number (Some e ∷ s) once =
      let none : fin.get (map_of s) e.name ≡ None = map_lacks s e.name (λ i h. let z : zero ≡ suc i = once zero (suc i) e.name refl h in omega arith) in
      omega (arith, sum_insert number (map_of s) e.name e.value, ap (of_option number) none, sum_map number s (once_later (Some e) s once), sum_by-cons (number_in number) (Some e) s)
