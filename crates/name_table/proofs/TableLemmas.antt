-- What a table's slots, filed by their buckets, say of a search and of a change.
use Rattle.std.proofs.Common.{◌≡◌, ℕ, zero, suc, ◌+◌, ◌-◌, ◌<◌, ◌≤◌, cond, List, ◌∷◌, length, get_or, set, map, replicate, Option, None, Some, is_some, IsSome, IfSome, IfNone, MatchOption, count_by, refl, sym, ap, subst, ◌∙◌, arith}
use Rattle.std.specs.Option.{option_map}
use Rattle.std.specs.declared.hash.RandomState.{RandomState}
use Rattle.std.specs.FinMap as fin
use Rattle.std.proofs.lemmas.Nat.{and_le_r}
use Rattle.std.proofs.lemmas.List.{get_or-map, length-map, map-set, set-get_or}
use Rattle.std.proofs.lemmas.List.Sums.{sum_by-set}
use Rattle.name_table.specs.declared.chains.Chains.{Chains}
use Rattle.name_table.specs.declared.entry.Entry.{Entry}
use Rattle.name_table.specs.Slots.{Slots, entry_in, name_in, value_in, with_value, slot_of, map_of, NamesOnce}
use Rattle.name_table.specs.inside.Woven.{nowhere, IsWoven, times, chain}
use Rattle.name_table.specs.inside.Buckets.{bucket_of, home_of, IsFiled}
use Rattle.name_table.proofs.ChainLemmas.{begins, ends_step, times_here}
use Rattle.name_table.proofs.MoveLemmas.{home_there, one_at}
use Rattle.name_table.proofs.SlotLemmas.{within, entry_named, map_named, map_lacks, slot_of_at, slot_of_none, some_free, len_map, once_insert, once_remove, once_put}
use Rattle.name_table.proofs.WovenLemmas.{kept_of}

module _ (keys : RandomState) (mask : ℕ) where
  -- a bucket is at most the mask
  pub bucket_few : (name : List ℕ) → bucket_of keys mask name ≤ mask
  unfolding bucket_of
  bucket_few name = and_le_r _ mask

  module _ {X : Type 0} where
    -- only free slots hang in the last chain
    free_home : (o : Option (Entry X)) → home_of keys mask o ≡ mask + 1 → o ≡ None
    free_home None h = refl
    free_home (Some e) h = absurd (omega (arith, bucket_few e.name))

    -- each slot's chain is there
    home_few : (o : Option (Entry X)) → home_of keys mask o < mask + 2
    home_few None = omega arith
    home_few (Some e) = omega (arith, bucket_few e.name)

    module _ (c : Chains) (s : Slots X) (len : ℕ) (f : IsFiled keys mask c s len) where
      -- as many homes as slots
      pub homes_many : length c.links.homes ≡ length s
      homes_many = ap length f.homes ∙ length-map s (home_of keys mask)

      -- and as many links
      pub links_many : length c.links.nexts ≡ length s
      links_many = sym f.woven.as_many ∙ homes_many

      -- as many heads as buckets, and one more
      pub heads_many : length c.heads ≡ mask + 2
      heads_many = f.heads

      -- the home of a slot
      pub home_at : (i : ℕ) → i < length s → get_or c.links.homes i nowhere ≡ home_of keys mask (entry_in s i)
      home_at i lt = ap (λ hs. get_or hs i nowhere) f.homes ∙ get_or-map (home_of keys mask) s i None nowhere lt

      -- it is a chain
      pub home_chain : (i : ℕ) → i < length s → get_or c.links.homes i nowhere < length c.heads
      home_chain i lt = let few = home_few (entry_in s i) in let home = home_at i lt in let heads = f.heads in omega arith

      -- a slot with a name stands in the chain of the name's bucket
      in_bucket : (i : ℕ) (q : List ℕ) → name_in s i ≡ Some q → times i (chain c.links.nexts (get_or c.heads (bucket_of keys mask q) 0)) ≡ 1
      in_bucket i q h =
          let e = entry_named (entry_in s i) q h in
          let home : get_or c.links.homes i nowhere ≡ bucket_of keys mask q = home_at i (within s i e.0 e.1) ∙ ap (home_of keys mask) e.1 ∙ ap (bucket_of keys mask) e.2 in
          (kept_of c f.woven (bucket_of keys mask q) (let few = bucket_few q in let many = heads_many in omega arith)).1 i
          ∙ one_at (get_or c.links.homes i nowhere) (bucket_of keys mask q) home

      -- where a name is in no slot of its bucket's chain, it is in none
      pub absent : (q : List ℕ) → ((i : ℕ) → name_in s i ≡ Some q → times i (chain c.links.nexts (get_or c.heads (bucket_of keys mask q) 0)) ≡ 0) → (i : ℕ) → name_in s i ≡ Some q → ⊥
      absent q none i h = omega (arith, none i h, in_bucket i q h)

      -- the first slot of the last chain is free, where one is
      pub free_first : (slot : ℕ) → slot ≡ get_or c.heads (mask + 1) 0 → fin.len (map_of s) < length s → (slot < length s) × (entry_in s slot ≡ None)
      free_first slot is lt =
          let links = c.links.nexts in
          let a = mask + 1 in
          let head = get_or c.heads a 0 in
          let kept = kept_of c f.woven a (let many = heads_many in omega arith) in
          let one = some_free s (let l = len_map s f.once in omega arith) in
          let home : get_or c.links.homes one.0 nowhere ≡ a = home_at one.0 one.1 ∙ ap (home_of keys mask) one.2 in
          let there : times one.0 (chain links head) ≡ 1 = kept.1 one.0 ∙ one_at (get_or c.links.homes one.0 nowhere) a home in
          let first : head < length links = begins links head one.0 there in
          let step = ends_step links head kept.0 first in
          let some : times head (chain links head) ≡ 1 + times head (chain links (get_or links head 0)) = ap (times head) step.1 ∙ times_here head head (chain links (get_or links head 0)) refl in
          let its : get_or c.links.homes head nowhere ≡ a = home_there c.links.homes a head (chain links head) kept.1 (omega arith) in
          let in_s : head < length s = let many = links_many in omega arith in
          let free : entry_in s head ≡ None = free_home (entry_in s head) (sym (home_at head in_s) ∙ its) in
          ((let e = is in omega arith), ap (entry_in s) is ∙ free)

      -- so it is where it was read as such
      pub free_head : (now : Slots X) → s ≡ now → (slot : ℕ) → slot ≡ get_or c.heads (mask + 1) 0 → fin.len (map_of now) < length now → (slot < length s) × (entry_in s slot ≡ None)
      free_head now is slot read room =
          free_first slot read
          (subst (λ (t : Slots X). fin.len (map_of t) < length t) (sym is) room)

      -- chains and slots after one slot is given an entry or freed
      refiled : (d : Chains) (slot : ℕ) (o : Option (Entry X)) (n : ℕ) → IsWoven d → length d.heads ≡ length c.heads → d.links.homes ≡ set c.links.homes slot (home_of keys mask o) → n ≡ count_by is_some (set s slot o) → NamesOnce (set s slot o) → IsFiled keys mask d (set s slot o) n
      refiled d slot o n woven heads homes counted once = record {
        woven = woven;
        heads = heads ∙ f.heads;
        homes = homes ∙ ap (λ hs. set hs slot (home_of keys mask o)) f.homes ∙ sym (map-set (home_of keys mask) s slot o);
        counted = counted;
        once = once;
      }

      -- the count of names after a change in a slot
      recounted : (slot : ℕ) (o : Option (Entry X)) → slot < length s → count_by is_some (set s slot o) + cond {A = ℕ} (is_some (entry_in s slot)) 1 0 ≡ count_by is_some s + cond {A = ℕ} (is_some o) 1 0
      recounted slot o lt = sum_by-set (λ (p : Option (Entry X)). cond {A = ℕ} (is_some p) 1 0) s slot o None lt

      -- a new name in a free slot
      pub filed_insert : (d : Chains) (slot : ℕ) (q : List ℕ) (v : X) → IsWoven d → length d.heads ≡ length c.heads → d.links.homes ≡ set c.links.homes slot (bucket_of keys mask q) → slot < length s → entry_in s slot ≡ None → fin.get (map_of s) q ≡ None → IsFiled keys mask d (set s slot (Some (record { name = q; value = v }))) (len + 1)
      filed_insert d slot q v woven heads homes lt free none =
          let e : Entry X = record { name = q; value = v } in
          let before : cond {A = ℕ} (is_some (entry_in s slot)) 1 0 ≡ 0 = ap (λ (o : Option (Entry X)). cond {A = ℕ} (is_some o) 1 0) free in
          refiled d slot (Some e) (len + 1) woven heads homes (let n = recounted slot (Some e) lt in let l = f.counted in omega arith) (once_insert s slot q v lt f.once none)

      -- a slot is freed
      pub filed_remove : (d : Chains) (slot : ℕ) → IsWoven d → length d.heads ≡ length c.heads → d.links.homes ≡ set c.links.homes slot (mask + 1) → IsSome (entry_in s slot) → slot < length s → IsFiled keys mask d (set s slot None) (len - 1)
      filed_remove d slot woven heads homes some lt =
          let before : cond {A = ℕ} (is_some (entry_in s slot)) 1 0 ≡ 1 = elim (entry_in s slot) as (λ o. IsSome o → cond {A = ℕ} (is_some o) 1 0 ≡ 1) [ None ↦ λ h. absurd (cc) | Some e ↦ λ h. refl ] some in
          refiled d slot None (len - 1) woven heads homes (let n = recounted slot None lt in let l = f.counted in omega arith) (once_remove s slot lt f.once)

      -- another value in a slot
      pub filed_put : (slot : ℕ) (v : X) → slot < length s → IsFiled keys mask c (set s slot (with_value (entry_in s slot) v)) len
      filed_put slot v lt =
          let o = entry_in s slot in
          let same_home : home_of keys mask (with_value o v) ≡ home_of keys mask o = elim o as (λ p. home_of keys mask (with_value p v) ≡ home_of keys mask p) [ None ↦ refl | Some e ↦ refl ] in
          let same_some : cond {A = ℕ} (is_some (with_value o v)) 1 0 ≡ cond {A = ℕ} (is_some o) 1 0 = elim o as (λ p. cond {A = ℕ} (is_some (with_value p v)) 1 0 ≡ cond {A = ℕ} (is_some p) 1 0) [ None ↦ refl | Some e ↦ refl ] in
          let same_name : option_map (λ (e : Entry X). e.name) (with_value o v) ≡ name_in s slot = elim o as (λ p. option_map (λ (e : Entry X). e.name) (with_value p v) ≡ option_map (λ (e : Entry X). e.name) p) [ None ↦ refl | Some e ↦ refl ] in
          refiled c slot (with_value o v) len f.woven refl
          (sym (ap (set c.links.homes slot) (same_home ∙ sym (home_at slot lt)) ∙ set-get_or c.links.homes slot nowhere))
          (let n = recounted slot (with_value o v) lt in let l = f.counted in omega arith)
          (once_put s slot (with_value o v) lt f.once same_name)

  map_free : (X : Type 0) (n : ℕ) → map (home_of {X = X} keys mask) (replicate n None) ≡ replicate n (mask + 1)
  map_free X zero = refl
  map_free X (suc n) = ap (λ hs. (mask + 1) ∷ hs) (map_free X n)

  none_there : (X : Type 0) (n : ℕ) → 0 ≡ count_by is_some (replicate {A = Option (Entry X)} n None)
  none_there X zero = refl
  none_there X (suc n) = none_there X n

  none_named : (X : Type 0) (n i : ℕ) → entry_in {X = X} (replicate n None) i ≡ None
  none_named X zero i = refl
  none_named X (suc n) zero = refl
  none_named X (suc n) (suc i) = none_named X n i

  module _ {X : Type 0} where
    -- all slots free
    pub filed_free : (c : Chains) (room : ℕ) → IsWoven c → length c.heads ≡ mask + 2 → c.links.homes ≡ replicate room (mask + 1) → IsFiled {X = X} keys mask c (replicate room None) 0
    unfolding NamesOnce
    filed_free c room woven heads homes = record {
      woven = woven;
      heads = heads;
      homes = homes ∙ sym (map_free X room);
      counted = none_there X room;
      once = λ i j q hi hj. let none : name_in {X = X} (replicate room None) i ≡ None = ap (option_map (λ (e : Entry X). e.name)) (none_named X room i) in absurd (cc);
    }

-- what follows where there is none
if_none : (r : Option ℕ) (P Q : Type 0) → (P → Q) → IfNone r P → IfNone r Q
if_none None P Q f h = f h
if_none (Some i) P Q f h = h

module _ {X : Type 0} where
  -- what a search by name answers
  abbrev pub FoundAs : Slots X → List ℕ → Option ℕ → Type 0
  FoundAs s q r = record {
    slot : r ≡ slot_of s q;
    there : is_some r ≡ fin.contains_key (map_of s) q;
    value : MatchOption r (fin.get (map_of s) q ≡ None) (λ i. fin.get (map_of s) q ≡ value_in s i);
  }

  -- from the slot that it found
  found_as : (s : Slots X) (q : List ℕ) (r : Option ℕ) → NamesOnce s → IfSome r (λ i. name_in s i ≡ Some q) → IfNone r ((i : ℕ) → name_in s i ≡ Some q → ⊥) → FoundAs s q r
  found_as s q None once found none =
      let lacks : fin.get (map_of s) q ≡ None = map_lacks s q none in
      record { slot = sym (slot_of_none s q none); there = sym (ap is_some lacks); value = lacks }
  found_as s q (Some i) once found none =
      let e = entry_named (entry_in s i) q found in
      let has : fin.get (map_of s) q ≡ value_in s i = map_named s i q once found in
      record { slot = sym (slot_of_at s i q once found); there = sym (ap is_some (has ∙ ap (option_map (λ (f : Entry X). f.value)) e.1)); value = has }

  -- and from the search along the chain of the name's bucket
  pub found_by : (keys : RandomState) (mask : ℕ) (c : Chains) (s now : Slots X) (len : ℕ) → s ≡ now → IsFiled keys mask c s len → (q : List ℕ) (r : Option ℕ) (b : ℕ) → b ≡ bucket_of keys mask q → (first : ℕ) → first ≡ get_or c.heads b 0
      → IfSome r (λ i. name_in s i ≡ Some q) → IfNone r ((i : ℕ) → name_in s i ≡ Some q → times i (chain c.links.nexts first) ≡ 0) → FoundAs now q r
  found_by keys mask c s now len is f q r b b_is first read found none =
      let head : first ≡ get_or c.heads (bucket_of keys mask q) 0 = read ∙ ap (λ k. get_or c.heads k 0) b_is in
      let same : chain c.links.nexts first ≡ chain c.links.nexts (get_or c.heads (bucket_of keys mask q) 0) = ap (chain c.links.nexts) head in
      subst (λ (z : Slots X). FoundAs z q r) is
      (
      found_as s q r f.once found
      (
      if_none r ((i : ℕ) → name_in s i ≡ Some q → times i (chain c.links.nexts first) ≡ 0) ((i : ℕ) → name_in s i ≡ Some q → ⊥)
      (λ zero_at. absent keys mask c s len f q (λ i h. ap (times i) (sym same) ∙ zero_at i h))
      none
      )
      )
