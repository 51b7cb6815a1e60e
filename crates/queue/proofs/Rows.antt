-- What becomes of a row of slots.
use Rattle.std.proofs.Common.{◌≡◌, ℕ, ◌+◌, ◌-◌, ◌<◌, ◌≤◌, ◌⊎◌, inl, inr, ⊎_elim, List, [], ◌∷◌, ◌++◌, length, take, drop, set, arith, sym, ap, ◌∙◌, subst}
use Rattle.std.specs.Prelude.{◌≢◌, Vec}
use Rattle.std.specs.Global.{Global}
use Rattle.std.specs.Vec.{with_items}
use Rattle.std.proofs.lemmas.Bool.{cases_lt}
use Rattle.std.proofs.lemmas.List.{length-take, length-take-le, length-set, get_or_past, get_or-take, get_or-set_same, get_or-set_other, with_items_is}
use Rattle.std.proofs.Math.ListN.{get_or-append}
use Rattle.std.proofs.Math.Seq.{take-append_seam, get_or-append_seam}
use Rattle.quant.specs.declared.limits.TheConstants.{MAX_QUEUED}
use Rattle.queue.specs.inside.Row.{at, IsIn, IsSwapped, IsPushed, HasSame, IsWithout, IsWith, IsInverse, IsRow}

-- two places are one, or not
pub same_or_not : (a b : ℕ) → (a ≡ b) ⊎ (a ≢ b)
same_or_not a b =
    ⊎_elim (λ (less : a < b). inr (omega arith))
    (λ (more : b ≤ a). ⊎_elim (λ (greater : b < a). inr (omega arith)) (λ (least : a ≤ b). inl (omega arith)) (cases_lt b a))
    (cases_lt a b)

-- a slot that is not in the row stands behind it
pub behind : (slots : List ℕ) (len place s : ℕ) → len ≤ length slots → at slots place ≡ s → (IsIn (take len slots) s → ⊥) → len ≤ place
behind slots len place s within is out =
    ⊎_elim
    (λ (low : place < len). absurd (out record {
      place = place;
      within = omega (arith, length-take len slots);
      is = get_or-take len slots place 0 low ∙ is;
    }))
    (λ (high : len ≤ place). high)
    (cases_lt place len)

-- and there is room for it
pub stands_behind : (slots places : List ℕ) (len place s : ℕ) → IsInverse slots places → s < length slots → place ≡ at places s → len ≤ length slots → (IsIn (take len slots) s → ⊥)
    → (at slots place ≡ s) × (len ≤ place) × (place < length slots)
stands_behind slots places len place s inverse slot read within out =
    let is : at slots place ≡ s = ap (at slots) read ∙ inverse.stands s slot in
    (is, behind slots len place s within is out, subst (λ (k : ℕ). k < length slots) (sym read) (inverse.place_at s slot))

-- one that stood behind the row now stands at its end
pub pushed : (xs slots ws : List ℕ) (n len place s : ℕ) → take len slots ≡ xs → n ≡ length slots → len < n → IsSwapped slots ws len place → at slots place ≡ s → len ≤ place → IsPushed xs (take (len + 1) (take n (ws ++ drop (length ws) slots))) s
pushed xs slots ws n len place s old full room w is high =
    let whole : take n (ws ++ drop (length ws) slots) ≡ ws = ap (λ (m : ℕ). take m (ws ++ drop (length ws) slots)) (full ∙ sym w.len) ∙ take-append_seam ws (drop (length ws) slots) in
    subst (λ (l : List ℕ). IsPushed l (take (len + 1) (take n (ws ++ drop (length ws) slots))) s) old
    (subst (λ (l : List ℕ). IsPushed (take len slots) (take (len + 1) l) s) (sym whole) record {
      len = omega (arith, length-take len slots, length-take (len + 1) ws, w.len);
      last = ap (λ (m : ℕ). at (take (len + 1) ws) m) (length-take-le len slots (omega arith)) ∙ get_or-take (len + 1) ws len 0 (omega arith) ∙ w.first ∙ is;
      others = λ k below.
          let short : k < len = omega (arith, length-take len slots) in
          get_or-take (len + 1) ws k 0 (omega arith) ∙ w.others k (omega arith) (omega arith) ∙ sym (get_or-take len slots k 0 short);
    })

-- the front of two rows of which two slots changed places there
pub front_swapped : (xs ws : List ℕ) (len i j : ℕ) → len ≤ length xs → i < len → j < len → IsSwapped xs ws i j → IsSwapped (take len xs) (take len ws) i j
front_swapped xs ws len i j fits first second w = record {
  len = length-take-le len ws (omega (arith, w.len)) ∙ sym (length-take-le len xs fits);
  first = get_or-take len ws i 0 first ∙ w.first ∙ sym (get_or-take len xs j 0 second);
  second = get_or-take len ws j 0 second ∙ w.second ∙ sym (get_or-take len xs i 0 first);
  others = λ k u v. ⊎_elim
      (λ (low : k < len). get_or-take len ws k 0 low ∙ w.others k u v ∙ sym (get_or-take len xs k 0 low))
      (λ (high : len ≤ k). get_or_past (take len ws) k 0 (omega (arith, length-take len ws)) ∙ sym (get_or_past (take len xs) k 0 (omega (arith, length-take len xs))))
      (cases_lt k len);
}

-- a slot of the front is one of all
pub in_front : (xs slots : List ℕ) (len i : ℕ) → take len slots ≡ xs → len ≤ length slots → i < length xs → i < len
in_front xs slots len i is fits inside = omega (arith, ap length is, length-take-le len slots fits)

-- the last slot of the front stands once, so that the front before it has it no more
pub last_once : (slots places : List ℕ) (len s : ℕ) → IsInverse slots places → 0 < len → len ≤ length slots → s ≡ at slots (len - 1) → IsIn (take (len - 1) slots) s → ⊥
last_once slots places len s inverse some within is there =
    let low : there.place < len - 1 = omega (arith, length-take (len - 1) slots, there.within) in
    let one : at slots there.place ≡ at slots (len - 1) = sym (get_or-take (len - 1) slots there.place 0 low) ∙ there.is ∙ is in
    omega (arith, sym (inverse.knows there.place (omega arith)) ∙ ap (at places) one ∙ inverse.knows (len - 1) (omega arith))

-- the front has that slot behind the front before it
pub popped_front : (xs slots : List ℕ) (len s : ℕ) → take len slots ≡ xs → 0 < len → len ≤ length slots → s ≡ at slots (len - 1) → IsPushed (take (len - 1) slots) xs s
popped_front xs slots len s is some within last =
    let short : length (take (len - 1) slots) ≡ len - 1 = length-take-le (len - 1) slots (omega arith) in
    subst (λ (l : List ℕ). IsPushed (take (len - 1) slots) l s) is record {
      len = omega (arith, length-take-le len slots within);
      last = ap (at (take len slots)) short ∙ get_or-take len slots (len - 1) 0 (omega arith) ∙ sym last;
      others = λ k low. get_or-take len slots k 0 (omega arith) ∙ sym (get_or-take (len - 1) slots k 0 (omega arith));
    }

-- what was written over a row's parts is a row where it's inverse
pub row_written : (slots places : Vec ℕ Global) (ws vs : List ℕ) (len : ℕ) → length ws ≡ slots.len → length vs ≡ places.len → IsInverse ws vs → len ≤ slots.len → slots.len ≤ MAX_QUEUED → IsRow (with_items slots ws) (with_items places vs) len
row_written slots places ws vs len as_many known inverse within few = record {
  inverse = subst (λ l. IsInverse l (with_items places vs).items) (sym (with_items_is slots ws as_many)) (subst (λ l. IsInverse ws l) (sym (with_items_is places vs known)) inverse);
  within = within;
  few = few;
}

-- a slot of the row stands at one of two places that change, or elsewhere
moved_in : (xs ys : List ℕ) (i j s : ℕ) → IsSwapped xs ys i j → i < length xs → j < length xs → IsIn xs s → IsIn ys s
moved_in xs ys i j s w first second there =
    ⊎_elim
    (λ (e : there.place ≡ i). record { place = j; within = omega (arith, w.len); is = w.second ∙ ap (at xs) (sym e) ∙ there.is })
    (λ (u : there.place ≢ i). ⊎_elim
    (λ (e : there.place ≡ j). record { place = i; within = omega (arith, w.len); is = w.first ∙ ap (at xs) (sym e) ∙ there.is })
    (λ (v : there.place ≢ j). record { place = there.place; within = omega (arith, w.len, there.within); is = w.others there.place u v ∙ there.is })
    (same_or_not there.place j))
    (same_or_not there.place i)

-- places that have changed change back
swapped_back : (xs ys : List ℕ) (i j : ℕ) → IsSwapped xs ys i j → IsSwapped ys xs i j
swapped_back xs ys i j w = record { len = sym w.len; first = sym w.second; second = sym w.first; others = λ k u v. sym (w.others k u v) }

-- the same slots are in a row in which two have changed places
pub same_swapped : (xs ys : List ℕ) (i j : ℕ) → IsSwapped xs ys i j → i < length xs → j < length xs → HasSame xs ys
same_swapped xs ys i j w first second = record {
  len = w.len;
  there = λ s is. moved_in xs ys i j s w first second is;
  back = λ s is. moved_in ys xs i j s (swapped_back xs ys i j w) (omega (arith, w.len)) (omega (arith, w.len)) is;
}

-- and after more changes
pub same_again : (xs ys zs : List ℕ) → HasSame xs ys → HasSame ys zs → HasSame xs zs
same_again xs ys zs h g = record { len = g.len ∙ h.len; there = λ s is. g.there s (h.there s is); back = λ s is. h.back s (g.back s is) }

-- a row that has lost its last slot, and whose others have changed places
pub without : (xs ys zs ws : List ℕ) (s : ℕ) → HasSame xs ys → IsPushed zs ys s → (IsIn zs s → ⊥) → HasSame zs ws → IsWithout xs ws s
without xs ys zs ws s first popped gone second = record {
  stays = λ t is other.
      let there = first.there t is in
      ⊎_elim
      (λ (low : there.place < length zs). second.there t record { place = there.place; within = low; is = sym (popped.others there.place low) ∙ there.is })
      (λ (high : length zs ≤ there.place).
      let end : there.place ≡ length zs = omega (arith, popped.len, there.within) in
      absurd (other (sym there.is ∙ ap (at ys) end ∙ popped.last)))
      (cases_lt there.place (length zs));
  back = λ t is.
      let there = second.back t is in
      first.back t record { place = there.place; within = omega (arith, popped.len, there.within); is = popped.others there.place there.within ∙ there.is };
  gone = λ is. gone (second.back s is);
}

-- the slot that went is the one at the place, where that and the last one have changed places
pub popped_slot : (xs ys zs : List ℕ) (place last r s : ℕ) → IsSwapped xs ys place last → IsPushed zs ys r → last + 1 ≡ length xs → at xs place ≡ s → r ≡ s
popped_slot xs ys zs place last r s swapped popped end is =
    let last_place : length zs ≡ last = omega (arith, popped.len, swapped.len) in
    sym popped.last ∙ ap (at ys) last_place ∙ swapped.second ∙ is

-- a row with one more behind it has it besides what it had
pub with_pushed : (xs ys : List ℕ) (s : ℕ) → IsPushed xs ys s → IsWith xs ys s
with_pushed xs ys s w = record {
  stays = λ t is. record { place = is.place; within = omega (arith, w.len, is.within); is = w.others is.place is.within ∙ is.is };
  there = record { place = length xs; within = omega (arith, w.len); is = w.last };
  back = λ t is other. ⊎_elim
      (λ (low : is.place < length xs). record { place = is.place; within = low; is = sym (w.others is.place low) ∙ is.is })
      (λ (high : length xs ≤ is.place).
      let end : is.place ≡ length xs = omega (arith, w.len, is.within) in
      absurd (other (sym is.is ∙ ap (at ys) end ∙ w.last)))
      (cases_lt is.place (length xs));
}

-- and a row with one slot more has it besides, however the slots stand there
pub with_same : (xs ys zs : List ℕ) (s : ℕ) → IsWith xs ys s → HasSame ys zs → IsWith xs zs s
with_same xs ys zs s w h = record { stays = λ t is. h.there t (w.stays t is); there = h.there s w.there; back = λ t is other. w.back t (h.back t is) other }

-- the numbers so far, with one more behind them
pub numbered : (xs ys : List ℕ) (n x : ℕ) → length xs ≡ n → ((k : ℕ) → k < n → at xs k ≡ k) → ys ≡ xs ++ x ∷ [] → x ≡ n → (k : ℕ) → k < n + 1 → at ys k ≡ k
numbered xs ys n x len each put is k lt =
    ap (λ l. at l k) put
    ∙ ⊎_elim
    (λ (low : k < n). get_or-append xs (x ∷ []) 0 k (omega arith) ∙ each k low)
    (λ (high : n ≤ k). let end : k ≡ length xs = omega arith in ap (at (xs ++ x ∷ [])) end ∙ get_or-append_seam xs x [] 0 ∙ is ∙ sym len ∙ sym end)
    (cases_lt k n)

-- ---- two slots change places, in a row of all of them

by_cases : {P : Type 0} (k a b : ℕ) → (k ≡ a → P) → (k ≡ b → P) → (k ≢ a → k ≢ b → P) → P
by_cases k a b f g h = ⊎_elim f (λ (u : k ≢ a). ⊎_elim g (λ (n : k ≢ b). h u n) (same_or_not k b)) (same_or_not k a)

-- those at two places have changed places where each was written over the other
pub exchanged : (xs : List ℕ) (i j : ℕ) → i < length xs → j < length xs → IsSwapped xs (set (set xs i (at xs j)) j (at xs i)) i j
exchanged xs i j first second =
    let mid = set xs i (at xs j) in
    let long : length mid ≡ length xs = length-set xs i (at xs j) in
    let last : at (set mid j (at xs i)) j ≡ at xs i = get_or-set_same mid j (at xs i) 0 (omega arith) in
    record {
      len = length-set mid j (at xs i) ∙ long;
      first = ⊎_elim
          (λ (same : i ≡ j). ap (at (set mid j (at xs i))) same ∙ last ∙ ap (at xs) same)
          (λ (other : i ≢ j). get_or-set_other mid j i (at xs i) 0 other ∙ get_or-set_same xs i (at xs j) 0 first)
          (same_or_not i j);
      second = last;
      others = λ k u n. get_or-set_other mid j k (at xs i) 0 n ∙ get_or-set_other xs i k (at xs j) 0 u;
    }

module _ (slots places : List ℕ) (i j : ℕ) (was : IsInverse slots places) (first : i < length slots) (second : j < length slots) where
  -- their places, once they have changed
  abbrev changed : List ℕ
  changed = set (set places (at slots i) j) (at slots j) i

  place_of_second : at changed (at slots j) ≡ i
  place_of_second = get_or-set_same (set places (at slots i) j) (at slots j) i 0 (omega (arith, length-set places (at slots i) j, was.as_many, was.slot_at j second))

  place_of_first : at changed (at slots i) ≡ j
  place_of_first = ⊎_elim
      (λ (same : at slots i ≡ at slots j).
      let one : i ≡ j = sym (was.knows i first) ∙ ap (at places) same ∙ was.knows j second in
      ap (at changed) same ∙ place_of_second ∙ one)
      (λ (other : at slots i ≢ at slots j).
      get_or-set_other (set places (at slots i) j) (at slots j) (at slots i) i 0 other ∙ get_or-set_same places (at slots i) j 0 (omega (arith, was.as_many, was.slot_at i first)))
      (same_or_not (at slots i) (at slots j))

  place_of_other : (s : ℕ) → s ≢ at slots i → s ≢ at slots j → at changed s ≡ at places s
  place_of_other s u n = get_or-set_other (set places (at slots i) j) (at slots j) s i 0 n ∙ get_or-set_other places (at slots i) s j 0 u

  -- so each slot's place is known as before
  pub inverse_exchanged : IsInverse (set (set slots i (at slots j)) j (at slots i)) changed
  inverse_exchanged =
      let now = set (set slots i (at slots j)) j (at slots i) in
      let w = exchanged slots i j first second in
      record {
        as_many = length-set (set places (at slots i) j) (at slots j) i ∙ length-set places (at slots i) j ∙ was.as_many ∙ sym w.len;
        slot_at = λ k lt. by_cases k i j
            (λ e. subst (λ n. n < length now) (sym (ap (at now) e ∙ w.first)) (omega (arith, w.len, was.slot_at j second)))
            (λ e. subst (λ n. n < length now) (sym (ap (at now) e ∙ w.second)) (omega (arith, w.len, was.slot_at i first)))
            (λ u n. subst (λ n. n < length now) (sym (w.others k u n)) (omega (arith, w.len, was.slot_at k (omega (arith, w.len)))));
        knows = λ k lt. by_cases k i j
            (λ e. ap (at changed) (ap (at now) e ∙ w.first) ∙ place_of_second ∙ sym e)
            (λ e. ap (at changed) (ap (at now) e ∙ w.second) ∙ place_of_first ∙ sym e)
            (λ u n.
            let lt' : k < length slots = omega (arith, w.len) in
            ap (at changed) (w.others k u n)
            ∙ place_of_other (at slots k) (λ same. u (sym (was.knows k lt') ∙ ap (at places) same ∙ was.knows i first)) (λ same. n (sym (was.knows k lt') ∙ ap (at places) same ∙ was.knows j second))
            ∙ was.knows k lt');
        place_at = λ s lt. by_cases s (at slots i) (at slots j)
            (λ e. subst (λ n. n < length now) (sym (ap (at changed) e ∙ place_of_first)) (omega (arith, w.len)))
            (λ e. subst (λ n. n < length now) (sym (ap (at changed) e ∙ place_of_second)) (omega (arith, w.len)))
            (λ u n. subst (λ n. n < length now) (sym (place_of_other s u n)) (omega (arith, w.len, was.place_at s (omega (arith, w.len)))));
        stands = λ s lt. by_cases s (at slots i) (at slots j)
            (λ e. ap (at now) (ap (at changed) e ∙ place_of_first) ∙ w.second ∙ sym e)
            (λ e. ap (at now) (ap (at changed) e ∙ place_of_second) ∙ w.first ∙ sym e)
            (λ u n.
            let lt' : s < length slots = omega (arith, w.len) in
            ap (at now) (place_of_other s u n)
            ∙ w.others (at places s) (λ same. u (sym (was.stands s lt') ∙ ap (at slots) same)) (λ same. n (sym (was.stands s lt') ∙ ap (at slots) same))
            ∙ was.stands s lt');
      }
