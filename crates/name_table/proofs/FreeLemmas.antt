-- What slots with free ones after them have, and what they are after one of them is given
-- something.
use Rattle.std.proofs.Common.{◌≡◌, ℕ, suc, ◌-◌, ◌+◌, ◌*◌, ◌<◌, ◌≤◌, [], ◌∷◌, ◌++◌, length, set, replicate, Option, None, IsSome, sum_by, refl, sym, ap, subst, ◌∙◌, inl, inr, arith, append_assoc}
use Rattle.std.proofs.lemmas.Bool.{cases_lt}
use Rattle.std.proofs.lemmas.List.Sums.{sum_by-append}
use Rattle.std.proofs.lemmas.List.Folds.{sum_by-replicate}
use Rattle.std.proofs.lemmas.List.{length-set, length-append, length-replicate, set-append_left, get_or_append_left, get_or-append_right, get_or-replicate, get_or_past}
use Rattle.name_table.specs.declared.entry.Entry.{Entry}
use Rattle.name_table.specs.Slots.{Slots, entry_in, with_free}
use Rattle.name_table.specs.inside.Slots.{number_in}
use Rattle.name_table.proofs.SlotLemmas.{some_within}

module _ {X : Type 0} where
  -- so many free slots
  abbrev free : ℕ → Slots X
  free n = replicate n None

  -- which have nothing, wherever one looks
  nothing : (n i : ℕ) → entry_in (free n) i ≡ None
  nothing n i = elim (cases_lt i n) [
    | inl lt ↦ get_or-replicate n i None None lt
    | inr past ↦ get_or_past (free n) i None (let many : length (free n) ≡ n = length-replicate n None in omega arith)
  ]

  -- they have what is written, and nothing past it
  pub free_past : (s : Slots X) (room i : ℕ) → entry_in (with_free s room) i ≡ entry_in s i
  free_past s room i =
      elim (cases_lt i (length s)) [
        | inl lt ↦ get_or_append_left s (free (room - length s)) None i lt
        | inr past ↦ get_or-append_right s (free (room - length s)) (length s) i None refl past ∙ nothing (room - length s) (i - length s) ∙ sym (get_or_past s i None past)
      ]

  -- so the slots have what is written
  pub written_entry : (s now : Slots X) (room i : ℕ) → with_free s room ≡ now → entry_in s i ≡ entry_in now i
  written_entry s now room i is = sym (free_past s room i) ∙ ap (λ (z : Slots X). entry_in z i) is

  -- and a slot that has an entry is written
  pub written_within : (s now : Slots X) (room i : ℕ) → with_free s room ≡ now → IsSome (entry_in now i) → i < length s
  written_within s now room i is some = some_within s i (subst (λ (o : Option (Entry X)). IsSome o) (sym (written_entry s now room i is)) some)

  -- as many as there is room for
  pub free_many : (s : Slots X) (room : ℕ) → length s ≤ room → length (with_free s room) ≡ room
  free_many s room le =
      let many : length (free (room - length s)) ≡ room - length s = length-replicate (room - length s) None in
      omega (arith, length-append s (free (room - length s)))

  -- a written one is given something
  pub free_set : (s : Slots X) (room i : ℕ) (o : Option (Entry X)) → i < length s → set (with_free s room) i o ≡ with_free (set s i o) room
  free_set s room i o lt =
      set-append_left s (free (room - length s)) i o lt ∙ ap (λ n. set s i o ++ free (room - n)) (sym (length-set s i o))

  -- the first that isn't written is written as free
  pub free_more : (s : Slots X) (room : ℕ) → length s < room → with_free (s ++ None ∷ []) room ≡ with_free s room
  free_more s room lt =
      let many : length (s ++ None ∷ []) ≡ length s + 1 = length-append s (None ∷ []) in
      let one : suc (room - (length s + 1)) ≡ room - length s = omega arith in
      append_assoc s (None ∷ []) (free (room - length (s ++ None ∷ [])))
      ∙ ap (λ n. s ++ None ∷ free (room - n)) many ∙ ap (λ n. s ++ free n) one

  -- free slots add nothing to a sum
  pub free_sum : (number : X → ℕ) (s : Slots X) (room : ℕ) → sum_by (number_in number) (with_free s room) ≡ sum_by (number_in number) s
  free_sum number s room =
      let n = room - length s in
      let none : sum_by (number_in number) (free n) ≡ n * 0 = sum_by-replicate (number_in number) n None in
      omega (arith, sum_by-append (number_in number) s (free n))

  -- with them there are no fewer
  pub free_least : (s : Slots X) (room : ℕ) → length s ≤ length (with_free s room)
  free_least s room = omega (arith, length-append s (free (room - length s)))
