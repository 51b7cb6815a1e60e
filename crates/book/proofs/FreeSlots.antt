-- Free slots after those that are written change nothing of what the slots hold.
use Rattle.std.proofs.Common.{◌≡◌, ℕ, zero, suc, ◌-◌, [], ◌∷◌, ◌++◌, length, replicate, None, Some, refl, sym, ap, ◌∙◌}
use Rattle.std.specs.Option.{option_map}
use Rattle.std.specs.FinMap.{from_entries}
use Rattle.name_table.specs.declared.entry.Entry.{Entry}
use Rattle.name_table.specs.Slots.{name_cmp, Slots, entry_in, name_in, with_free, filled, map_of, NamesOnce}
use Rattle.name_table.proofs.FreeLemmas.{free_past}

module _ {X : Type 0} where
  none_filled : (n : ℕ) → filled {X = X} (replicate n None) ≡ []
  none_filled zero = refl
  none_filled (suc n) = none_filled n

  free_filled : (s : Slots X) (n : ℕ) → filled (s ++ replicate n None) ≡ filled s
  free_filled [] n = none_filled n
  free_filled (None ∷ s) n = free_filled s n
  free_filled (Some e ∷ s) n = ap (λ l. (e.name, e.value) ∷ l) (free_filled s n)

  -- the written slots hold the same map
  pub written_map : (s t : Slots X) (room : ℕ) → with_free s room ≡ t → map_of s ≡ map_of t
  written_map s t room is = ap (λ l. from_entries {R = name_cmp} l) (sym (free_filled s (room - length s))) ∙ ap map_of is

  -- and no name twice
  pub written_once : (s t : Slots X) (room : ℕ) → with_free s room ≡ t → NamesOnce t → NamesOnce s
  unfolding NamesOnce
  written_once s t room is once i j name hi hj =
      let there : (k : ℕ) → name_in s k ≡ Some name → name_in t k ≡ Some name =
      λ k h. ap (λ o. option_map (λ (e : Entry X). e.name) o) (ap (λ l. entry_in l k) (sym is) ∙ free_past s room k) ∙ h in
      once i j name (there i hi) (there j hj)
