-- How the chains of a table's slots hang together.
use Rattle.std.specs.Prelude.{◌≡◌, ℕ, ◌+◌, ◌<◌, ◌≤◌, ◌==◌, zero, suc, nat_lt, cond, List, [], ◌∷◌, length, slice_index_or}
use Rattle.name_table.specs.declared.chains.Chains.{Chains}

-- the home of no slot
abbrev pub nowhere : ℕ
nowhere = 4294967295

-- from this slot on, the links spell this list
abbrev pub IsSpelled : List ℕ → ℕ → List ℕ → Type 0
IsSpelled links s [] = length links ≤ s
IsSpelled links s (x ∷ xs) = (s ≡ x) × (s < length links) × IsSpelled links (slice_index_or links s 0) xs

-- how many times a number stands in a list
abbrev pub times : ℕ → List ℕ → ℕ
times i [] = 0
times i (x ∷ xs) = cond (i == x) 1 0 + times i xs

-- the slots of the home k, and each once
abbrev pub IsAllOf : List ℕ → ℕ → List ℕ → Type 0
IsAllOf homes k xs = (i : ℕ) → times i xs ≡ cond (slice_index_or homes i nowhere == k) 1 0

-- the list that the links spell from a slot on, as far as a number of steps goes
unfoldable pub walk : List ℕ → ℕ → ℕ → List ℕ
walk links zero s = []
walk links (suc n) s = cond (nat_lt s (length links)) (s ∷ walk links n (slice_index_or links s 0)) []

-- all slots from this one on
abbrev pub chain : List ℕ → ℕ → List ℕ
chain links s = walk links (length links) s

-- the links end
unfoldable pub Ends : List ℕ → ℕ → Type 0
Ends links s = IsSpelled links s (chain links s)

-- each chain has just the slots of its home
pub record IsWoven (c : Chains) : Type 0 where
  pub as_many : length c.links.homes ≡ length c.links.nexts
  pub few_slots : length c.links.nexts < nowhere
  pub few_heads : length c.heads < nowhere
  pub ends : (k : ℕ) → k < length c.heads → Ends c.links.nexts (slice_index_or c.heads k 0)
  pub all : (k : ℕ) → k < length c.heads → IsAllOf c.links.homes k (chain c.links.nexts (slice_index_or c.heads k 0))
