-- Lists of which what was never written takes no memory.
use Rattle.std.specs.Prelude.{◌≡◌, ℕ, ◌+◌, ◌*◌, ◌/◌, ◌%◌, ◌<◌, ◌≤◌, List, map, length, nat_lt, count_by, slice_index_or}
use Rattle.std.specs.List.{range_with_len}
use Rattle.name_table.specs.declared.links.Link.{Link}

-- so many numbers, each from its place
abbrev pub listed : (ℕ → ℕ) → ℕ → List ℕ
listed f n = map f (range_with_len 0 n)

-- how slots hang: the slot after each, and its chain
pub record Hung : Type 0 where
  pub nexts : List ℕ
  pub homes : List ℕ

-- the link of a slot that never moved, which is free and before the next
abbrev pub first_link : ℕ → ℕ → Link
first_link free k = record { next = k + 1; home = free }

-- the link of a slot
abbrev pub link_at : List Link → ℕ → ℕ → Link
link_at written free k = slice_index_or written k (first_link free k)

-- the links of so many slots
abbrev pub hung : List Link → ℕ → ℕ → Hung
hung written room free = record {
  nexts = listed (λ k. (link_at written free k).next) room;
  homes = listed (λ k. (link_at written free k).home) room;
}

-- where a block is that was never written
abbrev pub unwritten : ℕ
unwritten = 65535

-- where a head is among those that were written
abbrev pub spot : List ℕ → ℕ → ℕ
spot blocks k = slice_index_or blocks (k / 1024) 0 * 1024 + k % 1024

-- a head, which is the end where its block was never written
abbrev pub head_at : List ℕ → List ℕ → ℕ → ℕ → ℕ
head_at blocks written end k = slice_index_or written (spot blocks k) end

-- blocks that were written are there, as many as are there, and apart
pub record AreBlocks (blocks written : List ℕ) : Type 0 where
  pub few : length blocks < unwritten
  pub counted : length written ≡ 1024 * count_by (λ b. nat_lt b unwritten) blocks
  pub whole : (i : ℕ) → i < length blocks → slice_index_or blocks i 0 < unwritten → slice_index_or blocks i 0 * 1024 + 1024 ≤ length written
  pub apart : (i j : ℕ) → i < length blocks → j < length blocks → slice_index_or blocks i 0 < unwritten → slice_index_or blocks i 0 ≡ slice_index_or blocks j 0 → i ≡ j

-- and there is room for each
pub record AreRoomy (blocks written : List ℕ) (len capacity : ℕ) : Type 0 where
  pub apart : AreBlocks blocks written
  pub within : len ≤ 1024 * length blocks
  pub room : 1024 * length blocks ≤ capacity
