-- A linear memory (WebAssembly Core 1.0, 4.2.8), and the image that it can be brought back to.
use Rattle.std.specs.Prelude.{◌≡◌, ℕ, ◌+◌, ◌*◌, ◌/◌, ◌%◌, ◌<◌, ◌≤◌, List, ◌++◌, length, replicate, slice_index, slice_index_or, count_by, Bool, false, Option, Some, None, Result, Ok, Err}
use Rattle.wmem.specs.declared.trap.Trap.{Trap}
use Rattle.wmem.specs.Access.{with_bytes}

-- how many bytes a page has
abbrev pub page_size : ℕ
page_size = 65536

-- the most pages that a memory may have
abbrev pub most_pages : ℕ
most_pages = 32

-- what a memory is: its bytes, the greatest size in pages that it may grow to, and the bytes to go
-- back to
pub record MemoryInstance : Type 0 where
  pub bytes : List ℕ
  pub cap : ℕ
  pub image : List ℕ

-- so many bytes of zero
unfoldable pub zeros : ℕ → List ℕ
zeros count = replicate count 0

-- a size in pages
abbrev pub pages_in : List ℕ → ℕ
pages_in bytes = length bytes / page_size

-- what is so of every memory: sizes are whole numbers of pages, and none passes the cap
pub record IsMemory (memory : MemoryInstance) : Type 0 where
  pub whole_pages : length memory.bytes % page_size ≡ 0
  pub within_cap : length memory.bytes ≤ page_size * memory.cap
  pub whole_image : length memory.image % page_size ≡ 0
  pub grown : length memory.image ≤ length memory.bytes
  pub limited : memory.cap ≤ most_pages

-- a new memory of so many pages of zeros, whose image is itself
abbrev pub new_memory : ℕ → ℕ → MemoryInstance
new_memory pages cap = record { bytes = zeros (page_size * pages); cap = cap; image = zeros (page_size * pages) }

-- a write's outcome: all the bytes stand at the address, or, where they would pass the memory's
-- end, nothing is written
abbrev pub WriteGives : Trap → MemoryInstance → ℕ → List ℕ → Result (Unit {0}) Trap → MemoryInstance → Type 0
WriteGives out_of_bounds old address new_bytes (Ok done) new =
    (address + length new_bytes ≤ length old.bytes) × (new ≡ record old { bytes = with_bytes old.bytes address new_bytes })
WriteGives out_of_bounds old address new_bytes (Err trap) new =
    (length old.bytes < address + length new_bytes) × (trap ≡ out_of_bounds) × (new ≡ old)

-- a growth's outcome: the old size and that many more pages of zeros, or, where the cap is less, no
-- change
abbrev pub GrowGives : MemoryInstance → ℕ → Option ℕ → MemoryInstance → Type 0
GrowGives old delta (Some pages) new =
    (pages_in old.bytes + delta ≤ old.cap) × (pages ≡ pages_in old.bytes)
    × (new ≡ record old { bytes = old.bytes ++ zeros (page_size * delta) })
GrowGives old delta None new = (old.cap < pages_in old.bytes + delta) × (new ≡ old)

-- the bytes of this page of 4,096 bytes are the image's, and zero past the image's end
abbrev pub IsUntouched : MemoryInstance → ℕ → Type 0
IsUntouched memory page = (k : ℕ) → k / 4096 ≡ page → slice_index memory.bytes k ≡ slice_index memory.image k

-- so many pages of 4,096 bytes have flags, and each one without is untouched
abbrev pub TouchesAtMost : MemoryInstance → ℕ → Type 0
TouchesAtMost memory count =
    (flags : List Bool) × (count_by (λ flag. flag) flags ≡ count) × ((page : ℕ) → slice_index_or flags page false ≡ false → IsUntouched memory page)
