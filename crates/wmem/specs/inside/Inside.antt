-- What a memory's fields mean.
use Rattle.std.specs.Prelude.{◌≡◌, ℕ, ◌-◌, ◌*◌, ◌%◌, ◌≤◌, List, length, take, drop}
use Rattle.wmem.specs.declared.memory.Memory.TheInside.{Inside}
use Rattle.wmem.specs.Memory.{MemoryInstance, page_size, most_pages, zeros}
use Rattle.wmem.specs.inside.Tracked.{stretch}

-- the bytes and the image are the parts of the buffers that are in use
abbrev pub instance_of : Inside → MemoryInstance
instance_of memory = record {
  bytes = take memory.len memory.tracked.bytes;
  cap = memory.cap;
  image = take memory.image_len memory.tracked.image;
}

-- a buffer is zero from a place on
pub record IsClear (buffer : List ℕ) (from : ℕ) : Type 0 where
  pub rest_is : drop from buffer ≡ zeros (length buffer - from)

-- There is room for the whole cap. Both buffers have as much of it as was ever in use, and are zero
-- past what is, which is whole pages.
pub record IsSound (memory : Inside) : Type 0 where
  pub limited : memory.cap ≤ most_pages
  pub room : stretch * memory.tracked.noted.room ≡ page_size * memory.cap
  pub same : length memory.tracked.image ≡ length memory.tracked.bytes
  pub opened : memory.len ≤ length memory.tracked.bytes
  pub whole_pages : memory.len % page_size ≡ 0
  pub whole_image : memory.image_len % page_size ≡ 0
  pub within : memory.len ≤ page_size * memory.cap
  pub grown : memory.image_len ≤ memory.len
  pub clear : IsClear memory.tracked.bytes memory.len
  pub image_clear : IsClear memory.tracked.image memory.image_len
