-- What each change of a memory's fields does to what they mean, and that it keeps them sound.
use Rattle.std.proofs.Common.{◌≡◌, ℕ, ◌+◌, ◌-◌, ◌*◌, ◌/◌, ◌%◌, ◌≤◌, List, ◌++◌, length, take, drop, ap, sym, ◌∙◌, arith, Vec, Global, get_or, replicate, inl, inr}
use Rattle.std.proofs.lemmas.List.{length-take-le, take-append-le, with_items_is, get_or-take, get_or-drop, get_or_past, get_or-replicate, length-replicate}
use Rattle.std.proofs.lemmas.Bool.{cases_lt}
use Rattle.std.specs.Vec.{with_items}
use Rattle.wmem.specs.declared.memory.Memory.TheInside.{Inside}
use Rattle.wmem.specs.Access.{with_bytes}
use Rattle.wmem.specs.inside.Noted.{AreIn}
use Rattle.wmem.specs.inside.Tracked.{TrackedBytes, IsTracked, stretch, extended}
use Rattle.wmem.specs.Memory.{MemoryInstance, page_size, most_pages, zeros, new_memory, TouchesAtMost}
use Rattle.wmem.specs.inside.Inside.{instance_of, IsClear, IsSound}
use Rattle.wmem.proofs.Buffers.{length-zeros, length-longer, clear_longer, take-zeros, clear_zeros, clear_later, clear_same, take-clear, length-with_bytes, drop-with_bytes, take-with_bytes}

-- as many bytes are seen as are in use
pub length-bytes : (memory : Inside) → IsSound memory → length (take memory.len memory.tracked.bytes) ≡ memory.len
length-bytes memory sound = length-take-le memory.len memory.tracked.bytes sound.opened

-- a buffer written through a slice of all of it holds what was written
pub written_items : (buffer : Vec ℕ Global) (slice written : List ℕ) (at : ℕ) (new : List ℕ) → slice ≡ buffer.items
    → at + length new ≤ length buffer.items → written ≡ with_bytes slice at new
    → (with_items buffer written).items ≡ with_bytes buffer.items at new
written_items buffer slice written at new whole within is =
    let there : written ≡ with_bytes buffer.items at new = is ∙ ap (λ (xs : List ℕ). with_bytes xs at new) whole in
    let fits : length written ≡ buffer.len = ap length there ∙ length-with_bytes buffer.items at new within ∙ sym buffer.ok.0 in
    with_items_is buffer written fits ∙ there

-- a write within the part in use keeps the fields sound
pub write_sound : (memory : Inside) (later : TrackedBytes) (at : ℕ) (new : List ℕ) → IsSound memory → at + length new ≤ memory.len
    → later.bytes ≡ with_bytes memory.tracked.bytes at new → later.image ≡ memory.tracked.image → later.noted.room ≡ memory.tracked.noted.room
    → IsSound (record memory { tracked = later })
write_sound memory later at new sound within is image_is room_is =
    let fits : memory.len ≤ length memory.tracked.bytes = sound.opened in
    let same_length : length later.bytes ≡ length memory.tracked.bytes =
    ap length is ∙ length-with_bytes memory.tracked.bytes at new (omega arith) in
    let same_rest : drop memory.len later.bytes ≡ drop memory.len memory.tracked.bytes =
    ap (drop memory.len) is ∙ drop-with_bytes memory.tracked.bytes at new memory.len within (omega arith) in
    record {
      limited = sound.limited;
      room = ap (λ (n : ℕ). stretch * n) room_is ∙ sound.room;
      same = ap length image_is ∙ sound.same ∙ sym same_length;
      opened = omega (arith, same_length, fits);
      whole_pages = sound.whole_pages;
      whole_image = sound.whole_image;
      within = sound.within;
      grown = sound.grown;
      clear = clear_same memory.tracked.bytes later.bytes memory.len sound.clear same_length same_rest;
      image_clear = rw image_is sound.image_clear;
    }

-- and is the same write in what they mean
pub write_view : (memory : Inside) (later : TrackedBytes) (at : ℕ) (new : List ℕ) → IsSound memory → at + length new ≤ memory.len
    → later.bytes ≡ with_bytes memory.tracked.bytes at new → later.image ≡ memory.tracked.image
    → instance_of (record memory { tracked = later }) ≡ record (instance_of memory) { bytes = with_bytes (instance_of memory).bytes at new }
write_view memory later at new sound within is image_is =
    let fits : memory.len ≤ length memory.tracked.bytes = sound.opened in
    let seen : List ℕ → List ℕ → MemoryInstance = λ bytes image. record { bytes = bytes; cap = memory.cap; image = take memory.image_len image } in
    ap (λ (image : List ℕ). seen (take memory.len later.bytes) image) image_is
    ∙ ap (λ (bytes : List ℕ). seen bytes memory.tracked.image) (ap (take memory.len) is ∙ take-with_bytes memory.tracked.bytes at new memory.len within fits)

-- zeros behind both buffers: the fields are still sound
pub extend_sound : (memory : Inside) (later : TrackedBytes) (pages : ℕ) → IsSound memory → later.bytes ≡ extended memory.tracked.bytes pages
    → later.image ≡ extended memory.tracked.image pages → later.noted.room ≡ memory.tracked.noted.room → IsSound (record memory { tracked = later })
extend_sound memory later pages sound is image_is room_is =
    let more : ℕ = stretch * pages - length memory.tracked.bytes in
    let image_more : ℕ = stretch * pages - length memory.tracked.image in
    let longer : length later.bytes ≡ length memory.tracked.bytes + more = ap length is ∙ length-longer memory.tracked.bytes more in
    let image_longer : length later.image ≡ length memory.tracked.image + image_more =
    ap length image_is ∙ length-longer memory.tracked.image image_more in
    record {
      limited = sound.limited;
      room = ap (λ (n : ℕ). stretch * n) room_is ∙ sound.room;
      same = omega (arith, longer, image_longer, sound.same);
      opened = omega (arith, longer, sound.opened);
      whole_pages = sound.whole_pages;
      whole_image = sound.whole_image;
      within = sound.within;
      grown = sound.grown;
      clear = rw is (clear_longer memory.tracked.bytes memory.len more sound.clear sound.opened);
      image_clear = rw image_is
          (clear_longer memory.tracked.image memory.image_len image_more sound.image_clear (omega (arith, sound.same, sound.opened, sound.grown)));
    }

-- and mean what they did
pub extend_view : (memory : Inside) (later : TrackedBytes) (pages : ℕ) → IsSound memory → later.bytes ≡ extended memory.tracked.bytes pages
    → later.image ≡ extended memory.tracked.image pages → instance_of (record memory { tracked = later }) ≡ instance_of memory
extend_view memory later pages sound is image_is =
    let more : ℕ = stretch * pages - length memory.tracked.bytes in
    let image_more : ℕ = stretch * pages - length memory.tracked.image in
    let seen : List ℕ → List ℕ → MemoryInstance = λ bytes image. record { bytes = bytes; cap = memory.cap; image = image } in
    let bytes_are : take memory.len later.bytes ≡ take memory.len memory.tracked.bytes =
    ap (take memory.len) is ∙ take-append-le memory.len memory.tracked.bytes (zeros more) sound.opened in
    let image_are : take memory.image_len later.image ≡ take memory.image_len memory.tracked.image =
    ap (take memory.image_len) image_is
    ∙ take-append-le memory.image_len memory.tracked.image (zeros image_more) (omega (arith, sound.same, sound.opened, sound.grown)) in
    ap (λ (bytes : List ℕ). seen bytes (take memory.image_len later.image)) bytes_are
    ∙ ap (λ (image : List ℕ). seen (take memory.len memory.tracked.bytes) image) image_are

-- more of the zeros in use: the fields are still sound
pub grow_sound : (memory : Inside) (more : ℕ) → IsSound memory → more % page_size ≡ 0 → memory.len + more ≤ page_size * memory.cap
    → memory.len + more ≤ length memory.tracked.bytes → IsSound (record memory { len = memory.len + more })
grow_sound memory more sound whole within opened = record {
  limited = sound.limited;
  room = sound.room;
  same = sound.same;
  opened = opened;
  whole_pages = omega (arith, sound.whole_pages);
  whole_image = sound.whole_image;
  within = within;
  grown = omega (arith, sound.grown);
  clear = clear_later memory.tracked.bytes memory.len (memory.len + more) sound.clear (omega arith);
  image_clear = sound.image_clear;
}

-- and the bytes end in that many zeros
pub grow_view : (memory : Inside) (more : ℕ) → IsSound memory → memory.len + more ≤ length memory.tracked.bytes
    → instance_of (record memory { len = memory.len + more }) ≡ record (instance_of memory) { bytes = (instance_of memory).bytes ++ zeros more }
grow_view memory more sound opened =
    let seen : List ℕ → MemoryInstance = λ bytes. record { bytes = bytes; cap = memory.cap; image = take memory.image_len memory.tracked.image } in
    ap seen (take-clear memory.tracked.bytes memory.len more sound.clear opened)

-- the bytes made the image
pub keep_sound : (memory : Inside) (later : TrackedBytes) (image_len : ℕ) → IsSound memory → later.bytes ≡ memory.tracked.bytes
    → later.image ≡ memory.tracked.bytes → later.noted.room ≡ memory.tracked.noted.room → image_len ≡ memory.len
    → IsSound (record memory { tracked = later; image_len = image_len })
keep_sound memory later image_len sound is image_is room_is size = record {
  limited = sound.limited;
  room = ap (λ (n : ℕ). stretch * n) room_is ∙ sound.room;
  same = ap length image_is ∙ sym (ap length is);
  opened = omega (arith, ap length is, sound.opened);
  whole_pages = sound.whole_pages;
  whole_image = omega (arith, size, sound.whole_pages);
  within = sound.within;
  grown = omega (arith, size);
  clear = rw is sound.clear;
  image_clear = rw (image_is, size) sound.clear;
}

-- the image made the bytes, of which at least as many are in use as the image has
pub reset_sound : (memory : Inside) (later : TrackedBytes) (len : ℕ) → IsSound memory → later.bytes ≡ memory.tracked.image
    → later.image ≡ memory.tracked.image → later.noted.room ≡ memory.tracked.noted.room → len % page_size ≡ 0 → memory.image_len ≤ len
    → len ≤ memory.len → IsSound (record memory { tracked = later; len = len })
reset_sound memory later len sound is image_is room_is whole least most = record {
  limited = sound.limited;
  room = ap (λ (n : ℕ). stretch * n) room_is ∙ sound.room;
  same = ap length image_is ∙ sym (ap length is);
  opened = omega (arith, ap length is, sound.same, sound.opened, most);
  whole_pages = whole;
  whole_image = sound.whole_image;
  within = omega (arith, sound.within, most);
  grown = least;
  clear = rw is (clear_later memory.tracked.image memory.image_len len sound.image_clear least);
  image_clear = rw image_is sound.image_clear;
}

-- two buffers of as many zeros as are in use
pub new_sound : (memory : Inside) (pages : ℕ) → pages ≤ memory.cap → memory.cap ≤ most_pages
    → memory.tracked.bytes ≡ zeros (page_size * pages) → memory.tracked.image ≡ zeros (page_size * pages)
    → stretch * memory.tracked.noted.room ≡ page_size * memory.cap
    → memory.len ≡ page_size * pages → memory.image_len ≡ page_size * pages → IsSound memory
new_sound memory pages within limited is image_is room len_is image_len_is =
    let count : length memory.tracked.bytes ≡ page_size * pages = ap length is ∙ length-zeros (page_size * pages) in
    let image_count : length memory.tracked.image ≡ page_size * pages = ap length image_is ∙ length-zeros (page_size * pages) in
    record {
      limited = limited;
      room = room;
      same = image_count ∙ sym count;
      opened = omega (arith, count, len_is);
      whole_pages = omega (arith, len_is);
      whole_image = omega (arith, image_len_is);
      within = omega (arith, len_is);
      grown = omega (arith, len_is, image_len_is);
      clear = clear_zeros memory.tracked.bytes memory.len (page_size * pages) is;
      image_clear = clear_zeros memory.tracked.image memory.image_len (page_size * pages) image_is;
    }

-- what two buffers of zeros mean
pub new_view : (memory : Inside) (pages : ℕ)
    → memory.tracked.bytes ≡ zeros (page_size * pages) → memory.tracked.image ≡ zeros (page_size * pages)
    → memory.len ≡ page_size * pages → memory.image_len ≡ page_size * pages → instance_of memory ≡ new_memory pages memory.cap
new_view memory pages is image_is len_is image_len_is =
    let whole : take (page_size * pages) (zeros (page_size * pages)) ≡ zeros (page_size * pages) =
    take-zeros (page_size * pages) (page_size * pages) (omega arith) in
    let bytes_are : take memory.len memory.tracked.bytes ≡ zeros (page_size * pages) =
    ap (take memory.len) is ∙ ap (λ (n : ℕ). take n (zeros (page_size * pages))) len_is ∙ whole in
    let image_bytes_are : take memory.image_len memory.tracked.image ≡ zeros (page_size * pages) =
    ap (take memory.image_len) image_is ∙ ap (λ (n : ℕ). take n (zeros (page_size * pages))) image_len_is ∙ whole in
    let with_bytes : List ℕ → MemoryInstance = λ bytes. record { bytes = bytes; cap = memory.cap; image = take memory.image_len memory.tracked.image } in
    let with_image : List ℕ → MemoryInstance = λ image. record { bytes = zeros (page_size * pages); cap = memory.cap; image = image } in
    ap with_bytes bytes_are ∙ ap with_image image_bytes_are

-- a byte of zeros is zero
zero_at : (count k : ℕ) → get_or (zeros count) k 0 ≡ 0
unfolding zeros
zero_at count k = elim (cases_lt k count) [
  | inl within ↦ get_or-replicate count k 0 0 within
  | inr past ↦ get_or_past (replicate count 0) k 0 (rw (length-replicate {A = ℕ}) past)
]

-- where a buffer is zero from a place on, its front reads as all of it does
pub front_reads : (buffer : List ℕ) (from k : ℕ) → IsClear buffer from → from ≤ length buffer → get_or (take from buffer) k 0 ≡ get_or buffer k 0
front_reads buffer from k clear within = elim (cases_lt k from) [
  | inl before ↦ get_or-take from buffer k 0 before
  | inr behind ↦ (
      let back : from + (k - from) ≡ k = omega arith in
      get_or_past (take from buffer) k 0 (rw (length-take-le from buffer within) behind)
      ∙ sym (
      ap (λ (n : ℕ). get_or buffer n 0) (sym back) ∙ sym (get_or-drop from buffer (k - from) 0)
      ∙ ap (λ (xs : List ℕ). get_or xs (k - from) 0) clear.rest_is ∙ zero_at (length buffer - from) (k - from)))
]

-- pages of 4,096 bytes of which no stretch is noted are untouched
pub touches : (memory : Inside) (count : ℕ) → IsSound memory → IsTracked memory.tracked → AreIn memory.tracked.noted.flags count
    → TouchesAtMost (instance_of memory) count
touches memory count sound tracked are = (
  are.large,
  are.many,
  λ page unset k on_page.
      let there : (k / stretch) / 16 ≡ page = omega (arith, on_page) in
      front_reads memory.tracked.bytes memory.len k sound.clear sound.opened
      ∙ tracked.agrees k (are.unset (k / stretch) (rw there unset))
      ∙ sym (front_reads memory.tracked.image memory.image_len k sound.image_clear (omega (arith, sound.same, sound.opened, sound.grown))),
)

-- what more in use means, where the buffers were extended first
pub grown_is : (memory : Inside) (later : TrackedBytes) (more : ℕ) → instance_of (record memory { tracked = later }) ≡ instance_of memory
    → instance_of (record memory { tracked = later; len = memory.len + more })
    ≡ record (instance_of (record memory { tracked = later })) { bytes = (instance_of (record memory { tracked = later })).bytes ++ zeros more }
    → instance_of (record memory { tracked = later; len = memory.len + more })
    ≡ record (instance_of memory) { bytes = (instance_of memory).bytes ++ zeros more }
grown_is memory later more same is = is ∙ ap (λ (m : MemoryInstance). record m { bytes = m.bytes ++ zeros more }) same
