-- Facts about buffers of bytes that are zero from a place on, and about writes within them.
use Rattle.std.proofs.Common.{◌≡◌, ℕ, zero, suc, ◌+◌, ◌-◌, ◌*◌, ◌/◌, ◌%◌, ◌^◌, ◌≤◌, ◌<◌, List, [], ◌∷◌, ◌++◌, length, take, drop, slice_range, refl, ap, sym, ◌∙◌, arith, append_assoc, add-one, set, length-append}
use Rattle.std.proofs.lemmas.List.{length-replicate, drop-replicate, take-replicate, drop-drop, drop-take, length-take-le, drop-append-le, take-append-le, take-append-drop, take_at, drop_at, take-take, set_split, append-nil, replicate-append-replicate}
use Rattle.std.proofs.lemmas.Slice.{drop-append-drop}
use Rattle.std.proofs.Math.Seq.{take-add}
use Rattle.std.proofs.Math.Nat.{mod-one}
use Rattle.std.proofs.lemmas.Nat.{mod-pow-add}
use Rattle.std.proofs.lemmas.Grind.{common_steps}
use Rattle.wmem.specs.Access.{Reading, extend, value_read, with_bytes}
use Rattle.wmem.specs.Bytes.{bytes_of, number_in}
use Rattle.wmem.specs.Memory.{zeros}
use Rattle.wmem.specs.inside.Inside.{IsClear}
use Rattle.wmem.specs.inside.Tracked.{extended, stretch}

-- zeros are as many as they are asked for
pub length-zeros : (count : ℕ) → length (zeros count) ≡ count
unfolding zeros
length-zeros count = length-replicate count 0

-- what is left of zeros are zeros
pub drop-zeros : (place count : ℕ) → drop place (zeros count) ≡ zeros (count - place)
unfolding zeros
drop-zeros place count = drop-replicate place count 0

-- a front of zeros are zeros
pub take-zeros : (place count : ℕ) → place ≤ count → take place (zeros count) ≡ zeros place
unfolding zeros
take-zeros place count h = take-replicate place count 0 h

pub no_zeros : (buffer : List ℕ) (count : ℕ) → count ≡ 0 → buffer ≡ buffer ++ zeros count
unfolding zeros
no_zeros buffer count none = rw none (sym (append-nil buffer))

pub length-longer : (buffer : List ℕ) (more : ℕ) → length (buffer ++ zeros more) ≡ length buffer + more
length-longer buffer more = length-append buffer (zeros more) ∙ ap (λ (n : ℕ). length buffer + n) (length-zeros more)

-- zeros behind zeros are as many as both
pub zeros-append : (one other : ℕ) → zeros one ++ zeros other ≡ zeros (one + other)
unfolding zeros
zeros-append one other = replicate-append-replicate one other 0

-- a buffer that is zero from a place on is so with more zeros behind it
pub clear_longer : (buffer : List ℕ) (from more : ℕ) → IsClear buffer from → from ≤ length buffer → IsClear (buffer ++ zeros more) from
clear_longer buffer from more clear within = record {
  rest_is =
      let count : (length buffer - from) + more ≡ length (buffer ++ zeros more) - from = omega (arith, length-longer buffer more) in
      drop-append-le from buffer (zeros more) within
      ∙ ap (λ (rest : List ℕ). rest ++ zeros more) clear.rest_is
      ∙ zeros-append (length buffer - from) more
      ∙ ap zeros count;
}

the_same : (pages : ℕ) → stretch * pages - length {A = ℕ} [] ≡ stretch * pages
the_same pages = omega arith

-- a buffer that had nothing is zeros
pub extended_from_none : (buffer : List ℕ) (pages : ℕ) → buffer ≡ [] → extended buffer pages ≡ zeros (stretch * pages)
extended_from_none buffer pages none = ap (λ (xs : List ℕ). extended xs pages) none ∙ ap zeros (the_same pages)

-- a number has as many bytes as it is asked for
pub length-bytes_of : (count number : ℕ) → length (bytes_of count number) ≡ count
length-bytes_of zero number = refl
length-bytes_of (suc count) number = grind (arith, length-bytes_of count (number / 256))

-- a buffer of zeros is zero from any place on
pub clear_zeros : (buffer : List ℕ) (from count : ℕ) → buffer ≡ zeros count → IsClear buffer from
clear_zeros buffer from count is = record {
  rest_is = ap (drop from) is ∙ drop-zeros from count ∙ ap (λ (n : ℕ). zeros (n - from)) (sym (ap length is ∙ length-zeros count));
}

-- a buffer that is zero from a place on is so from each later one on
pub clear_later : (buffer : List ℕ) (from later : ℕ) → IsClear buffer from → from ≤ later → IsClear buffer later
clear_later buffer from later clear h = record {
  rest_is =
      let split : from + (later - from) ≡ later = omega arith in
      let there : drop (later - from) (drop from buffer) ≡ drop later buffer = drop-drop (later - from) from buffer ∙ ap (λ (k : ℕ). drop k buffer) split in
      let left : length buffer - from - (later - from) ≡ length buffer - later = omega arith in
      sym there ∙ ap (drop (later - from)) clear.rest_is ∙ drop-zeros (later - from) (length buffer - from) ∙ ap zeros left;
}

-- a buffer of the same length with the same rest is as clear
pub clear_same : (old new : List ℕ) (from : ℕ) → IsClear old from → length new ≡ length old → drop from new ≡ drop from old → IsClear new from
clear_same old new from clear same_length same_rest = record {
  rest_is = same_rest ∙ clear.rest_is ∙ ap (λ (n : ℕ). zeros (n - from)) (sym same_length);
}

-- the part in use grows by zeros
pub take-clear : (buffer : List ℕ) (from more : ℕ) → IsClear buffer from → from + more ≤ length buffer
    → take (from + more) buffer ≡ take from buffer ++ zeros more
take-clear buffer from more clear h =
    take-add from more buffer
    ∙ ap (λ (rest : List ℕ). take from buffer ++ rest) (ap (take more) clear.rest_is ∙ take-zeros more (length buffer - from) (omega arith))

-- a write changes no length
pub length-with_bytes : (buffer : List ℕ) (at : ℕ) (new : List ℕ) → at + length new ≤ length buffer
    → length (with_bytes buffer at new) ≡ length buffer
length-with_bytes buffer at new h = grind (arith, common_steps)

-- a write leaves what is past it
pub drop-with_bytes : (buffer : List ℕ) (at : ℕ) (new : List ℕ) (place : ℕ) → at + length new ≤ place → at + length new ≤ length buffer
    → drop place (with_bytes buffer at new) ≡ drop place buffer
drop-with_bytes buffer at new place h g =
    let length_front : length (take at buffer ++ new) ≡ at + length new = grind (arith, common_steps) in
    drop-append-drop (at + length new) buffer (take at buffer ++ new) place h length_front

-- a write in a front of a list leaves what is behind it
pub with_bytes-append : (front back : List ℕ) (at : ℕ) (new : List ℕ) → at + length new ≤ length front
    → with_bytes (front ++ back) at new ≡ with_bytes front at new ++ back
with_bytes-append front back at new h =
    let low : at ≤ length front = omega arith in
    rw (take-append-le at front back low, drop-append-le (at + length new) front back h)
    (sym (append_assoc (take at front ++ new) (drop (at + length new) front) back))

-- a write within a front is a write in that front
pub take-with_bytes : (buffer : List ℕ) (at : ℕ) (new : List ℕ) (place : ℕ) → at + length new ≤ place → place ≤ length buffer
    → take place (with_bytes buffer at new) ≡ with_bytes (take place buffer) at new
take-with_bytes buffer at new place h g =
    let length_front : length (take place buffer) ≡ place = length-take-le place buffer g in
    let within : at + length new ≤ length (take place buffer) = omega arith in
    let split : with_bytes buffer at new ≡ with_bytes (take place buffer) at new ++ drop place buffer =
    ap (λ (xs : List ℕ). with_bytes xs at new) (sym (take-append-drop place buffer))
    ∙ with_bytes-append (take place buffer) (drop place buffer) at new within in
    ap (take place) split
    ∙ take_at (with_bytes (take place buffer) at new) (drop place buffer) place
    (length-with_bytes (take place buffer) at new within ∙ length_front)

-- what is read within a front is read in the whole
pub slice_range-take : (buffer : List ℕ) (place from to : ℕ) → from ≤ to → to ≤ place
    → slice_range (take place buffer) from to ≡ slice_range buffer from to
slice_range-take buffer place from to low high =
    let split : from + (place - from) ≡ place = omega arith in
    let there : drop from (take place buffer) ≡ take (place - from) (drop from buffer) =
    ap (λ (k : ℕ). drop from (take k buffer)) (sym split) ∙ drop-take from (place - from) buffer in
    let fits : to - from ≤ place - from = omega arith in
    ap (take (to - from)) there ∙ take-take (to - from) (place - from) (drop from buffer) fits

-- what a load reads within a front it reads in the whole
pub value_read-take : (reading : Reading) (buffer : List ℕ) (place address : ℕ) → address + reading.bytes ≤ place
    → value_read reading (take place buffer) address ≡ value_read reading buffer address
value_read-take reading buffer place address within =
    let value_of : List ℕ → ℕ = λ bytes. extend reading.signed (8 * reading.bytes) reading.bits (number_in bytes) in
    ap value_of (slice_range-take buffer place address (address + reading.bytes) (omega arith) within)

-- a byte set in a buffer is a write of one byte
pub set-with_bytes : (buffer : List ℕ) (at byte : ℕ) → at < length buffer → set buffer at byte ≡ with_bytes buffer at (byte ∷ [])
set-with_bytes buffer at byte within =
    set_split buffer at byte within ∙ rw add-one (sym (append_assoc (take at buffer) (byte ∷ []) (drop (suc at) buffer)))

-- a number's bytes stand for it, as far as they go
pub number_in-bytes_of : (count number : ℕ) → number_in (bytes_of count number) ≡ number % 2 ^ (8 * count)
number_in-bytes_of zero number = sym (mod-one number)
number_in-bytes_of (suc count) number =
    let rest : number_in (bytes_of count (number / 256)) ≡ number / 256 % 2 ^ (8 * count) = number_in-bytes_of count (number / 256) in
    let more : 8 * suc count ≡ 8 * count + 8 = omega arith in
    let split : number % 2 ^ (8 * count + 8) ≡ (number / 256 % 2 ^ (8 * count)) * 256 + number % 256 = mod-pow-add number (8 * count) 8 in
    rw more (omega (arith, rest, split))

-- what was written is read where it was written
pub slice_range-with_bytes : (buffer : List ℕ) (at : ℕ) (new : List ℕ) → at + length new ≤ length buffer
    → slice_range (with_bytes buffer at new) at (at + length new) ≡ new
slice_range-with_bytes buffer at new within =
    let rest : List ℕ = drop (at + length new) buffer in
    let length_front : length (take at buffer) ≡ at = length-take-le at buffer (omega arith) in
    let there : drop at (with_bytes buffer at new) ≡ new ++ rest =
    ap (drop at) (append_assoc (take at buffer) new rest) ∙ drop_at (take at buffer) (new ++ rest) at length_front in
    let count : at + length new - at ≡ length new = omega arith in
    ap (λ (n : ℕ). take n (drop at (with_bytes buffer at new))) count ∙ ap (take (length new)) there ∙ take_at new rest (length new) refl

-- what lies before a write is left
pub take-with_bytes_before : (buffer : List ℕ) (at : ℕ) (new : List ℕ) (place : ℕ) → at ≤ length buffer → place ≤ at
    → take place (with_bytes buffer at new) ≡ take place buffer
take-with_bytes_before buffer at new place within before =
    let rest : List ℕ = drop (at + length new) buffer in
    let length_front : length (take at buffer) ≡ at = length-take-le at buffer within in
    ap (take place) (append_assoc (take at buffer) new rest)
    ∙ take-append-le place (take at buffer) (new ++ rest) (omega arith)
    ∙ take-take place at buffer before
