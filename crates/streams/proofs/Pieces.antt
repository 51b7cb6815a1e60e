-- Pieces of lines, as they are cut off a buffer and kept.
use Rattle.std.proofs.Common.{◌≡◌, ℕ, ◌+◌, ◌-◌, ◌<◌, ◌≤◌, List, ◌∷◌, ◌++◌, length, take, drop, get_or, min, slice_range, sym, ap, ◌∙◌, arith}
use Rattle.std.proofs.Math.Seq.{take-append-add}
use Rattle.std.proofs.lemmas.List.{take_all, take_min, take-append-drop, take-append-le, length-take, drop-take, drop-drop, drop_more}

-- what is added to a kept line within its room is kept of the whole
pub kept_push : (most : ℕ) (line piece : List ℕ) (room n : ℕ) → length line + room ≡ most → n ≡ min (length piece) room → line ++ take n piece ≡ take most (line ++ piece)
kept_push most line piece room n fits least =
    let smaller : n ≡ min room (length piece) = omega arith in
    let cut : take n piece ≡ take room piece = ap (λ k. take k piece) smaller ∙ take_min room piece in
    ap (λ t. line ++ t) cut ∙ sym (take-append-add line piece room) ∙ ap (λ k. take k (line ++ piece)) fits

-- a range of a list, cut behind one of its elements
pub range-cut : (xs : List ℕ) (start end at : ℕ) → at < length (slice_range xs start end) → get_or (slice_range xs start end) at 0 ≡ 10 → slice_range xs start end ≡ take at (slice_range xs start end) ++ 10 ∷ slice_range xs (start + (at + 1)) end
range-cut xs start end at inside newline =
    let v = slice_range xs start end in
    let m = end - (start + (at + 1)) in
    let whole : end - start ≡ (at + 1) + m = omega (arith, length-take (end - start) (drop start xs)) in
    let behind : drop (at + 1) v ≡ slice_range xs (start + (at + 1)) end =
    ap (λ k. drop (at + 1) (take k (drop start xs))) whole ∙ drop-take (at + 1) m (drop start xs) ∙ ap (take m) (drop-drop (at + 1) start xs)
    in
    sym (take-append-drop at v)
    ∙ ap (λ t. take at v ++ t) (drop_more v at 0 inside ∙ ap (λ b. b ∷ drop (at + 1) v) newline ∙ ap (λ t. 10 ∷ t) behind)

-- the first of a list whose items were all written anew
pub written-front : (xs old : List ℕ) (len n : ℕ) → length xs ≡ len → slice_range (take len (xs ++ old)) 0 n ≡ take n xs
written-front xs old len n long =
    let within : len ≤ length xs = omega arith in
    let past : length xs ≤ len = omega arith in
    let all : n - 0 ≡ n = omega arith in
    ap (λ k. take k (take len (xs ++ old))) all ∙ ap (λ t. take n t) (take-append-le len xs old within ∙ take_all len xs past)
