-- The front of what a source gives, read piece by piece.
use Rattle.std.proofs.Common.{◌≡◌, ◌∙◌, ℕ, ◌+◌, ◌≤◌, List, [], ◌++◌, length, take, Option, Some, None, IfSome, refl, ap, sym, arith}
use Rattle.std.proofs.lemmas.List.{length-append, length-take, length-take-le, take-take, take_all}
use Rattle.std.proofs.Math.Seq.{take-append-add, take-append_seam}
use Rattle.std.proofs.KnownBytes.{Consumes-all}
use Rattle.std.specs.Io.KnownBytes.{Consumes, IsAtEnd}

-- a piece behind what was read, in the buffer that holds both
pub filled : (a n : ℕ) (xs ys put : List ℕ) → a ≤ length xs → n ≤ length ys → take (a + length ys) put ≡ take a xs ++ ys
    → (a + n ≤ length put) × (take (a + n) put ≡ take a xs ++ take n ys)
filled a n xs ys put le some e =
    let front = length-take-le a xs le in (
      omega (arith, length-take (a + length ys) put, ap length e, length-append (take a xs) ys, front, some),
      sym (take-take (a + n) (a + length ys) put (omega (arith, some))) ∙ ap (take (a + n)) e
          ∙ ap (λ m. take (m + n) (take a xs ++ ys)) (sym front) ∙ take-append-add (take a xs) ys n,
    )

-- where nothing is left, that is all of it
pub ended : (a b : Option (List ℕ)) (n : ℕ) (buffer : List ℕ) → n ≤ length buffer → Consumes a b (take n buffer) → IsAtEnd b
    → IfSome a (λ whole. take n buffer ≡ take (length buffer) whole)
ended None b n buffer le p q = tt
ended (Some xs) b n buffer le p q =
    let all : take n buffer ≡ xs = Consumes-all (Some xs) b (take n buffer) [] (take n buffer) p q refl in
    all ∙ sym (take_all (length buffer) xs (omega (arith, ap length all, length-take-le n buffer le, le)))

-- where the buffer is full, that is its front
pub full : (a b : Option (List ℕ)) (n : ℕ) (buffer : List ℕ) → n ≤ length buffer → length buffer ≤ n → Consumes a b (take n buffer)
    → IfSome a (λ whole. take n buffer ≡ take (length buffer) whole)
full None b n buffer le ge p = tt
full (Some xs) None n buffer le ge p = absurd p
full (Some xs) (Some ys) n buffer le ge p =
    let front = take n buffer in
    let len : length front ≡ length buffer = omega (arith, length-take-le n buffer le, le, ge) in
    sym (ap (take (length buffer)) p ∙ ap (λ m. take m (front ++ ys)) (sym len) ∙ take-append_seam front ys)
