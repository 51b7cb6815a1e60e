-- A line, as it is taken off a source in pieces.
use Rattle.std.proofs.Common.{◌≡◌, ℕ, zero, suc, ◌+◌, ◌<◌, ◌≤◌, Bool, true, false, cond, eqb, ltb, List, [], ◌∷◌, ◌++◌, length, take, Option, Some, None, refl, sym, subst, ap, ◌∙◌, arith, append_assoc}
use Rattle.std.proofs.KnownBytes.{Consumes-trans, Consumes-nil}
use Rattle.std.proofs.lemmas.Bool.{false≢true, ltb-true, lt-ltb, ne_eqb}
use Rattle.std.proofs.lemmas.List.{length-append, length-take, append-nil}
use Rattle.std.proofs.lemmas.List.Elements.{All-append}
use Rattle.std.proofs.lemmas.List.Splits.{slice_split_at, slice_split_none}
use Rattle.std.specs.Io.KnownBytes.{Consumes, IsAtEnd, prepend_known}
use Rattle.std.specs.List.{slice_split, onto_first}
use Rattle.streams.specs.Lines.{is_newline, without_empty_end, lines_of, IsLine, TakesFront}
use Rattle.streams.specs.inside.Lines.{TakesPiece}

-- ---- the lines of a text

-- where an element is put onto the first part, there is a first part
onto_first-some : (x : ℕ) (parts : List (List ℕ)) → (first : List ℕ) × (rest : List (List ℕ)) × (onto_first x parts ≡ first ∷ rest)
onto_first-some x [] = (x ∷ [], [], refl)
onto_first-some x (part ∷ parts) = (x ∷ part, parts, refl)

-- a text has at least one part
split-some : (text : List ℕ) → (first : List ℕ) × (rest : List (List ℕ)) × (slice_split is_newline text ≡ first ∷ rest)
split-some [] = ([], [], refl)
split-some (x ∷ xs) =
    elim (is_newline x) as (λ b. (first : List ℕ) × (rest : List (List ℕ)) × (cond b ([] ∷ slice_split is_newline xs) (onto_first x (slice_split is_newline xs)) ≡ first ∷ rest)) [
      | true ↦ ([], slice_split is_newline xs, refl)
      | false ↦ onto_first-some x (slice_split is_newline xs)
    ]

-- an empty text has no line
pub lines_of-nil : lines_of [] ≡ []
unfolding lines_of
lines_of-nil = refl

-- up to the first newline stands the first line
pub lines_of-newline : (text rest : List ℕ) → IsLine text → lines_of (text ++ 10 ∷ rest) ≡ text ∷ lines_of rest
unfolding lines_of
lines_of-newline text rest line =
    let some = split-some rest in
    let cut : slice_split is_newline (text ++ 10 ∷ rest) ≡ text ∷ slice_split is_newline rest = slice_split_at is_newline text 10 rest line refl in
    ap without_empty_end (cut ∙ ap (λ parts. text ∷ parts) some.2) ∙ ap (λ parts. text ∷ without_empty_end parts) (sym some.2)

-- a text with no newline is one line, where it is not empty
pub lines_of-last : (text : List ℕ) → IsLine text → 0 < length text → lines_of text ≡ text ∷ []
unfolding lines_of
lines_of-last text line some =
    let full : eqb (length text) 0 ≡ false = ne_eqb (length text) 0 (λ none. omega arith) in
    ap without_empty_end (slice_split_none is_newline text line) ∙ ap (λ b. cond b [] (text ∷ [])) full

-- ---- what is known of a source, from one piece to the next

-- a line was taken so far, of what was known at first, as `taken`, of which so many bytes are kept
-- at most
pub record IsTaken (most : ℕ) (first now : Option (List ℕ)) (line : List ℕ) (begun : Bool) (taken : List ℕ) : Type 0 where
  pub is_line : IsLine taken
  pub kept_is : line ≡ take most taken
  pub consumed : Consumes first now taken
  pub begun_is : begun ≡ ltb 0 (length taken)

-- a piece is read where nothing of an earlier one is left
pub filled : (old new : Option (List ℕ)) (rest piece : List ℕ) → rest ≡ [] → Consumes old new piece → Consumes (prepend_known rest old) (prepend_known piece new) []
filled None new rest piece none h = tt
filled (Some xs) None rest piece none h = absurd h
filled (Some xs) (Some ys) rest piece none h = ap (λ t. t ++ xs) none ∙ h

-- nothing is read
pub unread : (known : Option (List ℕ)) → Consumes known known []
unread known = Consumes-nil known

take-none : (n : ℕ) → take {A = ℕ} n [] ≡ []
take-none zero = refl
take-none (suc n) = refl

-- nothing is taken yet
pub nothing_yet : (most : ℕ) (known : Option (List ℕ)) (line : List ℕ) → line ≡ [] → IsTaken most known known line false []
nothing_yet most known line none = record {
  is_line = λ k d below. absurd (omega arith);
  kept_is = none ∙ sym (take-none most);
  consumed = unread known;
  begun_is = refl;
}

-- more of the source is read, and none of it taken
pub IsTaken-more : (most : ℕ) (first old new : Option (List ℕ)) (line : List ℕ) (begun : Bool) (taken : List ℕ) → Consumes old new [] → IsTaken most first old line begun taken → IsTaken most first new line begun taken
IsTaken-more most first old new line begun taken read so_far = record {
  is_line = so_far.is_line;
  kept_is = so_far.kept_is;
  consumed = subst (Consumes first new) (append-nil taken) (Consumes-trans _ _ _ _ _ so_far.consumed read);
  begun_is = so_far.begun_is;
}

-- the front of a front and more is the front of the whole and more
take-append-take : (n : ℕ) (xs ys : List ℕ) → take n (take n xs ++ ys) ≡ take n (xs ++ ys)
take-append-take zero xs ys = refl
take-append-take (suc n) [] ys = refl
take-append-take (suc n) (x ∷ xs) ys = ap (λ t. x ∷ t) (take-append-take n xs ys)

-- what is kept of a line and a piece is kept of both together
kept-append : (most : ℕ) (line taken piece : List ℕ) → line ≡ take most taken → take most (line ++ piece) ≡ take most (taken ++ piece)
kept-append most line taken piece e = ap (λ t. take most (t ++ piece)) e ∙ take-append-take most taken piece

-- a piece that stood in front was taken
passed : (rest : Option (List ℕ)) (piece : List ℕ) → Consumes (prepend_known piece rest) (prepend_known [] rest) piece
passed None piece = tt
passed (Some xs) piece = refl

-- a line of which a piece was taken has begun
grown : (taken piece : List ℕ) → 0 < length piece → ltb 0 (length (taken ++ piece)) ≡ true
grown taken piece some = lt-ltb 0 (length (taken ++ piece)) (omega (arith, length-append taken piece))

-- a piece of the line is taken, which does not end there
pub IsTaken-piece : (most : ℕ) (first rest : Option (List ℕ)) (old new piece line kept_line : List ℕ) (begun : Bool) (taken : List ℕ) → IsLine piece → kept_line ≡ take most (line ++ piece) → TakesPiece false old new piece → 0 < length old → IsTaken most first (prepend_known old rest) line begun taken → IsTaken most first (prepend_known new rest) kept_line true (taken ++ piece)
IsTaken-piece most first rest old new piece line kept_line begun taken is_line stored cut some so_far =
    let read : Consumes first (prepend_known piece rest) taken = subst (λ t. Consumes first (prepend_known t rest) taken) cut.0 so_far.consumed in
    let left : Consumes first (prepend_known [] rest) (taken ++ piece) = Consumes-trans _ _ _ _ _ read (passed rest piece) in
    record {
      is_line = All-append (λ b. is_newline b ≡ false) taken piece so_far.is_line is_line;
      kept_is = stored ∙ kept-append most line taken piece so_far.kept_is;
      consumed = subst (λ t. Consumes first (prepend_known t rest) (taken ++ piece)) (sym cut.1) left;
      begun_is = sym (grown taken piece (subst (λ t. 0 < length t) cut.0 some));
    }

-- what was taken up to the newline is the first line, and what stands behind it has the later ones
taken_whole : (most : ℕ) (first rest : Option (List ℕ)) (line taken piece new : List ℕ) → IsLine (taken ++ piece) → line ≡ take most (taken ++ piece) → Consumes first (prepend_known (piece ++ 10 ∷ new) rest) taken → TakesFront most first (prepend_known new rest) line
taken_whole most None rest line taken piece new is_line stored read = tt
taken_whole most (Some xs) None line taken piece new is_line stored read = absurd read
taken_whole most (Some xs) (Some ys) line taken piece new is_line stored read =
    let apart : xs ≡ (taken ++ piece) ++ 10 ∷ (new ++ ys) = read ∙ ap (λ t. taken ++ t) (append_assoc piece (10 ∷ new) ys) ∙ sym (append_assoc taken piece (10 ∷ (new ++ ys))) in
    (taken ++ piece, stored, ap lines_of apart ∙ lines_of-newline (taken ++ piece) (new ++ ys) is_line)

-- the rest of the line is taken, up to its newline
pub TakesFront-newline : (most : ℕ) (first rest : Option (List ℕ)) (old piece new line kept_line : List ℕ) (begun : Bool) (taken : List ℕ) → IsLine piece → kept_line ≡ take most (line ++ piece) → TakesPiece true old new piece → IsTaken most first (prepend_known old rest) line begun taken → TakesFront most first (prepend_known new rest) kept_line
TakesFront-newline most first rest old piece new line kept_line begun taken is_line stored cut so_far =
    taken_whole most first rest kept_line taken piece new (All-append (λ b. is_newline b ≡ false) taken piece so_far.is_line is_line) (stored ∙ kept-append most line taken piece so_far.kept_is) (subst (λ t. Consumes first (prepend_known t rest) taken) cut so_far.consumed)

-- all that was left is the last line
last_whole : (most : ℕ) (first rest : Option (List ℕ)) (line taken : List ℕ) → IsLine taken → line ≡ take most taken → 0 < length taken → IsAtEnd rest → Consumes first (prepend_known [] rest) taken → TakesFront most first (prepend_known [] rest) line
last_whole most None rest line taken is_line stored some ended read = tt
last_whole most (Some xs) None line taken is_line stored some ended read = absurd read
last_whole most (Some xs) (Some ys) line taken is_line stored some ended read =
    let all : xs ≡ taken = read ∙ ap (λ t. taken ++ t) ended ∙ append-nil taken in
    (taken, stored, ap lines_of all ∙ lines_of-last taken is_line some ∙ ap (λ parts. taken ∷ parts) (sym (ap lines_of ended ∙ lines_of-nil)))

-- the source ends behind a line that was begun
pub TakesFront-last : (most : ℕ) (first rest : Option (List ℕ)) (now line : List ℕ) (begun : Bool) (taken : List ℕ) → begun ≡ true → (now ≡ []) × IsAtEnd rest → IsTaken most first (prepend_known now rest) line begun taken → TakesFront most first (prepend_known now rest) line
TakesFront-last most first rest now line begun taken begins ended so_far =
    let some : 0 < length taken = ltb-true 0 (length taken) (sym so_far.begun_is ∙ begins) in
    let read : Consumes first (prepend_known [] rest) taken = subst (λ t. Consumes first (prepend_known t rest) taken) ended.0 so_far.consumed in
    let line_taken : TakesFront most first (prepend_known [] rest) line = last_whole most first rest line taken so_far.is_line so_far.kept_is some ended.1 read in
    subst (λ t. TakesFront most first (prepend_known t rest) line) (sym ended.0) line_taken

-- no line was begun where nothing was taken of one
pub nothing_taken : (most : ℕ) (first now : Option (List ℕ)) (line : List ℕ) (begun : Bool) (taken : List ℕ) → begun ≡ false → IsTaken most first now line begun taken → Consumes first now []
nothing_taken most first now line begun [] none so_far = so_far.consumed
nothing_taken most first now line begun (x ∷ xs) none so_far =
    let some : begun ≡ true = so_far.begun_is ∙ lt-ltb 0 (length (x ∷ xs)) (omega arith) in
    absurd (false≢true (sym none ∙ some))

-- behind a newline less is left
pub less_left : (taken left bytes most : ℕ) (old new piece : List ℕ) → TakesPiece true old new piece → taken + left ≤ most → bytes + length old ≤ left → bytes + length new < most
less_left taken left bytes most old new piece cut so_far read =
    omega (arith, ap length cut, length-append piece (10 ∷ new), so_far, read)

-- Nothing waits where what was left has no newline. So nothing waits behind a piece without a
-- newline: it is what was left, or nothing was.
pub told-still : (old more piece waits : List ℕ) → (IsLine old → waits ≡ []) → (0 < length old → more ≡ old) → IsLine piece → more ≡ piece → waits ≡ []
told-still [] more piece waits told same line cut = told (λ k d inside. absurd (omega arith))
told-still (x ∷ xs) more piece waits told same line cut = told (subst IsLine (sym cut ∙ same (omega arith)) line)

-- no more than so many bytes are kept
pub length-kept : (most : ℕ) (line taken : List ℕ) → line ≡ take most taken → length line ≤ most
length-kept most line taken e = omega (arith, ap length e, length-take most taken)
