-- What is told of a line beside its answer, piece by piece.
use Rattle.std.proofs.Common.{◌≡◌, ℕ, true, false, ◌==◌, List, [], ◌∷◌, ◌++◌, length, codes, decimal, append_assoc, ap, sym}
use Rattle.streams.specs.TextBuilder.{Holds, Adds}
use Rattle.streams.specs.declared.text_builder.TextBuilder.{TextBuilder}
use Rattle.translator.specs.Translate.{in_parentheses, left_out_words, left_out_line}

pub left_out_told : (number : ℕ) (object gives left_out : List ℕ) (a b c d e : TextBuilder) → false ≡ (length left_out == 0) → Holds a []
    → Adds a b (codes "line " ++ decimal number) → Adds b c (in_parentheses object) → Adds c d (left_out_words gives ++ left_out)
    → Adds d e (codes "\n") → e.is_whole ≡ true → e.bytes.items ≡ left_out_line number object gives left_out
left_out_told number object gives [] a b c d e some begun counted named told ended whole = absurd (cc)
left_out_told number object gives (x ∷ more) a b c d e some begun counted named told ended whole =
    let last = ended whole in
    let words = told last.0 in
    let name = named words.0 in
    let front = counted name.0 in
    rw (last.1, words.1, name.1, front.1, begun.1)
    (ap (λ t. t ++ codes "\n") (sym (append_assoc (codes "line " ++ decimal number ++ in_parentheses object) (left_out_words gives) (x ∷ more))))
