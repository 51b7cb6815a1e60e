-- As much of a text as is told.
use Rattle.std.proofs.Common.{◌≡◌, ◌∙◌, ℕ, ◌≤◌, List, map, take, length, min, ⊎_elim, ap, sym, arith}
use Rattle.std.proofs.lemmas.Bool.{cases_lt}
use Rattle.std.proofs.lemmas.List.{take_all}
use Rattle.fault_line.specs.Excerpt.{excerpt_of, shown_byte}

-- its front, however long it is
front_is : (text : List ℕ) (m : ℕ) → m ≡ min (length text) 160 → take m text ≡ take 160 text
front_is text m is = ⊎_elim
    (λ short. let all : m ≡ length text = omega (arith, is, short) in
    ap (λ n. take n text) all ∙ take_all (length text) text (omega arith) ∙ sym (take_all 160 text (omega (arith, short))))
    (λ long. let most : m ≡ 160 = omega (arith, is, long) in ap (λ n. take n text) most)
    (cases_lt (length text) 160)

pub all_shown : (text : List ℕ) (m n : ℕ) → m ≡ min (length text) 160 → length (take m text) ≤ n → map shown_byte (take n (take m text)) ≡ excerpt_of text
unfolding excerpt_of
all_shown text m n is end = ap (map shown_byte) (take_all n (take m text) end ∙ front_is text m is)
