-- Zeros on top.
use Rattle.std.proofs.Common.{◌≡◌, ℕ, ◌+◌, ◌<◌, List, [], ◌∷◌, ◌++◌, length, take, replicate, ap, ◌∙◌, arith, append_assoc}
use Rattle.std.specs.Prelude.{slice_set}
use Rattle.std.proofs.lemmas.List.{replicate-append-replicate, take_more_set}
use Rattle.wmach.proofs.Arms.{length_set}

-- one more
pub record More (first : List ℕ) (top i : ℕ) (slots : List ℕ) : Type 0 where
  pub zeros : take (top + (i + 1)) slots ≡ take top first ++ replicate (i + 1) 0
  pub long : length slots ≡ length first

pub one_more : (first : List ℕ) (top i : ℕ) (slots : List ℕ) → take (top + i) slots ≡ take top first ++ replicate i 0 → length slots ≡ length first → top + i < length slots → More first top i (slice_set slots (top + i) 0)
one_more first top i slots zeros long less = record {
  zeros = ap (λ n. take n (slice_set slots (top + i) 0)) (let e : top + (i + 1) ≡ top + i + 1 = omega arith in e) ∙ take_more_set slots (top + i) 0 less ∙ ap (λ l. l ++ 0 ∷ []) zeros ∙ append_assoc (take top first) (replicate i 0) (0 ∷ []) ∙ ap (λ l. take top first ++ l) (replicate-append-replicate i 1 0);
  long = length_set slots (top + i) 0 ∙ long;
}
