-- How far names go that have so many quotation marks.
use Rattle.std.proofs.Common.{◌≡◌, ℕ, zero, suc, ◌+◌, ◌-◌, ◌<◌, ◌==◌, cond, List, [], ◌∷◌, ◌++◌, take, drop, length, get_or, ap, arith}
use Rattle.objects.specs.LeftOut.{up_to_marks}

-- one byte further
pub further : (marks at : ℕ) (names : List ℕ) → 0 < marks → at < length names
    → take at names ++ up_to_marks marks (drop at names) ≡ take (at + 1) names ++ up_to_marks (cond (get_or names at 0 == 34) (marks - 1) marks) (drop (at + 1) names)
further zero at names some lt = absurd (omega (arith, some))
further (suc m) at [] some lt = absurd (omega (arith, lt))
further (suc m) zero (x ∷ xs) some lt =
    let less : m ≡ suc m - 1 = omega arith in ap (λ k. x ∷ up_to_marks (cond (x == 34) k (suc m)) xs) less
further (suc m) (suc at) (x ∷ xs) some lt =
    let next : suc at + 1 ≡ suc (at + 1) = omega arith in rw next (ap (λ t. x ∷ t) (further (suc m) at xs some (omega (arith, lt))))
