-- What it means that no test refuses a step.
use Rattle.std.proofs.Common.{◌≡◌, Bool, true, false, not, ◌||◌, List, ◌∷◌, None, refl}
use Rattle.book.specs.declared.refusal.Refusal.{Refusal}
use Rattle.book.specs.Step.{first_of}

-- where no test refuses, none of the first three stands
pub first_three : (a b c : Bool) (x y z : Refusal) (tests : List (Bool × Refusal)) → first_of ((a, x) ∷ (b, y) ∷ (c, z) ∷ tests) ≡ None → (a ≡ false) × (b ≡ false) × (c ≡ false)
first_three true b c x y z tests h = absurd (cc)
first_three false true c x y z tests h = absurd (cc)
first_three false false true x y z tests h = absurd (cc)
first_three false false false x y z tests h = (refl, refl, refl)

pub or_false : (a b : Bool) → (a || b) ≡ false → (a ≡ false) × (b ≡ false)
or_false true b h = absurd (cc)
or_false false b h = (refl, h)

pub not_false : (b : Bool) → not b ≡ false → b ≡ true
not_false true h = refl
not_false false h = absurd (cc)

-- nor any of the first five
pub first_five : (a b c d e : Bool) (x y z v w : Refusal) (tests : List (Bool × Refusal)) → first_of ((a, x) ∷ (b, y) ∷ (c, z) ∷ (d, v) ∷ (e, w) ∷ tests) ≡ None → (c ≡ false) × (d ≡ false) × (e ≡ false)
first_five true b c d e x y z v w tests h = absurd (cc)
first_five false true c d e x y z v w tests h = absurd (cc)
first_five false false c d e x y z v w tests h = first_three c d e z v w tests h
