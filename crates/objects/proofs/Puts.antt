-- Steps that put names, for which memory may have lacked.
use Rattle.std.proofs.Common.{◌≡◌, ℕ, Bool, true, List, ◌++◌, ap, ◌∙◌, append_assoc}

-- what holds behind a step is used
pub so : {a b : Bool} {P Q : Type 0} → (b ≡ true → (a ≡ true) × P) → (P → Q) → b ≡ true → (a ≡ true) × Q
so f h w = let q = f w in (q.0, h q.1)

-- what holds behind two steps
pub both : {a b c : Bool} {P Q : Type 0} → (b ≡ true → (a ≡ true) × P) → (c ≡ true → (b ≡ true) × Q) → c ≡ true → (a ≡ true) × (P × Q)
both f g w =
    let q = g w in
    let p = f q.0 in (p.0, (p.1, q.1))

-- one step behind another
pub step : {a b c : Bool} {P Q R : Type 0} → (b ≡ true → (a ≡ true) × P) → (c ≡ true → (b ≡ true) × Q) → (P → Q → R)
    → c ≡ true → (a ≡ true) × R
step f g h w =
    let q = g w in
    let p = f q.0 in (p.0, h p.1 q.1)

-- a text behind another
pub behind : {a b c : Bool} {y z : List ℕ} (x s t : List ℕ) → (b ≡ true → (a ≡ true) × (y ≡ x ++ s)) → (c ≡ true → (b ≡ true) × (z ≡ y ++ t))
    → c ≡ true → (a ≡ true) × (z ≡ x ++ (s ++ t))
behind x s t f g = step f g (λ p q. q ∙ ap (λ l. l ++ t) p ∙ append_assoc x s t)
