-- Lists of open blocks, the innermost last, and what is kept of results.
use Rattle.std.proofs.Common.{◌≡◌, List, [], ◌∷◌, ◌++◌, ◌-◌, ◌<◌, None, length, Result, Ok, Err, IfOk, OnOk, Bool, false, is_err, reverse, refl, sym, ap, ◌∙◌, arith}
use Rattle.std.specs.Prelude.{slice_get}
use Rattle.std.proofs.lemmas.Option.{slice_get-get_or}
use Rattle.std.proofs.lemmas.List.{reverse-append}
use Rattle.wbody.specs.declared.stop.Stop.{Stop}
use Rattle.wbody.specs.declared.stop.Stop.TheVariants as stops

pub reverse-last : {A : Type 0} (xs : List A) (x : A) → reverse (xs ++ x ∷ []) ≡ x ∷ reverse xs
reverse-last xs x = reverse-append xs (x ∷ [])

pub on_ok : {T E P Q : Type 0} (r : Result T E) → OnOk r P → (P → Q) → OnOk r Q
on_ok (Ok v) p f = f p
on_ok (Err e) p f = tt

pub on_ok_3 : {T E P Q R S : Type 0} (r : Result T E) → OnOk r P → OnOk r Q → OnOk r R → (P → Q → R → S) → OnOk r S
on_ok_3 (Ok v) p q x f = f p q x
on_ok_3 (Err e) p q x f = tt

pub on_ok_4 : {T E P Q R S U : Type 0} (r : Result T E) → OnOk r P → OnOk r Q → OnOk r R → OnOk r S → (P → Q → R → S → U) → OnOk r U
on_ok_4 (Ok v) p q x y f = f p q x y
on_ok_4 (Err e) p q x y f = tt

pub when_ok : {T E P : Type 0} (r : Result T E) (failed : Bool) → failed ≡ is_err r → failed ≡ false → OnOk r P → P
when_ok (Ok v) failed is e p = p
when_ok (Err x) failed is e p = absurd (cc)

pub not_err : {T E : Type 0} (v : T) (x : E) → Ok v ≡ Err x → ⊥
not_err v x e = cc

pub if_ok : {T E : Type 0} {P Q : T → Type 0} (r : Result T E) → IfOk r P → ((v : T) → P v → Q v) → IfOk r Q
if_ok (Ok v) p f = f v p
if_ok (Err e) p f = tt

pub if_ok_2 : {T E : Type 0} {P Q R : T → Type 0} (r : Result T E) → IfOk r P → IfOk r Q → ((v : T) → P v → Q v → R v) → IfOk r R
if_ok_2 (Ok v) p q f = f v p q
if_ok_2 (Err e) p q f = tt

pub empty_of : {A : Type 0} (xs : List A) → slice_get xs (length xs - 1) ≡ None → xs ≡ []
empty_of [] e = refl
empty_of (x ∷ xs) e =
    let within : length (x ∷ xs) - 1 < length (x ∷ xs) = omega arith in
    let there = slice_get-get_or (x ∷ xs) (length (x ∷ xs) - 1) x within in absurd (cc (there, e))

-- where memory ran out, nothing is said to have no typing
pub not_untyped : {T : Type 0} → ◌≡◌ {A = Result T Stop} (Err stops.NoMemory) (Err stops.Untyped) → ⊥
not_untyped e = cc

-- a fault that is given on as it is
pub kept_untyped : {T U : Type 0} (r : Result T Stop) (x : Stop) → r ≡ Err x → ◌≡◌ {A = Result U Stop} (Err x) (Err stops.Untyped) → r ≡ Err stops.Untyped
kept_untyped r x was e = let same : x ≡ stops.Untyped = cc in was ∙ ap (λ y. Err y) same
