-- What was found of a module's tables is what its rules say.
use Rattle.std.proofs.Common.{◌≡◌, ℕ, zero, suc, ◌<◌, List, [], ◌∷◌, Bool, true, false, Some, length, map, refl, sym, ap, ◌∙◌, subst, arith}
use Rattle.std.specs.Prelude.{IsSome, slice_get}
use Rattle.std.specs.Bool.{MatchBool}
use Rattle.std.specs.List.{AllByRecursion}
use Rattle.wmodule.specs.Syntax.{Signature, FunctionSyntax, Code, function_with, functions_with}
use Rattle.wtype.proofs.Each.{all_mapped, all_unmapped}

-- a test of one fact is one of another that says the same
pub same_test : {P Q : Type 0} (b : Bool) → MatchBool b P (P → ⊥) → (P → Q) → (Q → P) → MatchBool b Q (Q → ⊥)
same_test true h f g = f h
same_test false h f g = λ q. h (g q)

-- of what they are seen as
pub mapped_test : {A B : Type 0} (P : B → Type 0) (f : A → B) (xs ys : List A) (b : Bool) → ys ≡ xs → MatchBool b (AllByRecursion (λ x. P (f x)) ys) (AllByRecursion (λ x. P (f x)) ys → ⊥) → MatchBool b (AllByRecursion P (map f xs)) (AllByRecursion P (map f xs) → ⊥)
mapped_test P f xs ys b e h =
    same_test b h (λ all. subst (λ l. AllByRecursion P (map f l)) e (all_mapped P f ys all)) (λ all. all_unmapped P f ys (subst (λ l. AllByRecursion P (map f l)) (sym e) all))

some_within : {A : Type 0} (xs : List A) (k : ℕ) → k < length xs → IsSome (slice_get xs k)
some_within [] k h = absurd (omega arith)
some_within (x ∷ xs) zero h = refl
some_within (x ∷ xs) (suc k) h = some_within xs k (omega arith)

within_some : {A : Type 0} (xs : List A) (k : ℕ) → IsSome (slice_get xs k) → k < length xs
within_some [] k h = absurd (cc)
within_some (x ∷ xs) zero h = omega arith
within_some (x ∷ xs) (suc k) h = let e = within_some xs k h in omega arith

-- the types of functions are there where their indices are
pub types_found : (types : List Signature) (ss : List ℕ) (cs : List Code) → AllByRecursion (λ s. s < length types) ss → AllByRecursion (λ (f : FunctionSyntax). IsSome (slice_get types f.signature)) (functions_with ss cs)
types_found types [] [] all = tt
types_found types [] (c ∷ cs) all = tt
types_found types (s ∷ ss) [] all = tt
types_found types (s ∷ ss) (c ∷ cs) all = (some_within types s all.0, types_found types ss cs all.1)

pub types_within : (types : List Signature) (ss : List ℕ) (cs : List Code) → length ss ≡ length cs → AllByRecursion (λ (f : FunctionSyntax). IsSome (slice_get types f.signature)) (functions_with ss cs) → AllByRecursion (λ s. s < length types) ss
types_within types [] [] e all = tt
types_within types [] (c ∷ cs) e all = tt
types_within types (s ∷ ss) [] e all = absurd (omega (arith, e))
types_within types (s ∷ ss) (c ∷ cs) e all = (within_some types s all.0, types_within types ss cs (omega (arith, e)) all.1)

-- the function at a place
pub function_at : (ss : List ℕ) (cs : List Code) (k s : ℕ) (c : Code) → slice_get ss k ≡ Some s → slice_get cs k ≡ Some c → slice_get (functions_with ss cs) k ≡ Some (function_with s c)
function_at [] cs k s c a b = absurd (cc)
function_at (x ∷ ss) [] k s c a b = absurd (cc)
function_at (x ∷ ss) (y ∷ cs) zero s c a b =
    let first : x ≡ s = cc in
    let second : y ≡ c = cc in
    ap (λ z. Some (function_with z y)) first ∙ ap (λ z. Some (function_with s z)) second
function_at (x ∷ ss) (y ∷ cs) (suc k) s c a b = function_at ss cs k s c a b

-- how many functions there are
pub functions_length : (ss : List ℕ) (cs : List Code) → length ss ≡ length cs → length (functions_with ss cs) ≡ length cs
functions_length [] [] e = refl
functions_length [] (c ∷ cs) e = absurd (omega (arith, e))
functions_length (s ∷ ss) [] e = refl
functions_length (s ∷ ss) (c ∷ cs) e = let more = functions_length ss cs (omega (arith, e)) in omega arith

pub on_true : {P : Type 0} (Q : Type 0) (b : Bool) → b ≡ true → MatchBool b P Q → P
on_true Q true e h = h
on_true Q false e h = absurd (cc)

pub on_false : {Q : Type 0} (P : Type 0) (b : Bool) → b ≡ false → MatchBool b P Q → Q
on_false P true e h = absurd (cc)
on_false P false e h = h
