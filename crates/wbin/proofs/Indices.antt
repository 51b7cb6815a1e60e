-- The function at an index.
use Rattle.std.proofs.Common.{◌≡◌, ℕ, zero, suc, List, [], ◌∷◌, map, Some, ap, ◌∙◌}
use Rattle.std.specs.Prelude.{option_map}
use Rattle.std.specs.List.{slice_get, zip}
use Rattle.std.proofs.lemmas.Option.{slice_get-map}
use Rattle.wmodule.specs.declared.module.FunctionCode.{FunctionCode}
use Rattle.wmodule.specs.declared.module.Tables.{Tables}
use Rattle.wmodule.specs.Syntax.{Code, FunctionSyntax, function_with, code_in, syntax_in}

zip_at : {A B : Type 0} (xs : List A) (ys : List B) (i : ℕ) (x : A) (y : B) → slice_get xs i ≡ Some x → slice_get ys i ≡ Some y → slice_get (zip xs ys) i ≡ Some (x, y)
zip_at [] ys i x y h k = cc h
zip_at (a ∷ xs) [] i x y h k = cc k
zip_at {A} {B} (a ∷ xs) (b ∷ ys) zero x y h k =
    let e : a ≡ x = cc h in
    let f : b ≡ y = cc k in
    ap (λ (z : A). Some (z, b)) e ∙ ap (λ (z : B). Some (x, z)) f
zip_at (a ∷ xs) (b ∷ ys) (suc i) x y h k = zip_at xs ys i x y h k

pub function_is : (bytes : List ℕ) (t : Tables) (i signature : ℕ) (code : FunctionCode) → slice_get t.signatures.items i ≡ Some signature → slice_get t.codes.items i ≡ Some code
    → slice_get (syntax_in bytes t).functions i ≡ Some (function_with signature (code_in bytes code))
function_is bytes t i signature code h k =
    let f : ℕ × Code → FunctionSyntax = (λ p. function_with p.0 p.1) in
    let c = slice_get-map (code_in bytes) t.codes.items i ∙ ap (option_map (code_in bytes)) k in
    slice_get-map f (zip t.signatures.items (map (code_in bytes) t.codes.items)) i
    ∙ ap (option_map f) (zip_at t.signatures.items (map (code_in bytes) t.codes.items) i signature (code_in bytes code) h c)
