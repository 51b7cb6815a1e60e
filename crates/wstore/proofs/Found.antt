-- What is seen of an element that was found in a list.
use Rattle.std.proofs.Common.{◌≡◌, ◌<◌, ◌∙◌, Some, ℕ, List, length, get_or, map, sym, ap, arith}
use Rattle.std.specs.Prelude.{slice_get, option_map}
use Rattle.std.proofs.lemmas.List.{length-map}
use Rattle.std.proofs.lemmas.Option.{slice_get-map, slice_get-get_or}

-- it is what is seen at its place
pub seen_at : {A B : Type 0} (f : A → B) (xs : List A) (k : ℕ) (x : A) (s : B) → k < length (map f xs) → x ≡ get_or xs k x → slice_get (map f xs) k ≡ Some s → f x ≡ s
seen_at f xs k x s within is there =
    let inside : k < length xs = omega (arith, length-map xs f) in
    let here : slice_get (map f xs) k ≡ Some (f x) = slice_get-map f xs k ∙ ap (option_map f) (slice_get-get_or xs k x inside ∙ ap Some (sym is)) in
    cc
