-- What stands at an index of a context's lists.
use Rattle.std.proofs.Common.{◌≡◌, ℕ, zero, suc, ◌+◌, ◌-◌, ◌<◌, ◌≤◌, List, [], ◌∷◌, ◌++◌, Option, Some, None, length, map, get_or, drop, replicate, reverse, refl, sym, ap, ◌∙◌, arith, add-one}
use Rattle.std.specs.Prelude.{slice_get, option_map}
use Rattle.std.specs.List.{AllByRecursion}
use Rattle.std.proofs.lemmas.List.{length-replicate, length-map, length-reverse, get_or-reverse}
use Rattle.std.proofs.lemmas.Option.{slice_get-map, slice_get-get_or}
use Rattle.std.proofs.Math.ListN.{get_or-replicate}
use Rattle.std.proofs.Math.Seq.{drop-cons}
use Rattle.wcode.specs.declared.value.ValueType.{ValueType}
use Rattle.wmodule.specs.declared.module.Import.{Import}
use Rattle.wmodule.specs.declared.module.ImportKind.{ImportKind}
use Rattle.wmodule.specs.declared.module.ImportKind.TheVariants as imported
use Rattle.wmodule.specs.declared.module.LocalRun.{LocalRun}
use Rattle.wmodule.specs.Syntax.{Signature, import_of, locals_of}
use Rattle.wbody.specs.declared.scope.Level.{Level}
use Rattle.wbody.specs.Context.{at_most_one, imported_function, imported_functions}
use Rattle.wbody.specs.Scope.{IsFunctionImport}
use Rattle.wbody.specs.inside.Scope.{carried_by, labels_of}

pub get_left : {A : Type 0} (xs ys : List A) (k : ℕ) → k < length xs → slice_get (xs ++ ys) k ≡ slice_get xs k
get_left [] ys k h = absurd (omega arith)
get_left (x ∷ xs) ys zero h = refl
get_left (x ∷ xs) ys (suc k) h = get_left xs ys k (omega arith)

pub get_right : {A : Type 0} (xs ys : List A) (k : ℕ) → length xs ≤ k → slice_get (xs ++ ys) k ≡ slice_get ys (k - length xs)
get_right [] ys k h = let e : k ≡ k - 0 = omega arith in ap (slice_get ys) e
get_right (x ∷ xs) ys zero h = absurd (omega arith)
get_right (x ∷ xs) ys (suc k) h =
    let e : k - length xs ≡ suc k - length (x ∷ xs) = omega arith in get_right xs ys k (omega arith) ∙ ap (slice_get ys) e

-- the label of an open block, so many outwards
pub label_found : (levels : List Level) (result : Option ValueType) (label : ℕ) (d : Level) (t : Option ValueType) → label < length levels → at_most_one t ≡ carried_by (get_or levels (length levels - 1 - label) d)
    → slice_get (labels_of levels result) label ≡ Some (at_most_one t)
label_found levels result label d t within is =
    let inside : label < length (reverse levels) = omega (arith, length-reverse levels) in
    let left : label < length (map carried_by (reverse levels)) = omega (arith, length-map (reverse levels) carried_by, length-reverse levels) in
    get_left (map carried_by (reverse levels)) (at_most_one result ∷ []) label left ∙ slice_get-map carried_by (reverse levels) label
    ∙ ap (option_map carried_by) (slice_get-get_or (reverse levels) label d inside ∙ ap Some (get_or-reverse levels label d within)) ∙ ap Some (sym is)

-- one of a run of locals
pub in_run : (n : ℕ) (t : ValueType) (more : List ValueType) (k : ℕ) → k < n → slice_get (replicate n t ++ more) k ≡ Some t
in_run n t more k h =
    let long : k < length (replicate n t) = omega (arith, length-replicate n t) in
    get_left (replicate n t) more k long ∙ slice_get-get_or (replicate n t) k t long ∙ ap Some (get_or-replicate n k t t h)

-- one behind a run
pub past_run : (n : ℕ) (t : ValueType) (more : List ValueType) (k : ℕ) → n ≤ k → slice_get (replicate n t ++ more) k ≡ slice_get more (k - n)
past_run n t more k h =
    get_right (replicate n t) more k (omega (arith, length-replicate n t)) ∙ ap (λ m. slice_get more (k - m)) (length-replicate n t)

-- the type of what is imported, if it is a function
abbrev pub imported_type : List Signature → ImportKind → Option Signature
imported_type types (imported.Function t) = slice_get types t
imported_type types (imported.Table l) = None
imported_type types (imported.Memory l) = None
imported_type types (imported.Global t) = None

imports_are : (types : List Signature) (is : List Import) → AllByRecursion (λ (i : Import). IsFunctionImport i.kind) is → imported_functions types (map import_of is) ≡ map (λ (i : Import). imported_type types i.kind) is
imports_are types [] all = refl
imports_are types (i ∷ is) all = one i.kind (imported_functions types (map import_of is)) all.0 ∙ ap (λ l. imported_type types i.kind ∷ l) (imports_are types is all.1)
  where
    one : (kind : ImportKind) (others : List (Option Signature)) → IsFunctionImport kind → imported_function types kind others ≡ imported_type types kind ∷ others
    one (imported.Function t) others h = refl
    one (imported.Table l) others h = absurd h
    one (imported.Memory l) others h = absurd h
    one (imported.Global t) others h = absurd h

-- the type of an imported function
pub imported_at : (types : List Signature) (is : List Import) (others : List (Option Signature)) (k : ℕ) (i : Import) → AllByRecursion (λ (i : Import). IsFunctionImport i.kind) is → k < length is → i ≡ get_or is k i → slice_get (imported_functions types (map import_of is) ++ others) k ≡ Some (imported_type types i.kind)
imported_at types is others k i all h e =
    let are = imports_are types is all in
    let f : Import → Option Signature = λ (i : Import). imported_type types i.kind in
    ap (λ l. slice_get (l ++ others) k) are
    ∙ get_left (map f is) others k (omega (arith, length-map is f))
    ∙ slice_get-map f is k
    ∙ ap (option_map f) (slice_get-get_or is k i h ∙ ap Some (sym e))

-- the type of a function of the module itself
pub own_at : (types : List Signature) (is : List Import) (others : List (Option Signature)) (k : ℕ) → AllByRecursion (λ (i : Import). IsFunctionImport i.kind) is → length is ≤ k → slice_get (imported_functions types (map import_of is) ++ others) k ≡ slice_get others (k - length is)
own_at types is others k all h =
    let are = imports_are types is all in
    let f : Import → Option Signature = λ (i : Import). imported_type types i.kind in
    ap (λ l. slice_get (l ++ others) k) are
    ∙ get_right (map f is) others k (omega (arith, length-map is f))
    ∙ ap (λ n. slice_get others (k - n)) (length-map is f)
