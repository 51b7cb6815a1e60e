-- The types of the functions of a module, where two functions alone can be imported.
use Rattle.std.proofs.Common.{◌≡◌, ℕ, zero, suc, ◌+◌, ◌-◌, ◌<◌, ◌≤◌, List, [], ◌∷◌, ◌++◌, Option, Some, None, length, map, get_or, refl, sym, ap, ◌∙◌, arith}
use Rattle.std.specs.Prelude.{slice_get, option_map, is_some, IfSome, nat_lt}
use Rattle.std.specs.Option.{option_copied}
use Rattle.std.specs.Borrow.{Bor}
use Rattle.std.proofs.lemmas.Bool.Decides.{nat_tests}
use Rattle.wtype.proofs.Each.{at_place}
use Rattle.std.specs.List.{AllByRecursion}
use Rattle.std.proofs.lemmas.List.{length-map}
use Rattle.std.proofs.lemmas.Option.{slice_get-map, slice_get-get_or, slice_get_past}
use Rattle.wmodule.specs.declared.module.Import.{Import}
use Rattle.wmodule.specs.declared.module.ImportKind.{ImportKind}
use Rattle.wmodule.specs.declared.module.ImportKind.TheVariants as imported
use Rattle.wmodule.specs.Syntax.{Signature, FunctionSyntax, Code, ImportSyntax, ModuleSyntax, ModuleParts, module_of, functions_with, import_of, code_in}
use Rattle.wbody.specs.Context.{imported_function, imported_functions, function_types}
use Rattle.wtype.specs.Accepted.{ImportAllowed, ImportsRight, IsImportOf, host_type}

get_left : {A : Type 0} (xs ys : List A) (k : ℕ) → k < length xs → slice_get (xs ++ ys) k ≡ slice_get xs k
get_left [] ys k h = absurd (omega arith)
get_left (x ∷ xs) ys zero h = refl
get_left (x ∷ xs) ys (suc k) h = get_left xs ys k (omega arith)

get_right : {A : Type 0} (xs ys : List A) (k : ℕ) → length xs ≤ k → slice_get (xs ++ ys) k ≡ slice_get ys (k - length xs)
get_right [] ys k h = let e : k ≡ k - 0 = omega arith in ap (slice_get ys) e
get_right (x ∷ xs) ys zero h = absurd (omega arith)
get_right (x ∷ xs) ys (suc k) h =
    let e : k - length xs ≡ suc k - length (x ∷ xs) = omega arith in get_right xs ys k (omega arith) ∙ ap (slice_get ys) e

-- the type of what is imported, if it is a function
abbrev pub imported_type : List Signature → ImportKind → Option Signature
imported_type types (imported.Function t) = slice_get types t
imported_type types (imported.Table l) = None
imported_type types (imported.Memory l) = None
imported_type types (imported.Global t) = None

one_import : (m : ModuleSyntax) (s : Signature) (kind : ImportKind) (others : List (Option Signature)) → IsImportOf m s kind → imported_function m.types kind others ≡ imported_type m.types kind ∷ others
one_import m s (imported.Function t) others h = refl
one_import m s (imported.Table l) others h = absurd h
one_import m s (imported.Memory l) others h = absurd h
one_import m s (imported.Global t) others h = absurd h

imports_are : (m : ModuleSyntax) (is : List ImportSyntax) → AllByRecursion (ImportAllowed m) is → imported_functions m.types is ≡ map (λ (i : ImportSyntax). imported_type m.types i.kind) is
imports_are m [] all = refl
imports_are m (i ∷ is) all = one_import m host_type i.kind (imported_functions m.types is) all.0.typed ∙ ap (λ l. imported_type m.types i.kind ∷ l) (imports_are m is all.1)

-- the types of functions are those of their signatures
own_are : (types : List Signature) (signatures : List ℕ) (codes : List Code) → length signatures ≡ length codes → map (λ (f : FunctionSyntax). slice_get types f.signature) (functions_with signatures codes) ≡ map (slice_get types) signatures
own_are types [] [] e = refl
own_are types [] (c ∷ cs) e = refl
own_are types (s ∷ ss) [] e = absurd (omega (arith, e))
own_are types (s ∷ ss) (c ∷ cs) e = ap (λ l. slice_get types s ∷ l) (own_are types ss cs (omega (arith, e)))

-- all of them
pub types_are : (p : ModuleParts) → ImportsRight (module_of p) → length p.tables.signatures.items ≡ length p.tables.codes.items → function_types (module_of p) ≡ map (λ (i : ImportSyntax). imported_type (module_of p).types i.kind) (map import_of p.tables.imports.items) ++ map (slice_get (module_of p).types) p.tables.signatures.items
types_are p all many =
    let m = module_of p in
    let codes : List Code = map (code_in p.bytes) p.tables.codes.items in
    let same : length p.tables.signatures.items ≡ length codes = many ∙ sym (length-map p.tables.codes.items (code_in p.bytes)) in
    ap (λ l. l ++ map (λ (f : FunctionSyntax). slice_get m.types f.signature) m.functions) (imports_are m m.imports all)
    ∙ ap (λ l. map (λ (i : ImportSyntax). imported_type m.types i.kind) m.imports ++ l) (own_are m.types p.tables.signatures.items codes same)

lengths : {A : Type 0} (xs ys : List A) → length (xs ++ ys) ≡ length xs + length ys
lengths [] ys = omega arith
lengths (x ∷ xs) ys = let e = lengths xs ys in omega arith

-- how many there are
pub types_length : (p : ModuleParts) → ImportsRight (module_of p) → length p.tables.signatures.items ≡ length p.tables.codes.items → length (function_types (module_of p)) ≡ length p.tables.imports.items + length p.tables.signatures.items
types_length p all many =
    let m = module_of p in
    let f : ImportSyntax → Option Signature = λ i. imported_type m.types i.kind in
    let is = map import_of p.tables.imports.items in
    ap length (types_are p all many)
    ∙ lengths (map f is) (map (slice_get m.types) p.tables.signatures.items)
    ∙ ap (λ n. n + length (map (slice_get m.types) p.tables.signatures.items)) (length-map is f ∙ length-map p.tables.imports.items import_of)
    ∙ ap (λ n. length p.tables.imports.items + n) (length-map p.tables.signatures.items (slice_get m.types))

-- the type of an imported function
pub imported_at : (p : ModuleParts) (k : ℕ) (i : Import) → ImportsRight (module_of p) → length p.tables.signatures.items ≡ length p.tables.codes.items → k < length p.tables.imports.items → i ≡ get_or p.tables.imports.items k i → slice_get (function_types (module_of p)) k ≡ Some (imported_type (module_of p).types i.kind)
imported_at p k i all many within is =
    let m = module_of p in
    let f : ImportSyntax → Option Signature = λ j. imported_type m.types j.kind in
    let js = map import_of p.tables.imports.items in
    let long : k < length (map f js) = omega (arith, length-map js f, length-map p.tables.imports.items import_of) in
    ap (λ l. slice_get l k) (types_are p all many)
    ∙ get_left (map f js) (map (slice_get m.types) p.tables.signatures.items) k long
    ∙ slice_get-map f js k
    ∙ ap (option_map f) (slice_get-map import_of p.tables.imports.items k ∙ ap (option_map import_of) (slice_get-get_or p.tables.imports.items k i within ∙ ap Some (sym is)))

-- the type of a function of the module itself
pub own_at : (p : ModuleParts) (k : ℕ) → ImportsRight (module_of p) → length p.tables.signatures.items ≡ length p.tables.codes.items → length p.tables.imports.items ≤ k → slice_get (function_types (module_of p)) k ≡ option_map (slice_get (module_of p).types) (slice_get p.tables.signatures.items (k - length p.tables.imports.items))
own_at p k all many past =
    let m = module_of p in
    let f : ImportSyntax → Option Signature = λ j. imported_type m.types j.kind in
    let js = map import_of p.tables.imports.items in
    let count : length (map f js) ≡ length p.tables.imports.items = length-map js f ∙ length-map p.tables.imports.items import_of in
    let long : length (map f js) ≤ k = omega arith in
    ap (λ l. slice_get l k) (types_are p all many)
    ∙ get_right (map f js) (map (slice_get m.types) p.tables.signatures.items) k long
    ∙ slice_get-map (slice_get m.types) p.tables.signatures.items (k - length (map f js))
    ∙ ap (λ n. option_map (slice_get m.types) (slice_get p.tables.signatures.items (k - n))) count

not_function : (m : ModuleSyntax) (s : Signature) (kind : ImportKind) → ((t : ℕ) → kind ≡ imported.Function t → ⊥) → IsImportOf m s kind → ⊥
not_function m s (imported.Function t) other h = other t refl
not_function m s (imported.Table l) other h = h
not_function m s (imported.Memory l) other h = h
not_function m s (imported.Global t) other h = h

-- a function is imported, and nothing else
pub only_functions : (p : ModuleParts) (k : ℕ) (i : Import) → ImportsRight (module_of p) → k < length p.tables.imports.items → i ≡ get_or p.tables.imports.items k i → ((t : ℕ) → i.kind ≡ imported.Function t → ⊥) → ⊥
only_functions p k i all within is other =
    let m = module_of p in
    let here : slice_get m.imports k ≡ Some (import_of i) = slice_get-map import_of p.tables.imports.items k ∙ ap (option_map import_of) (slice_get-get_or p.tables.imports.items k i within ∙ ap Some (sym is)) in
    let allowed : ImportAllowed m (import_of i) = at_place (ImportAllowed m) m.imports k (import_of i) here all in
    not_function m host_type i.kind other allowed.typed

-- what `get` gives of numbers
pub copied_is : (xs : List ℕ) (k : ℕ) (o : Option (Bor ℕ)) → is_some o ≡ nat_lt k (length xs) → IfSome o (λ (x : Bor ℕ). x.now ≡ get_or xs k x.now) → option_copied o ≡ slice_get xs k
copied_is xs k None a b =
    let past : length xs ≤ k = grind (arith, nat_tests) in sym (slice_get_past xs k past)
copied_is xs k (Some x) a b =
    let within : k < length xs = grind (arith, nat_tests) in ap Some b ∙ sym (slice_get-get_or xs k x.now within)
