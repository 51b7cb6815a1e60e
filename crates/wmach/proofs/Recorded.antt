-- The records that a module's imported functions hand over.
use Rattle.std.proofs.Common.{◌≡◌, ℕ, ◌+◌, List, [], ◌∷◌, ◌++◌, Option, Some, None, length, refl, sym, ap, ◌∙◌, subst, arith}
use Rattle.std.specs.Prelude.{slice_get, map, option_map, IsSome}
use Rattle.std.specs.List.{AllByRecursion}
use Rattle.std.proofs.lemmas.List.{length-map, length-append}
use Rattle.std.proofs.lemmas.Option.{slice_get-map}
use Rattle.wmodule.specs.declared.module.Import.{Import}
use Rattle.wmodule.specs.declared.module.ImportKind.{ImportKind}
use Rattle.wmodule.specs.declared.module.ImportKind.TheVariants as imported
use Rattle.wmodule.specs.Syntax.{ImportSyntax, ModuleSyntax, ModuleParts, module_of, import_of}
use Rattle.wtype.specs.Accepted.{ImportName, host_number, host_type, IsImportOf, ImportAllowed, ImportsRight}
use Rattle.wtype.proofs.Sized.{with_last}
use Rattle.wmach.specs.inside.Coded.{RecordsAgree}
use Rattle.wmach.specs.Host.{imported_name, imported_names}
use Rattle.wmach.proofs.Values.{all_at}
use Rattle.wmach.proofs.Arms.{some_same}

-- an imported function's name is among the others
name_first : (m : ModuleSyntax) (name : ImportName) (kind : ImportKind) (others : List ImportName) → IsImportOf m host_type kind → imported_name name kind others ≡ name ∷ others
name_first m name (imported.Function t) others h = refl
name_first m name (imported.Table l) others h = absurd h
name_first m name (imported.Memory l) others h = absurd h
name_first m name (imported.Global t) others h = absurd h

-- what a function is imported by
abbrev name_of : ImportSyntax → ImportName
name_of i = (i.module_name, i.name)

-- the same, as it is decoded
abbrev pub name_in : Import → ImportName
name_in i = (i.module.items, i.name.items)

-- by its two parts
pub names_in : (i : Import) (module_name name : List ℕ) → module_name ≡ i.module.items → name ≡ i.name.items → name_in i ≡ (module_name, name)
names_in i module_name name first second = λ j. (sym first j, sym second j)

names_are : (m : ModuleSyntax) (is : List ImportSyntax) → AllByRecursion (ImportAllowed m) is → imported_names is ≡ map name_of is
names_are m [] h = refl
names_are m (i ∷ is) h = name_first m (name_of i) i.kind (imported_names is) h.0.typed ∙ ap (λ l. name_of i ∷ l) (names_are m is h.1)

-- what is there isn't lacking
not_lacking : (o : Option ℕ) → IsSome o → o ≡ None → ⊥
not_lacking None some none = absurd (cc)
not_lacking (Some n) some none = absurd (cc)

pub has_record : (p : ModuleParts) → ImportsRight (module_of p) → (k : ℕ) (i : Import) → slice_get p.tables.imports.items k ≡ Some i → host_number (name_in i) ≡ None → ⊥
has_record p right k i is none =
    let there = slice_get-map import_of p.tables.imports.items k ∙ ap (option_map import_of) is in
    let allowed = all_at (ImportAllowed (module_of p)) (module_of p).imports k (import_of i) right there in
    not_lacking (host_number (name_in i)) allowed.named none

-- those of the first imports
pub record SoFar (p : ModuleParts) (records : List ℕ) (count : ℕ) : Type 0 where
  pub many : length records ≡ count
  pub each : (k : ℕ) (n : ℕ) → slice_get records k ≡ Some n → (i : Import) × (slice_get p.tables.imports.items k ≡ Some i) × (host_number (name_in i) ≡ Some n)

pub none_yet : (p : ModuleParts) → SoFar p [] 0
none_yet p = record { many = refl; each = λ k n e. absurd (cc) }

pub one_more : (p : ModuleParts) (records after : List ℕ) (n count : ℕ) (i : Import) → SoFar p records count → slice_get p.tables.imports.items count ≡ Some i → host_number (name_in i) ≡ Some n → after ≡ records ++ n ∷ [] → SoFar p after (count + 1)
one_more p records after n count i so_far is named e =
    let many = so_far.many in
    let there : SoFar p (records ++ n ∷ []) (count + 1) = record {
      many = (let long = length-append records (n ∷ []) in omega (arith, long, many));
      each = with_last (λ k x. (i : Import) × (slice_get p.tables.imports.items k ≡ Some i) × (host_number (name_in i) ≡ Some x)) records n so_far.each (i, ap (slice_get p.tables.imports.items) many ∙ is, named);
    } in
    subst (λ l. SoFar p l (count + 1)) (sym e) there

pub all_of : (p : ModuleParts) (records : List ℕ) → ImportsRight (module_of p) → SoFar p records (length p.tables.imports.items) → RecordsAgree (imported_names (module_of p).imports) records
all_of p records right so_far =
    let names = names_are (module_of p) (module_of p).imports right in
    let imports = length-map p.tables.imports.items import_of in
    let mapped = length-map (module_of p).imports name_of in
    let count = ap length names in
    let many = so_far.many in
    record {
      count = omega (arith, imports, mapped, count, many);
      each = λ k name n name_is n_is.
          let f = so_far.each k n n_is in
          let there : slice_get (imported_names (module_of p).imports) k ≡ Some (name_in f.0) = ap (λ l. slice_get l k) names ∙ slice_get-map name_of (module_of p).imports k ∙ ap (option_map name_of) (slice_get-map import_of p.tables.imports.items k ∙ ap (option_map import_of) f.1) in
          let same : name_in f.0 ≡ name = some_same (sym there ∙ name_is) in
          ap host_number (sym same) ∙ f.2;
    }
