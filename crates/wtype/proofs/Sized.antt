-- What was found of the bodies, one by one.
use Rattle.std.proofs.Common.{◌≡◌, ℕ, zero, suc, ◌+◌, ◌<◌, ◌≤◌, List, [], ◌∷◌, ◌++◌, Bool, false, Option, Some, None, Result, Ok, Err, length, map, get_or, refl, sym, ap, ◌∙◌, subst, arith}
use Rattle.std.specs.Prelude.{IfSome, slice_get, option_map, is_ok, is_err, if◌then◌else◌}
use Rattle.std.specs.Bool.{MatchBool}
use Rattle.std.specs.List.{AllByRecursion}
use Rattle.std.proofs.lemmas.List.{length-map}
use Rattle.std.proofs.lemmas.Option.{slice_get-map, slice_get-get_or, slice_get_within}
use Rattle.wmodule.specs.declared.module.FunctionCode.{FunctionCode}
use Rattle.wmodule.specs.declared.module.ImportKind.{ImportKind}
use Rattle.wmodule.specs.declared.module.ImportKind.TheVariants as imported
use Rattle.wmodule.specs.Syntax.{Signature, ImportSyntax, FunctionSyntax, Code, ModuleSyntax, ModuleParts, module_of, function_with, code_in}
use Rattle.wbody.specs.declared.notes.Notes.{Notes}
use Rattle.wbody.specs.BodyTyped.{BodyTyped, NoTyping}
use Rattle.wbody.specs.Scope.{IsFunctionImport}
use Rattle.wtype.specs.Accepted.{Accepted, ImportAllowed, IsImportOf, host_type, ImportsRight, FunctionTyped, FunctionSmall, RulesKept, ModuleTyped, slots_of, most_slots}
use Rattle.wtype.specs.CheckedModule.{NotesAgree}
use Rattle.wbody.specs.declared.fault.TypeFault.{TypeFault}
use Rattle.wbody.specs.declared.fault.TypeFault.TheVariants.{Untyped, BadImport, BadExport, OverLimit, NoMemory}
use Rattle.wbody.specs.Fault.{IsOfBody}
use Rattle.wtype.specs.Refused.{WhyUntyped, WhyRefused}
use Rattle.wtype.proofs.Each.{all_from, at_place}
use Rattle.wtype.proofs.Kept.{function_at, functions_length, same_test}

-- an element of a list
pub record At {A : Type 0} (xs : List A) (k : ℕ) : Type 0 where
  pub element : A
  pub is : slice_get xs k ≡ Some element

pub some_at : {A : Type 0} (xs : List A) (k : ℕ) → k < length xs → At xs k
some_at [] k h = absurd (omega arith)
some_at (x ∷ xs) zero h = record { element = x; is = refl }
some_at (x ∷ xs) (suc k) h = let a = some_at xs k (omega arith) in record { element = a.element; is = a.is }

-- the function at a place
pub the_function : (p : ModuleParts) (k s : ℕ) (c : FunctionCode) → k < length p.tables.signatures.items → k < length p.tables.codes.items → s ≡ get_or p.tables.signatures.items k s → c ≡ get_or p.tables.codes.items k c → slice_get (module_of p).functions k ≡ Some (function_with s (code_in p.bytes c))
the_function p k s c within_s within_c s_is c_is =
    let first : slice_get p.tables.signatures.items k ≡ Some s = slice_get-get_or p.tables.signatures.items k s within_s ∙ ap Some (sym s_is) in
    let second : slice_get (map (code_in p.bytes) p.tables.codes.items) k ≡ Some (code_in p.bytes c) = slice_get-map (code_in p.bytes) p.tables.codes.items k ∙ ap (option_map (code_in p.bytes)) (slice_get-get_or p.tables.codes.items k c within_c ∙ ap Some (sym c_is)) in
    function_at p.tables.signatures.items (map (code_in p.bytes) p.tables.codes.items) k s (code_in p.bytes c) first second

-- how many functions there are
pub functions_count : (p : ModuleParts) → length p.tables.signatures.items ≡ length p.tables.codes.items → length (module_of p).functions ≡ length p.tables.codes.items
functions_count p many =
    let codes : List Code = map (code_in p.bytes) p.tables.codes.items in
    let count = length-map p.tables.codes.items (code_in p.bytes) in
    functions_length p.tables.signatures.items codes (many ∙ sym count) ∙ count

-- what a push that didn't fail leaves
pub after_push : {A T E : Type 0} (r : Result T E) (new old : List A) (x : A) → is_err r ≡ false → new ≡ (if is_ok r then old ++ x ∷ [] else old) → new ≡ old ++ x ∷ []
after_push (Ok v) new old x e f = f
after_push (Err v) new old x e f = absurd (cc)

pub after_push_len : {T E : Type 0} (r : Result T E) (new old : ℕ) → is_err r ≡ false → new ≡ (if is_ok r then old + 1 else old) → new ≡ old + 1
after_push_len (Ok v) new old e f = f
after_push_len (Err v) new old e f = absurd (cc)

-- a fact for each element, with one more at the end
pub with_last : {A : Type 0} (P : ℕ → A → Type 0) (xs : List A) (x : A) → ((k : ℕ) (y : A) → slice_get xs k ≡ Some y → P k y) → P (length xs) x → (k : ℕ) (y : A) → slice_get (xs ++ x ∷ []) k ≡ Some y → P k y
with_last P [] x each last zero y e = let same : x ≡ y = cc in subst (P 0) same last
with_last P [] x each last (suc k) y e = absurd (cc)
with_last P (z ∷ xs) x each last zero y e = each 0 y e
with_last P (z ∷ xs) x each last (suc k) y e = with_last (λ n. P (suc n)) xs x (λ n. each (suc n)) last k y e

-- a body that is typed
pub function_typed : (p : ModuleParts) (k : ℕ) (f : FunctionSyntax) (n : Notes) → slice_get (module_of p).functions k ≡ Some f → BodyTyped p k n → FunctionTyped (module_of p) f
function_typed p k f n is typed =
    let f_is : typed.function ≡ f = cc (typed.function_is, is) in
    subst (FunctionTyped (module_of p)) f_is (record { type = typed.type; type_is = typed.type_is; body = typed.typed })

-- bodies that are typed
pub all_typed : (p : ModuleParts) (notes : List Notes) → NotesAgree p notes → AllByRecursion (FunctionTyped (module_of p)) (module_of p).functions
all_typed p notes agree =
    let m = module_of p in
    all_from (FunctionTyped m) m.functions (λ k f is.
    (let within : k < length m.functions = slice_get_within m.functions k f is in
    let a = some_at notes k (omega (arith, agree.count)) in function_typed p k f a.element is (agree.each k a.element a.is)))

pub module_typed : (p : ModuleParts) (notes : List Notes) → RulesKept (module_of p) → NotesAgree p notes → ModuleTyped (module_of p)
module_typed p notes rules agree = record { rules = rules; functions = all_typed p notes agree }

-- a function that has a type is small enough where so many slots are
pub some_small : (m : ModuleSyntax) (f : FunctionSyntax) (type : Signature) → slice_get m.types f.signature ≡ Some type → slots_of m type f ≤ most_slots → FunctionSmall m f
some_small m f type is small = subst (λ o. IfSome o (λ t. slots_of m t f ≤ most_slots)) (sym is) small

pub small_some : (m : ModuleSyntax) (f : FunctionSyntax) (type : Signature) → slice_get m.types f.signature ≡ Some type → FunctionSmall m f → slots_of m type f ≤ most_slots
small_some m f type is small = subst (λ o. IfSome o (λ t. slots_of m t f ≤ most_slots)) is small

-- the function at a place, whose body has these notes, is small enough where its slots are few
pub size_tested : (p : ModuleParts) (k : ℕ) (n : Notes) (b : Bool) → BodyTyped p k n → ((f : FunctionSyntax) (type : Signature) → slice_get (module_of p).functions k ≡ Some f → slice_get (module_of p).types f.signature ≡ Some type → MatchBool b (length type.parameters + length f.locals + n.greatest_height ≤ most_slots) (length type.parameters + length f.locals + n.greatest_height ≤ most_slots → ⊥)) → (f : FunctionSyntax) → slice_get (module_of p).functions k ≡ Some f → MatchBool b (FunctionSmall (module_of p) f) (FunctionSmall (module_of p) f → ⊥)
size_tested p k n b typed test f is =
    let m = module_of p in
    let f_is : typed.function ≡ f = cc (typed.function_is, is) in
    let g = typed.function in
    let t = typed.type in
    let here = same_test b (test g t typed.function_is typed.type_is)
    (λ (few : length t.parameters + length g.locals + n.greatest_height ≤ most_slots). some_small m g t typed.type_is (subst (λ h. length t.parameters + length g.locals + h ≤ most_slots) typed.greatest few))
    (λ (small : FunctionSmall m g). subst (λ h. length t.parameters + length g.locals + h ≤ most_slots) (sym typed.greatest) (small_some m g t typed.type_is small)) in
    subst (λ x. MatchBool b (FunctionSmall m x) (FunctionSmall m x → ⊥)) f_is here

-- the index of the type of the function at a place
pub the_signature : (p : ModuleParts) (k s : ℕ) (f : FunctionSyntax) → k < length p.tables.signatures.items → k < length p.tables.codes.items → s ≡ get_or p.tables.signatures.items k s → slice_get (module_of p).functions k ≡ Some f → f.signature ≡ s
the_signature p k s f within_s within_c s_is f_at =
    let a = some_at p.tables.codes.items k within_c in
    let codes : List Code = map (code_in p.bytes) p.tables.codes.items in
    let first : slice_get p.tables.signatures.items k ≡ Some s = slice_get-get_or p.tables.signatures.items k s within_s ∙ ap Some (sym s_is) in
    let second : slice_get codes k ≡ Some (code_in p.bytes a.element) = slice_get-map (code_in p.bytes) p.tables.codes.items k ∙ ap (option_map (code_in p.bytes)) a.is in
    let here : slice_get (module_of p).functions k ≡ Some (function_with s (code_in p.bytes a.element)) = function_at p.tables.signatures.items codes k s (code_in p.bytes a.element) first second in
    let same : f ≡ function_with s (code_in p.bytes a.element) = cc (here, f_at) in
    ap (λ (g : FunctionSyntax). g.signature) same

-- a test of the same sizes
pub resized : (b : Bool) (n o l k g : ℕ) → n ≡ o → l ≡ k → MatchBool b (n + l + g ≤ most_slots) (n + l + g ≤ most_slots → ⊥) → MatchBool b (o + k + g ≤ most_slots) (o + k + g ≤ most_slots → ⊥)
resized b n o l k g e f h =
    same_test b h (λ few. omega arith) (λ few. omega arith)

-- the fault of a body, told with an index
pub told : (m : ModuleSyntax) (fault result : TypeFault) (index : ℕ) → IsOfBody fault → ((function : Option ℕ) (place : ℕ) → fault ≡ Untyped function place → result ≡ Untyped (Some index) place) → (fault ≡ NoMemory → result ≡ NoMemory) → ImportsRight m → ((function : Option ℕ) (place : ℕ) → fault ≡ Untyped function place → WhyUntyped m (Some index)) → WhyRefused m result
told m (Untyped function place) result index of_body untyped same imports why = subst (WhyRefused m) (sym (untyped function place refl)) (imports, why function place refl)
told m BadImport result index of_body untyped same imports why = absurd of_body
told m BadExport result index of_body untyped same imports why = absurd of_body
told m OverLimit result index of_body untyped same imports why = absurd of_body
told m NoMemory result index of_body untyped same imports why = subst (WhyRefused m) (sym (same refl)) tt

-- the two functions are functions
pub functions_imported : (m : ModuleSyntax) (is : List ImportSyntax) → AllByRecursion (ImportAllowed m) is → AllByRecursion (λ (i : ImportSyntax). IsFunctionImport i.kind) is
functions_imported m [] all = tt
functions_imported m (i ∷ is) all = (one i.kind all.0.typed, functions_imported m is all.1)
  where
    one : (kind : ImportKind) → IsImportOf m host_type kind → IsFunctionImport kind
    one (imported.Function t) h = tt
    one (imported.Table l) h = absurd h
    one (imported.Memory l) h = absurd h
    one (imported.Global t) h = absurd h

-- a body without a typing isn't typed
pub not_typed : (m : ModuleSyntax) (k : ℕ) (f : FunctionSyntax) → slice_get m.functions k ≡ Some f → NoTyping m k → FunctionTyped m f → ⊥
not_typed m k f is none typed = none f typed.type is typed.type_is typed.body

-- a module that is accepted is refused for want of memory alone
pub accepted_told : (m : ModuleSyntax) (fault : TypeFault) → WhyRefused m fault → Accepted m → fault ≡ NoMemory
accepted_told m (Untyped None place) why all = let u : WhyUntyped m None = why.1 in absurd (u all.typed.rules)
accepted_told m (Untyped (Some index) place) why all =
    let u : WhyUntyped m (Some index) = why.1 in
    absurd (u.1.untyped (at_place (FunctionTyped m) m.functions u.1.place u.1.function u.1.function_is all.typed.functions))
accepted_told m BadImport why all = absurd (why all.imports)
accepted_told m BadExport why all = absurd (why.2 all.exports)
accepted_told m OverLimit why all = absurd (why.3 all.small)
accepted_told m NoMemory why all = refl
