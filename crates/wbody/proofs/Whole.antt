-- A body of a module that was passed is typed.
use Rattle.std.proofs.Common.{◌≡◌, ℕ, zero, suc, ◌<◌, ◌≤◌, List, [], ◌∷◌, ◌++◌, Bool, true, false, Some, None, length, map, get_or, drop, refl, sym, ap, ◌∙◌, subst, arith, eqb-true}
use Rattle.std.specs.Prelude.{slice_get, option_map, not, ◌==◌}
use Rattle.std.specs.Bool.{MatchBool}
use Rattle.std.specs.List.{AllByRecursion}
use Rattle.std.proofs.lemmas.List.{length-map}
use Rattle.std.proofs.lemmas.Option.{slice_get-map, slice_get-get_or, slice_get_past}
use Rattle.wcode.specs.declared.value.BlockType.{BlockType}
use Rattle.wcode.specs.Syntax.{Body}
use Rattle.wcode.specs.Grammar.{end, SpellsExpr}
use Rattle.wcode.specs.declared.blocks.Block.{Block}
use Rattle.wcode.specs.Blocks.{HasBlocks}
use Rattle.wcode.proofs.BlockLists.{blocks_spell}
use Rattle.wmodule.specs.declared.module.Place.{Place}
use Rattle.wmodule.specs.declared.module.Tables.{Tables}
use Rattle.wmodule.specs.declared.module.FunctionType.{FunctionType}
use Rattle.wmodule.specs.declared.module.FunctionCode.{FunctionCode}
use Rattle.wmodule.specs.declared.module.GlobalVariable.{GlobalVariable}
use Rattle.wmodule.specs.declared.module.Import.{Import}
use Rattle.wmodule.specs.Syntax.{Signature, ImportSyntax, FunctionSyntax, GlobalSyntax, Code, function_with, functions_with, code_in, global_in, expression_in, signature_of, import_of, locals_of, syntax_in}
use Rattle.wmodule.specs.Placed.{IsCode}
use Rattle.wmodule.specs.Placed.{Stands as TablesStand}
use Rattle.wbody.specs.declared.scope.Scope.{Scope}
use Rattle.wbody.specs.declared.notes.Notes.{Notes}
use Rattle.wbody.specs.Branches.{body_branches, notes_of}
use Rattle.wbody.specs.Context.{Operands, Context, at_most_one, results_of, is_there, imported_functions, body_context}
use Rattle.wbody.specs.Typing.{Typed}
use Rattle.wbody.specs.BodyTyped.{BodyTyped, NoTyping}
use Rattle.wbody.specs.Scope.{IsFunctionImport}
use Rattle.wbody.specs.inside.Steps.{IsBase, IsPassed}
use Rattle.wbody.specs.inside.ScopeMade.{ScopeIs}

-- the function at a place
functions_at : (sigs : List ℕ) (cs : List Code) (k s : ℕ) (x : Code) → slice_get sigs k ≡ Some s → slice_get cs k ≡ Some x → slice_get (functions_with sigs cs) k ≡ Some (function_with s x)
functions_at [] cs k s x e f = absurd (cc)
functions_at (a ∷ sigs) [] k s x e f = absurd (cc)
functions_at (a ∷ sigs) (b ∷ cs) zero s x e f =
    let first : a ≡ s = cc in
    let second : b ≡ x = cc in
    ap (λ y. Some (function_with y b)) first ∙ ap (λ y. Some (function_with s y)) second
functions_at (a ∷ sigs) (b ∷ cs) (suc k) s x e f = functions_at sigs cs k s x e f

-- the types of the functions are those of their indices
types_of : (types : List Signature) (sigs : List ℕ) (cs : List Code) → length sigs ≡ length cs → map (λ (f : FunctionSyntax). slice_get types f.signature) (functions_with sigs cs) ≡ map (λ x. slice_get types x) sigs
types_of types [] cs e = refl
types_of types (a ∷ sigs) [] e = absurd (omega arith)
types_of types (a ∷ sigs) (b ∷ cs) e = ap (λ l. slice_get types a ∷ l) (types_of types sigs cs (omega arith))

kinds_of : (bytes : List ℕ) (gs : List GlobalVariable) → map (λ (g : GlobalSyntax). g.kind) (map (global_in bytes) gs) ≡ map (λ (g : GlobalVariable). g.kind) gs
kinds_of bytes [] = refl
kinds_of bytes (g ∷ gs) = ap (λ l. g.kind ∷ l) (kinds_of bytes gs)

-- a body's code is where its place says
pub code_stands : (bytes : List ℕ) (t : Tables) (k : ℕ) (code : FunctionCode) → TablesStand bytes t → k < length t.codes.items → code ≡ get_or t.codes.items k code → IsCode bytes code
code_stands bytes t k code stands within code_is = subst (IsCode bytes) (sym code_is) (stands.places.codes k code within)

-- these are the notes of whatever body stands at a place
abbrev pub NotesOf : Scope → Notes → BlockType → Place → (bytes : List ℕ) → List Block → Type 0
NotesOf s n r place bytes blocks =
    (c : Context) (body : Body) → IsBase s c → HasBlocks bytes place.begin body place.end blocks → (spelled : SpellsExpr (drop place.begin bytes) body (drop place.end bytes))
    → n.branches ≡ notes_of (body_branches (length bytes) c body (length (results_of r)) (drop place.begin bytes) (drop place.end bytes) spelled)

pub same_notes : (s : Scope) (n : Notes) (r : BlockType) (place : Place) (bytes others : List ℕ) (blocks more : List Block) → bytes ≡ others → blocks ≡ more → NotesOf s n r place bytes blocks → NotesOf s n r place others more
same_notes s n r place bytes others blocks more e f h = subst (λ x. NotesOf s n r place others x) f (subst (λ x. NotesOf s n r place x blocks) e h)

-- The function at a place, as the scope of its body says it, and where its body stands.
pub record BodyIn (bytes : List ℕ) (t : Tables) (k sig : ℕ) (type : FunctionType) (code : FunctionCode) (s : Scope) : Type 0 where
  pub function_is : slice_get (syntax_in bytes t).functions k ≡ Some (function_with sig (code_in bytes code))
  pub type_is : slice_get (syntax_in bytes t).types sig ≡ Some (signature_of type)
  pub base : IsBase s (body_context (syntax_in bytes t) (signature_of type) (locals_of code.locals.items))
  pub code_is : slice_get t.codes.items k ≡ Some code
  pub stands : IsCode bytes code
  pub spelled : SpellsExpr (drop code.body.begin bytes) (expression_in bytes code.body) (drop code.body.end bytes)

pub function_here : (bytes : List ℕ) (t : Tables) (k sig : ℕ) (code : FunctionCode) → k < length t.codes.items → code ≡ get_or t.codes.items k code → slice_get t.signatures.items k ≡ Some sig → slice_get (syntax_in bytes t).functions k ≡ Some (function_with sig (code_in bytes code))
function_here bytes t k sig code within code_is sig_is =
    let code_there : slice_get t.codes.items k ≡ Some code = slice_get-get_or t.codes.items k code within ∙ ap Some (sym code_is) in
    let codes_there : slice_get (map (code_in bytes) t.codes.items) k ≡ Some (code_in bytes code) = slice_get-map (code_in bytes) t.codes.items k ∙ ap (option_map (code_in bytes)) code_there in
    functions_at t.signatures.items (map (code_in bytes) t.codes.items) k sig (code_in bytes code) sig_is codes_there

pub body_in : (bytes : List ℕ) (t : Tables) (k sig : ℕ) (type : FunctionType) (code : FunctionCode) (s : Scope) → TablesStand bytes t → k < length t.codes.items → code ≡ get_or t.codes.items k code → slice_get t.signatures.items k ≡ Some sig → slice_get t.types.items sig ≡ Some type → ScopeIs t type code s → AllByRecursion (λ (i : Import). IsFunctionImport i.kind) t.imports.items → BodyIn bytes t k sig type code s
body_in bytes t k sig type code s stands within code_is sig_is type_is scope imports =
    let m = syntax_in bytes t in
    let many : length t.signatures.items ≡ length (map (code_in bytes) t.codes.items) = stands.places.as_many ∙ sym (length-map t.codes.items (code_in bytes)) in
    let here = code_stands bytes t k code stands within code_is in
    record {
      function_is = function_here bytes t k sig code within code_is sig_is;
      type_is = slice_get-map signature_of t.types.items sig ∙ ap (option_map signature_of) type_is;
      base = (
        record {
          types = ap (map signature_of) (sym scope.types);
          imports = subst (AllByRecursion (λ (i : Import). IsFunctionImport i.kind)) (sym scope.imports) imports;
          functions =
              ap (λ l. imported_functions m.types (map import_of t.imports.items) ++ l) (types_of m.types t.signatures.items (map (code_in bytes) t.codes.items) many)
              ∙ ap (λ (l : List Import). imported_functions m.types (map import_of l) ++ map (λ x. slice_get m.types x) t.signatures.items) (sym scope.imports)
              ∙ ap (λ (l : List ℕ). imported_functions m.types (map import_of s.imports.now) ++ map (λ x. slice_get m.types x) l) (sym scope.signatures);
          has_table = sym scope.has_table;
          has_memory = sym scope.has_memory;
          globals = kinds_of bytes t.globals.items ∙ ap (map (λ (g : GlobalVariable). g.kind)) (sym scope.globals);
          locals = ap (λ l. l ++ locals_of code.locals.items) (sym scope.parameters) ∙ ap (λ l. s.parameters.now ++ locals_of l) (sym scope.locals);
          result = ap (λ o. Some (at_most_one o)) (sym scope.result);
        },
        ap (λ o. at_most_one o ∷ []) (sym scope.result),
      );
      code_is = slice_get-get_or t.codes.items k code within ∙ ap Some (sym code_is);
      stands = here;
      spelled = blocks_spell bytes 256 end (drop code.body.begin bytes) (expression_in bytes code.body) (drop code.body.end bytes) code.blocks.items here.spelled;
    }

-- where it is passed, it is typed
pub whole : (bytes : List ℕ) (t : Tables) (k sig : ℕ) (type : FunctionType) (code : FunctionCode) (s : Scope) (r : BlockType) (n : Notes) → BodyIn bytes t k sig type code s → results_of r ≡ at_most_one type.result → ((c : Context) (body : Body) (final : List ℕ) → IsBase s c → SpellsExpr (drop code.body.begin bytes) body final → IsPassed c body r n.greatest_height) → NotesOf s n r code.body bytes code.blocks.items → BodyTyped (record { bytes = bytes; tables = t }) k n
whole bytes t k sig type code s r n b results passes noted =
    let c = body_context (syntax_in bytes t) (signature_of type) (locals_of code.locals.items) in
    let p = passes c (expression_in bytes code.body) (drop code.body.end bytes) b.base b.spelled in
    record {
      function = function_with sig (code_in bytes code);
      function_is = b.function_is;
      type = signature_of type;
      type_is = b.type_is;
      typed = subst (λ o. Typed c (expression_in bytes code.body) [] o) results p.typed;
      greatest = p.height;
      code = code;
      code_is = b.code_is;
      branches = λ spelled.
          noted c (expression_in bytes code.body) b.base b.stands.spelled spelled
          ∙ ap (λ (o : Operands). notes_of (body_branches (length bytes) c (expression_in bytes code.body) (length o) (drop code.body.begin bytes) (drop code.body.end bytes) spelled)) results;
    }

-- where it stops, it has no typing
pub whole_stops : (bytes : List ℕ) (t : Tables) (k sig : ℕ) (type : FunctionType) (code : FunctionCode) (s : Scope) (r : BlockType) → BodyIn bytes t k sig type code s → results_of r ≡ at_most_one type.result → ((c : Context) (body : Body) (final : List ℕ) → IsBase s c → SpellsExpr (drop code.body.begin bytes) body final → Typed c body [] (results_of r) → ⊥) → NoTyping (syntax_in bytes t) k
whole_stops bytes t k sig type code s r b results stops f u f_is u_is typed =
    let m = syntax_in bytes t in
    let own = function_with sig (code_in bytes code) in
    let c = body_context m (signature_of type) (locals_of code.locals.items) in
    let same : own ≡ f = cc (b.function_is, f_is) in
    let type_same : signature_of type ≡ u = cc (b.type_is, u_is, same) in
    let own_typed : Typed (body_context m u own.locals) own.body [] (at_most_one u.result) = subst (λ (g : FunctionSyntax). Typed (body_context m u g.locals) g.body [] (at_most_one u.result)) (sym same) typed in
    let here : Typed c (expression_in bytes code.body) [] (at_most_one type.result) = subst (λ (x : Signature). Typed (body_context m x own.locals) own.body [] (at_most_one x.result)) (sym type_same) own_typed in
    stops c (expression_in bytes code.body) (drop code.body.end bytes) b.base b.spelled (subst (λ o. Typed c (expression_in bytes code.body) [] o) (sym results) here)

-- it has none either where its type isn't there
pub type_missing : (bytes : List ℕ) (t : Tables) (k sig : ℕ) (code : FunctionCode) → k < length t.codes.items → code ≡ get_or t.codes.items k code → slice_get t.signatures.items k ≡ Some sig → length t.types.items ≤ sig → NoTyping (syntax_in bytes t) k
type_missing bytes t k sig code within code_is sig_is past f u f_is u_is typed =
    let m = syntax_in bytes t in
    let own = function_with sig (code_in bytes code) in
    let same : own ≡ f = cc (function_here bytes t k sig code within code_is sig_is, f_is) in
    let there : slice_get m.types sig ≡ Some u = ap (λ (g : FunctionSyntax). slice_get m.types g.signature) same ∙ u_is in
    let none : slice_get m.types sig ≡ None = slice_get-map signature_of t.types.items sig ∙ ap (option_map signature_of) (slice_get_past t.types.items sig past) in
    absurd (cc (there, none))

-- imports that are functions, as the module's syntax has them
pub imports_seen : (is : List Import) → AllByRecursion (λ (i : ImportSyntax). IsFunctionImport i.kind) (map import_of is) → AllByRecursion (λ (i : Import). IsFunctionImport i.kind) is
imports_seen [] all = tt
imports_seen (i ∷ is) all = (all.0, imports_seen is all.1)

imports_shown : (is : List Import) → AllByRecursion (λ (i : Import). IsFunctionImport i.kind) is → AllByRecursion (λ (i : ImportSyntax). IsFunctionImport i.kind) (map import_of is)
imports_shown [] all = tt
imports_shown (i ∷ is) all = (all.0, imports_shown is all.1)

-- a test of the one is a test of the other
pub imports_tested : (b : Bool) (xs is : List Import) → xs ≡ is → MatchBool b (AllByRecursion (λ (i : Import). IsFunctionImport i.kind) xs) (AllByRecursion (λ (i : Import). IsFunctionImport i.kind) xs → ⊥) → MatchBool b (AllByRecursion (λ (i : ImportSyntax). IsFunctionImport i.kind) (map import_of is)) (AllByRecursion (λ (i : ImportSyntax). IsFunctionImport i.kind) (map import_of is) → ⊥)
imports_tested true xs is e h = subst (λ l. AllByRecursion (λ (i : ImportSyntax). IsFunctionImport i.kind) (map import_of l)) e (imports_shown xs h)
imports_tested false xs is e h =
    λ all. h (imports_seen xs (subst (λ l. AllByRecursion (λ (i : ImportSyntax). IsFunctionImport i.kind) (map import_of l)) (sym e) all))

-- a list that was found to have elements or none
pub there_is : {A : Type 0} (xs : List A) (n : ℕ) → n ≡ length xs → not (n == 0) ≡ is_there xs
there_is [] n e = ap (λ k. not (k == 0)) e
there_is (x ∷ xs) n e = ap not (never (n == 0) (λ h. let none : n ≡ 0 = eqb-true n 0 h in omega arith))
  where
    never : (b : Bool) → (b ≡ true → ⊥) → b ≡ false
    never true f = absurd (f refl)
    never false f = refl
