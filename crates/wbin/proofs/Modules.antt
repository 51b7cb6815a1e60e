-- Sections, and the module that they are.
use Rattle.std.proofs.Common.{◌≡◌, ◌≢◌, ℕ, suc, ◌≤◌, Bool, true, false, List, [], ◌∷◌, ◌++◌, map, length, take, drop, Option, Some, None, Result, Ok, Err, refl, ap, sym, subst, ◌∙◌, arith, length-drop}
use Rattle.std.specs.Prelude.{◌==◌, if◌then◌else◌, option_map}
use Rattle.std.specs.List.{All, find}
use Rattle.wcode.specs.declared.fault.BinFault.{BinFault}
use Rattle.wcode.specs.declared.fault.BinFault.TheVariants.{NoMemory}
use Rattle.wcode.specs.Grammar.{SpellsIndex}
use Rattle.wcode.proofs.Words.{index_once}
use Rattle.wbin.specs.declared.section.Stretch.{Stretch}
use Rattle.wmodule.specs.Syntax.{ModuleSyntax, FunctionSyntax, ModuleParts, functions_with, code_in, syntax_in, module_of}
use Rattle.wmodule.specs.Placed.{Stands}
use Rattle.std.proofs.lemmas.List.{map-id, length-map}
use Rattle.wmodule.specs.Grammar.{Spelling, SpellsEach, SpellsVector, Section, SpellsSection, contents_of, Lists, Starts, Functions, Assembles, header, Spells, SpellsFunctionType, SpellsImport, SpellsTableType, SpellsLimits, SpellsGlobal, SpellsExport, SpellsElement, SpellsData, SpellsCode}
use Rattle.wbin.specs.inside.Reading.{Once}
use Rattle.wbin.specs.inside.Unique.{vector_once, index_spelled_once, function_type_once, import_once, table_type_once, limits_once, global_once, export_once, element_once, data_once, code_once}
use Rattle.wbin.specs.inside.Outline.{section_of, OutlinesUpTo}
use Rattle.wbin.specs.inside.Decoded.{ReadsWhole, AssemblesTo}
use Rattle.wmodule.specs.declared.module.Tables.{Tables}
use Rattle.wmodule.specs.declared.module.FunctionCode.{FunctionCode}
use Rattle.std.proofs.lemmas.List.{length-take-le}
use Rattle.std.specs.Prelude.{IfOk, IfErr}
use Rattle.wbin.proofs.Sections.{sections_once}

header_rest : (bytes rest : List ℕ) → bytes ≡ header ++ rest → rest ≡ drop 8 bytes
header_rest bytes rest e = sym (ap (drop 8) e)

pub module_spelled : (bytes : List ℕ) (sections : List Section) (m : ModuleSyntax) → length bytes ≤ 1048576 → bytes ≡ header ++ drop 8 bytes → OutlinesUpTo bytes 8 sections None → Assembles sections m → Spells bytes m
unfolding OutlinesUpTo
module_spelled bytes sections m l e o a = record { sections = sections; rest = drop 8 bytes; short = l; headed = e; sectioned = o.0; ordered = o.1; assembled = a }

-- a module's sections are those of the outline, which has no fault
pub module_sections : (bytes : List ℕ) (sections : List Section) (fault : Option BinFault) (m : ModuleSyntax) → OutlinesUpTo bytes 8 sections fault → Spells bytes m → (fault ≡ None) × Assembles sections m
unfolding OutlinesUpTo
module_sections bytes sections None m o h =
    let s = subst (λ r. SpellsEach SpellsSection r h.sections []) (header_rest bytes h.rest h.headed) h.sectioned in
    (refl, subst (λ z. Assembles z m) (sections_once (drop 8 bytes) h.sections sections s o.0) h.assembled)
module_sections bytes sections (Some e) m o h =
    let s = subst (λ r. SpellsEach SpellsSection r h.sections []) (header_rest bytes h.rest h.headed) h.sectioned in
    absurd (o.1 h.sections s h.ordered)

-- ---- bytes spell one module at most

pub lists_once : {A : Type 0} (S : Spelling A) → Once S → (c : Option (List ℕ)) (xs ys : List A) → Lists S c xs → Lists S c ys → xs ≡ ys
lists_once S once None xs ys h k = h ∙ sym k
lists_once S once (Some c) xs ys h k = (vector_once S once c xs ys [] [] h k).0

starts_once : (c : Option (List ℕ)) (s t : Option ℕ) → Starts c s → Starts c t → s ≡ t
starts_once None s t h k = h ∙ sym k
starts_once (Some c) s t h k = h.1 ∙ ap Some (index_once c h.0 k.0 [] [] h.2 k.2).0 ∙ sym k.1

functions_once : (s c : Option (List ℕ)) (f g : List FunctionSyntax) → Functions s c f → Functions s c g → f ≡ g
functions_once s c f g h k =
    let p = lists_once SpellsIndex index_spelled_once s h.indices k.indices h.types_listed k.types_listed in
    let q = lists_once SpellsCode code_once c h.bodies k.bodies h.bodies_listed k.bodies_listed in
    h.functions_are ∙ ap (λ i. functions_with i h.bodies) p ∙ ap (functions_with k.indices) q ∙ sym k.functions_are

pub assembled_once : (sections : List Section) (m n : ModuleSyntax) → Assembles sections m → Assembles sections n → m ≡ n
assembled_once sections m n h k =
    let e0 = lists_once SpellsFunctionType function_type_once (contents_of 1 sections) m.types n.types h.types k.types in
    let e1 = lists_once SpellsImport import_once (contents_of 2 sections) m.imports n.imports h.imports k.imports in
    let e2 = functions_once (contents_of 3 sections) (contents_of 10 sections) m.functions n.functions h.functions k.functions in
    let e3 = lists_once SpellsTableType table_type_once (contents_of 4 sections) m.tables n.tables h.tables k.tables in
    let e4 = lists_once SpellsLimits limits_once (contents_of 5 sections) m.memories n.memories h.memories k.memories in
    let e5 = lists_once SpellsGlobal global_once (contents_of 6 sections) m.globals n.globals h.globals k.globals in
    let e6 = lists_once SpellsExport export_once (contents_of 7 sections) m.exports n.exports h.exports k.exports in
    let e7 = starts_once (contents_of 8 sections) m.start n.start h.start k.start in
    let e8 = lists_once SpellsElement element_once (contents_of 9 sections) m.element_segments n.element_segments h.element_segments k.element_segments in
    let e9 = lists_once SpellsData data_once (contents_of 11 sections) m.data_segments n.data_segments h.data_segments k.data_segments in
    ap (λ t. let r : ModuleSyntax = record { types = t; imports = m.imports; functions = m.functions; tables = m.tables; memories = m.memories; globals = m.globals; exports = m.exports; start = m.start; element_segments = m.element_segments; data_segments = m.data_segments } in r) e0
    ∙ ap (λ t. let r : ModuleSyntax = record { types = n.types; imports = t; functions = m.functions; tables = m.tables; memories = m.memories; globals = m.globals; exports = m.exports; start = m.start; element_segments = m.element_segments; data_segments = m.data_segments } in r) e1
    ∙ ap (λ t. let r : ModuleSyntax = record { types = n.types; imports = n.imports; functions = t; tables = m.tables; memories = m.memories; globals = m.globals; exports = m.exports; start = m.start; element_segments = m.element_segments; data_segments = m.data_segments } in r) e2
    ∙ ap (λ t. let r : ModuleSyntax = record { types = n.types; imports = n.imports; functions = n.functions; tables = t; memories = m.memories; globals = m.globals; exports = m.exports; start = m.start; element_segments = m.element_segments; data_segments = m.data_segments } in r) e3
    ∙ ap (λ t. let r : ModuleSyntax = record { types = n.types; imports = n.imports; functions = n.functions; tables = n.tables; memories = t; globals = m.globals; exports = m.exports; start = m.start; element_segments = m.element_segments; data_segments = m.data_segments } in r) e4
    ∙ ap (λ t. let r : ModuleSyntax = record { types = n.types; imports = n.imports; functions = n.functions; tables = n.tables; memories = n.memories; globals = t; exports = m.exports; start = m.start; element_segments = m.element_segments; data_segments = m.data_segments } in r) e5
    ∙ ap (λ t. let r : ModuleSyntax = record { types = n.types; imports = n.imports; functions = n.functions; tables = n.tables; memories = n.memories; globals = n.globals; exports = t; start = m.start; element_segments = m.element_segments; data_segments = m.data_segments } in r) e6
    ∙ ap (λ t. let r : ModuleSyntax = record { types = n.types; imports = n.imports; functions = n.functions; tables = n.tables; memories = n.memories; globals = n.globals; exports = n.exports; start = t; element_segments = m.element_segments; data_segments = m.data_segments } in r) e7
    ∙ ap (λ t. let r : ModuleSyntax = record { types = n.types; imports = n.imports; functions = n.functions; tables = n.tables; memories = n.memories; globals = n.globals; exports = n.exports; start = n.start; element_segments = t; data_segments = m.data_segments } in r) e8
    ∙ ap (λ t. let r : ModuleSyntax = record { types = n.types; imports = n.imports; functions = n.functions; tables = n.tables; memories = n.memories; globals = n.globals; exports = n.exports; start = n.start; element_segments = n.element_segments; data_segments = t } in r) e9

pub module_once : (bytes : List ℕ) (m n : ModuleSyntax) → Spells bytes m → Spells bytes n → m ≡ n
module_once bytes m n h k =
    let s = subst (λ r. SpellsEach SpellsSection r h.sections []) (header_rest bytes h.rest h.headed) h.sectioned in
    let t = subst (λ r. SpellsEach SpellsSection r k.sections []) (header_rest bytes k.rest k.headed) k.sectioned in
    assembled_once k.sections m n (subst (λ z. Assembles z m) (sections_once (drop 8 bytes) h.sections k.sections s t) h.assembled) k.assembled

-- ---- the section of a number

abbrev pub inside : List ℕ → Stretch → List ℕ
inside bytes s = drop s.start (take s.end bytes)

chosen : (bytes : List ℕ) (b : Bool) (s : Stretch) (o : Option Section) (p : Option Stretch) → option_map (λ x. x.contents) o ≡ option_map (inside bytes) p
    → option_map (λ x. x.contents) (if b then Some (section_of bytes s) else o) ≡ option_map (inside bytes) (if b then Some s else p)
chosen bytes true s o p e = refl
chosen bytes false s o p e = e

pub contents_are : (bytes : List ℕ) (id : ℕ) (items : List Stretch) → contents_of id (map (section_of bytes) items) ≡ option_map (inside bytes) (find (λ s. s.id == id) items)
contents_are bytes id [] = refl
contents_are bytes id (s ∷ items) = chosen bytes (s.id == id) s (find (λ x. x.id == id) (map (section_of bytes) items)) (find (λ x. x.id == id) items) (contents_are bytes id items)

found_first : {A : Type 0} (P : A → Type 0) (b : Bool) (x : A) (o : Option A) (s : A) → P x → (o ≡ Some s → P s) → (if b then Some x else o) ≡ Some s → P s
found_first P true x o s p f e = let g : x ≡ s = cc e in subst P g p
found_first P false x o s p f e = f e

pub found_has : {A : Type 0} (P : A → Type 0) (q : A → Bool) (xs : List A) (s : A) → All P xs → find q xs ≡ Some s → P s
found_has P q [] s h e = absurd (let f : ⊥ = cc e in f)
found_has P q (x ∷ xs) s h e =
    found_first P (q x) x (find q xs) s (h 0 x (omega arith)) (found_has P q xs s (λ k d l. h (suc k) d (omega arith))) e

pub list_reads : {A C : Type 0} (S : Spelling A) (f : C → List A) (c : Option (List ℕ)) (bytes : List ℕ) (r : Result C BinFault) → c ≡ Some bytes → ReadsWhole (λ x. SpellsVector S bytes x []) f r → ReadsWhole (Lists S c) f r
unfolding ReadsWhole
list_reads S f c bytes (Ok x) e h = subst (λ o. Lists S o (f x)) (sym e) h
list_reads S f c bytes (Err d) e h = λ m x l. h m x (subst (λ o. Lists S o x) e l)

pub none_listed : {A C : Type 0} (S : Spelling A) (f : C → List A) (c : Option (List ℕ)) (x : C) → c ≡ None → f x ≡ [] → Lists S c (f x)
none_listed S f c x e g = subst (λ o. Lists S o (f x)) (sym e) g

pub starts_at : (c : Option (List ℕ)) (bytes : List ℕ) (n : ℕ) → c ≡ Some bytes → SpellsIndex bytes n [] → Starts c (Some n)
starts_at c bytes n e h = subst (λ o. Starts o (Some n)) (sym e) (n, refl, h)

pub starts_missing : (c : Option (List ℕ)) (bytes : List ℕ) → c ≡ Some bytes → ((n : ℕ) → SpellsIndex bytes n [] → ⊥) → (s : Option ℕ) → Starts c s → ⊥
starts_missing c bytes e none s h = let k = subst (λ o. Starts o s) e h in none k.0 k.2

pub starts_not : (c : Option (List ℕ)) → c ≡ None → Starts c None
starts_not c e = subst (λ o. Starts o None) (sym e) refl

-- a thing that ends before its section
pub left_over : (bytes : List ℕ) (end stop : ℕ) → stop ≤ length bytes → end ≤ length (take stop bytes) → end ≢ stop → drop end (take stop bytes) ≡ [] → ⊥
left_over bytes end stop h k n e =
    let l : length (take stop bytes) ≡ stop = length-take-le stop bytes h in
    let z : length (drop end (take stop bytes)) ≡ 0 = ap length e in
    omega (arith, l, z, length-drop end (take stop bytes))

pub decoded_tables : (bytes : List ℕ) (sections : List Section) (fault : Option BinFault) (r : Result Tables BinFault) → length bytes ≤ 1048576 → bytes ≡ header ++ drop 8 bytes
    → OutlinesUpTo bytes 8 sections fault → AssemblesTo bytes sections fault r → IfOk r (λ t. Stands bytes t)
unfolding AssemblesTo
decoded_tables bytes sections fault (Ok t) l e o a =
    record { spelled = module_spelled bytes sections (syntax_in bytes t) l e (subst (OutlinesUpTo bytes 8 sections) a.0 o) a.1; places = a.2 }
decoded_tables bytes sections fault (Err d) l e o a = tt

pub decoded_none : (bytes : List ℕ) (sections : List Section) (fault : Option BinFault) (r : Result Tables BinFault)
    → OutlinesUpTo bytes 8 sections fault → AssemblesTo bytes sections fault r → IfErr r (λ d. d ≢ NoMemory → (m : ModuleSyntax) → Spells bytes m → ⊥)
unfolding AssemblesTo
decoded_none bytes sections fault (Ok t) o a = tt
decoded_none bytes sections fault (Err d) o a = λ n m h. (let p = module_sections bytes sections fault m o h in a n p.0 m p.1)

pub functions_listed : (s c : Option (List ℕ)) (bytes signatures : List ℕ) (codes : List FunctionCode) → Lists SpellsIndex s (map (λ n. n) signatures) → Lists SpellsCode c (map (code_in bytes) codes)
    → length signatures ≡ length codes → Functions s c (functions_with signatures (map (code_in bytes) codes))
functions_listed s c bytes signatures codes h k l = record {
  indices = map (λ n. n) signatures;
  bodies = map (code_in bytes) codes;
  types_listed = h;
  bodies_listed = k;
  as_many = length-map signatures (λ n. n) ∙ l ∙ sym (length-map codes (code_in bytes));
  functions_are = ap (λ x. functions_with x (map (code_in bytes) codes)) (sym (map-id signatures));
}

pub counts_differ : (s c : Option (List ℕ)) (bytes signatures : List ℕ) (codes : List FunctionCode) → Lists SpellsIndex s (map (λ n. n) signatures) → Lists SpellsCode c (map (code_in bytes) codes)
    → (length signatures ≡ length codes → ⊥) → (functions : List FunctionSyntax) → Functions s c functions → ⊥
counts_differ s c bytes signatures codes h k no_more functions f =
    let p = lists_once SpellsIndex index_spelled_once s (map (λ n. n) signatures) f.indices h f.types_listed in
    let q = lists_once SpellsCode code_once c (map (code_in bytes) codes) f.bodies k f.bodies_listed in
    no_more (sym (length-map signatures (λ n. n)) ∙ ap length p ∙ f.as_many ∙ sym (ap length q) ∙ length-map codes (code_in bytes))

-- a module of the bytes and tables that were found
pub module_is : (bytes copy : List ℕ) (t : Tables) (m : ModuleParts) → copy ≡ bytes → m.bytes ≡ copy → m.tables ≡ t → Stands bytes t → Spells bytes (module_of m)
module_is bytes copy t m e f g h =
    subst (λ b. Spells bytes (syntax_in b m.tables)) (sym (f ∙ e)) (subst (λ x. Spells bytes (syntax_in bytes x)) (sym g) h.spelled)

-- where what every module has of the sections isn't read, nothing is assembled
pub not_read : {B : Type 0} (Is : B → Type 0) (bytes : List ℕ) (sections : List Section) (fault : Option BinFault) (r : Result Tables BinFault) (e y : BinFault) → r ≡ Err y → y ≡ e
    → (e ≢ NoMemory → (x : B) → Is x → ⊥) → ((m : ModuleSyntax) → Assembles sections m → (x : B) × Is x) → AssemblesTo bytes sections fault r
unfolding AssemblesTo
not_read Is bytes sections fault r e y failed same none has =
    subst (AssemblesTo bytes sections fault) (sym (failed ∙ ap (λ (x : BinFault). Err x) same)) (λ other sound m a. none other (has m a).0 (has m a).1)

-- nor where there is a fault
pub faulty : (bytes : List ℕ) (sections : List Section) (fault : Option BinFault) (e : BinFault) → fault ≡ Some e → AssemblesTo bytes sections fault (Err e)
unfolding AssemblesTo
faulty bytes sections fault e there = λ other sound m a. absurd (cc)
