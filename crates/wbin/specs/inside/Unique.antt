-- Of each kind, bytes begin with one thing at most, which ends at one place.
use Rattle.std.proofs.Common.{◌≡◌, ℕ, inl, inr, Bool, true, false, List, [], ◌∷◌, ◌++◌, length, Option, Some, None, refl, ap, sym, subst, ◌∙◌, arith}
use Rattle.wcode.specs.declared.value.ValueType.{ValueType}
use Rattle.wcode.specs.declared.value.ValueType.TheVariants.{I32, I64}
use Rattle.wcode.specs.Grammar.{SpellsIndex, SpellsExpr}
use Rattle.wcode.proofs.Words.{index_once}
use Rattle.wcode.proofs.Bodies.{body_once}
use Rattle.wmodule.specs.declared.module.Limits.{Limits}
use Rattle.wmodule.specs.declared.module.GlobalType.{GlobalType}
use Rattle.wmodule.specs.declared.module.ImportKind.{ImportKind}
use Rattle.wmodule.specs.declared.module.ImportKind.TheVariants as imported
use Rattle.wmodule.specs.declared.module.ExportKind.{ExportKind}
use Rattle.wmodule.specs.declared.module.ExportKind.TheVariants as exported
use Rattle.wmodule.specs.Syntax.{Signature, ImportSyntax, GlobalSyntax, ExportSyntax, ElementSyntax, DataSyntax, Code}
use Rattle.wmodule.specs.Grammar.{Spelling, Byte, SpellsEach, SpellsVector, SpellsBytes, SpellsName, value_type_byte, SpellsValueType, results_listed, SpellsResults, SpellsFunctionType, SpellsLimits, SpellsTableType, mutable_byte, SpellsMutable, SpellsGlobalType, import_byte, SpellsImported, SpellsImportKind, SpellsImport, SpellsGlobal, export_byte, SpellsExportKind, SpellsExport, SpellsElement, SpellsData, SpellsRun, run_locals, SpellsCode, Section, SpellsSection}
use Rattle.wbin.specs.inside.Reading.{Once, SpellsBoth}

tail_once : {a b : ℕ} {xs ys : List ℕ} → a ∷ xs ≡ b ∷ ys → xs ≡ ys
tail_once e = cc

head_once : {a b : ℕ} {xs ys : List ℕ} → a ∷ xs ≡ b ∷ ys → a ≡ b
head_once e = cc

pub byte_once : (a b : ℕ) (bytes rest more : List ℕ) → Byte a bytes rest → Byte b bytes more → (a ≡ b) × (rest ≡ more)
byte_once a b bytes rest more h k = (head_once (sym h ∙ k), tail_once (sym h ∙ k))

-- two lists of one length, each thing of which is spelled once
pub each_once : {A : Type 0} (S : Spelling A) → Once S → (bytes : List ℕ) (xs ys : List A) (rest more : List ℕ) → length xs ≡ length ys → SpellsEach S bytes xs rest → SpellsEach S bytes ys more → (xs ≡ ys) × (rest ≡ more)
unfolding SpellsEach
each_once S once bytes [] [] rest more l h k = (refl, sym h ∙ k)
each_once S once bytes [] (y ∷ ys) rest more l h k = absurd (omega arith)
each_once S once bytes (x ∷ xs) [] rest more l h k = absurd (omega arith)
each_once S once bytes (x ∷ xs) (y ∷ ys) rest more l h k =
    let p = once bytes x y h.0 k.0 h.1 k.1 in
    let q = each_once S once h.0 xs ys rest more (omega arith) h.2 (subst (λ b. SpellsEach S b ys more) (sym p.1) k.2) in
    let e : x ≡ y = p.0 in
    let f : xs ≡ ys = q.0 in
    (cc, q.1)

pub vector_once : {A : Type 0} (S : Spelling A) → Once S → Once (SpellsVector S)
vector_once S once bytes xs ys rest more h k =
    let p = index_once bytes (length xs) (length ys) h.0 k.0 h.1 k.1 in
    each_once S once h.0 xs ys rest more p.0 h.2 (subst (λ b. SpellsEach S b ys more) (sym p.1) k.2)

pub index_spelled_once : Once SpellsIndex
index_spelled_once bytes n m rest more h k = index_once bytes n m rest more h k

pub both_once : {A B : Type 0} (S : Spelling A) (T : Spelling B) → Once S → Once T → Once (SpellsBoth S T)
both_once S T once twice bytes x y rest more h k =
    let p = once bytes x.0 y.0 h.0 k.0 h.1 k.1 in
    let q = twice h.0 x.1 y.1 rest more h.2 (subst (λ b. T b y.1 more) (sym p.1) k.2) in
    (ap (λ a. (a, x.1)) p.0 ∙ ap (λ b. (y.0, b)) q.0, q.1)

pub expression_once : Once SpellsExpr
expression_once bytes x y rest more h k = let p = body_once 256 false bytes x rest h false y more k in (p.1, p.2)

-- the same number of bytes in front of two lists
fronts : (xs ys rest more : List ℕ) → length xs ≡ length ys → xs ++ rest ≡ ys ++ more → (xs ≡ ys) × (rest ≡ more)
fronts [] [] rest more l e = (refl, e)
fronts [] (y ∷ ys) rest more l e = absurd (omega arith)
fronts (x ∷ xs) [] rest more l e = absurd (omega arith)
fronts (x ∷ xs) (y ∷ ys) rest more l e =
    let q = fronts xs ys rest more (omega arith) (tail_once e) in
    (ap (λ a. a ∷ xs) (head_once e) ∙ ap (λ l. y ∷ l) q.0, q.1)

pub bytes_once : Once SpellsBytes
bytes_once bytes x y rest more h k = let p = index_once bytes (length x) (length y) (x ++ rest) (y ++ more) h k in fronts x y rest more p.0 p.1

pub name_once : Once SpellsName
name_once bytes x y rest more h k = bytes_once bytes x y rest more h.0 k.0

value_type_is : (x y : ValueType) → value_type_byte x ≡ value_type_byte y → x ≡ y
value_type_is I32 I32 e = refl
value_type_is I32 I64 e = absurd (omega (arith, e))
value_type_is I64 I32 e = absurd (omega (arith, e))
value_type_is I64 I64 e = refl

pub value_type_once : Once SpellsValueType
value_type_once bytes x y rest more h k = let p = byte_once (value_type_byte x) (value_type_byte y) bytes rest more h k in (value_type_is x y p.0, p.1)

listed_is : (x y : Option ValueType) → results_listed x ≡ results_listed y → x ≡ y
listed_is None None e = refl
listed_is None (Some y) e = cc e
listed_is (Some x) None e = cc e
listed_is (Some x) (Some y) e = cc e

pub results_once : Once SpellsResults
results_once bytes x y rest more h k =
    let p = vector_once SpellsValueType value_type_once bytes (results_listed x) (results_listed y) rest more h k in (listed_is x y p.0, p.1)

signature_is : (x y : Signature) → x.parameters ≡ y.parameters → x.result ≡ y.result → x ≡ y
signature_is x y p q = ap (λ a. record { parameters = a; result = x.result }) p ∙ ap (λ b. record { parameters = y.parameters; result = b }) q

pub function_type_once : Once SpellsFunctionType
function_type_once bytes x y rest more h k =
    let p = byte_once 0x60 0x60 bytes h.0 k.0 h.2 k.2 in
    let q = vector_once SpellsValueType value_type_once h.0 x.parameters y.parameters h.1 k.1 h.3 (subst (λ b. SpellsVector SpellsValueType b y.parameters k.1) (sym p.1) k.3) in
    let r = results_once h.1 x.result y.result rest more h.4 (subst (λ b. SpellsResults b y.result more) (sym q.1) k.4) in
    (signature_is x y q.0 r.0, r.1)

limits_is : (x y : Limits) → x.least ≡ y.least → x.most ≡ y.most → x ≡ y
limits_is x y p q = ap (λ a. record { least = a; most = x.most }) p ∙ ap (λ b. record { least = y.least; most = b }) q

pub limits_once : Once SpellsLimits
limits_once bytes x y rest more h k = elim h [
  | inl a ↦ elim k [
    | inl b ↦ (
        let p = byte_once 0 0 bytes a.0 b.0 a.1 b.1 in
        let q = index_once a.0 x.least y.least rest more a.3 (subst (λ l. SpellsIndex l y.least more) (sym p.1) b.3) in
        (limits_is x y q.0 (a.2 ∙ sym b.2), q.1))
    | inr b ↦ (let p = byte_once 0 1 bytes a.0 b.0 a.1 b.3 in absurd (omega (arith, p.0)))
  ]
  | inr a ↦ elim k [
    | inl b ↦ (let p = byte_once 1 0 bytes a.0 b.0 a.3 b.1 in absurd (omega (arith, p.0)))
    | inr b ↦ (
        let p = byte_once 1 1 bytes a.0 b.0 a.3 b.3 in
        let q = index_once a.0 x.least y.least a.1 b.1 a.5 (subst (λ l. SpellsIndex l y.least b.1) (sym p.1) b.5) in
        let r = index_once a.1 a.2 b.2 rest more a.6 (subst (λ l. SpellsIndex l b.2 more) (sym q.1) b.6) in
        (limits_is x y q.0 (a.4 ∙ ap Some r.0 ∙ sym b.4), r.1))
  ]
]

pub table_type_once : Once SpellsTableType
table_type_once bytes x y rest more h k =
    let p = byte_once 0x70 0x70 bytes h.0 k.0 h.1 k.1 in
    limits_once h.0 x y rest more h.2 (subst (λ b. SpellsLimits b y more) (sym p.1) k.2)

mutable_is : (x y : Bool) → mutable_byte x ≡ mutable_byte y → x ≡ y
mutable_is false false e = refl
mutable_is false true e = absurd (omega (arith, e))
mutable_is true false e = absurd (omega (arith, e))
mutable_is true true e = refl

pub mutable_once : Once SpellsMutable
mutable_once bytes x y rest more h k = let p = byte_once (mutable_byte x) (mutable_byte y) bytes rest more h k in (mutable_is x y p.0, p.1)

pub global_type_once : Once SpellsGlobalType
global_type_once bytes x y rest more h k =
    let p = both_once SpellsValueType SpellsMutable value_type_once mutable_once bytes (x.value, x.mutable) (y.value, y.mutable) rest more h k in
    (ap (λ z. let g : GlobalType = record { value = z.0; mutable = z.1 } in g) p.0, p.1)

imported_is : (bytes : List ℕ) (x y : ImportKind) (rest more : List ℕ) → import_byte x ≡ import_byte y → SpellsImported bytes x rest → SpellsImported bytes y more → (x ≡ y) × (rest ≡ more)
imported_is bytes (imported.Function x) (imported.Function y) rest more e h k = let p = index_once bytes x y rest more h k in (ap imported.Function p.0, p.1)
imported_is bytes (imported.Table x) (imported.Table y) rest more e h k = let p = table_type_once bytes x y rest more h k in (ap imported.Table p.0, p.1)
imported_is bytes (imported.Memory x) (imported.Memory y) rest more e h k = let p = limits_once bytes x y rest more h k in (ap imported.Memory p.0, p.1)
imported_is bytes (imported.Global x) (imported.Global y) rest more e h k = let p = global_type_once bytes x y rest more h k in (ap imported.Global p.0, p.1)
imported_is bytes x y rest more e h k = absurd (omega (arith, e))

pub import_kind_once : Once SpellsImportKind
import_kind_once bytes x y rest more h k =
    let p = byte_once (import_byte x) (import_byte y) bytes h.0 k.0 h.1 k.1 in
    imported_is h.0 x y rest more p.0 h.2 (subst (λ b. SpellsImported b y more) (sym p.1) k.2)

-- names, and what comes after them
pub import_once : Once SpellsImport
import_once bytes x y rest more h k =
    let p = both_once SpellsName (SpellsBoth SpellsName SpellsImportKind) name_once (both_once SpellsName SpellsImportKind name_once import_kind_once)
    bytes (x.module_name, (x.name, x.kind)) (y.module_name, (y.name, y.kind)) rest more (h.0, h.2, (h.1, h.3, h.4)) (k.0, k.2, (k.1, k.3, k.4)) in
    (ap (λ z. let i : ImportSyntax = record { module_name = z.0; name = z.1.0; kind = z.1.1 } in i) p.0, p.1)

pub global_once : Once SpellsGlobal
global_once bytes x y rest more h k =
    let p = both_once SpellsGlobalType SpellsExpr global_type_once expression_once bytes (x.kind, x.first) (y.kind, y.first) rest more h k in
    (ap (λ z. let g : GlobalSyntax = record { kind = z.0; first = z.1 } in g) p.0, p.1)

export_kind_is : (x y : ExportKind) → export_byte x ≡ export_byte y → x ≡ y
export_kind_is exported.Function exported.Function e = refl
export_kind_is exported.Table exported.Table e = refl
export_kind_is exported.Memory exported.Memory e = refl
export_kind_is exported.Global exported.Global e = refl
export_kind_is x y e = absurd (omega (arith, e))

pub export_kind_once : Once SpellsExportKind
export_kind_once bytes x y rest more h k = let p = byte_once (export_byte x) (export_byte y) bytes rest more h k in (export_kind_is x y p.0, p.1)

pub export_once : Once SpellsExport
export_once bytes x y rest more h k =
    let p = both_once SpellsName (SpellsBoth SpellsExportKind SpellsIndex) name_once (both_once SpellsExportKind SpellsIndex export_kind_once index_spelled_once)
    bytes (x.name, (x.kind, x.index)) (y.name, (y.kind, y.index)) rest more (h.0, h.2, (h.1, h.3, h.4)) (k.0, k.2, (k.1, k.3, k.4)) in
    (ap (λ z. let e : ExportSyntax = record { name = z.0; kind = z.1.0; index = z.1.1 } in e) p.0, p.1)

pub element_once : Once SpellsElement
element_once bytes x y rest more h k =
    let p = both_once SpellsIndex (SpellsBoth SpellsExpr (SpellsVector SpellsIndex)) index_spelled_once (both_once SpellsExpr (SpellsVector SpellsIndex) expression_once (vector_once SpellsIndex index_spelled_once))
    bytes (x.table, (x.offset, x.functions)) (y.table, (y.offset, y.functions)) rest more (h.0, h.2, (h.1, h.3, h.4)) (k.0, k.2, (k.1, k.3, k.4)) in
    (ap (λ z. let e : ElementSyntax = record { table = z.0; offset = z.1.0; functions = z.1.1 } in e) p.0, p.1)

pub data_once : Once SpellsData
data_once bytes x y rest more h k =
    let p = both_once SpellsIndex (SpellsBoth SpellsExpr SpellsBytes) index_spelled_once (both_once SpellsExpr SpellsBytes expression_once bytes_once)
    bytes (x.memory, (x.offset, x.bytes)) (y.memory, (y.offset, y.bytes)) rest more (h.0, h.2, (h.1, h.3, h.4)) (k.0, k.2, (k.1, k.3, k.4)) in
    (ap (λ z. let d : DataSyntax = record { memory = z.0; offset = z.1.0; bytes = z.1.1 } in d) p.0, p.1)

pub run_once : Once SpellsRun
run_once bytes x y rest more h k = both_once SpellsIndex SpellsValueType index_spelled_once value_type_once bytes x y rest more h k

pub code_once : Once SpellsCode
code_once bytes x y rest more h k =
    let p = bytes_once bytes h.0 k.0 rest more h.3 k.3 in
    let q = vector_once SpellsRun run_once h.0 h.2 k.2 h.1 k.1 h.4 (subst (λ b. SpellsVector SpellsRun b k.2 k.1) (sym p.0) k.4) in
    let r = expression_once h.1 x.body y.body [] [] h.6 (subst (λ b. SpellsExpr b y.body []) (sym q.1) k.6) in
    let l : x.locals ≡ y.locals = h.5 ∙ ap run_locals q.0 ∙ sym k.5 in
    (ap (λ a. let c : Code = record { locals = a; body = x.body } in c) l ∙ ap (λ b. let c : Code = record { locals = y.locals; body = b } in c) r.0, p.1)

pub section_once : Once SpellsSection
section_once bytes x y rest more h k =
    let p = byte_once x.id y.id bytes h.0 k.0 h.1 k.1 in
    let q = bytes_once h.0 x.contents y.contents rest more h.2 (subst (λ b. SpellsBytes b y.contents more) (sym p.1) k.2) in
    (ap (λ a. let s : Section = record { id = a; contents = x.contents } in s) p.0 ∙ ap (λ b. let s : Section = record { id = y.id; contents = b } in s) q.0, q.1)
