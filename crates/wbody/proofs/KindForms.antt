-- What stands at an opcode of each kind.
use Rattle.std.proofs.Common.{◌≡◌, ℕ, ◌+◌, ◌-◌, ◌<◌, ◌≤◌, List, [], ◌∷◌, map, get_or, refl, sym, ap, subst, ◌∙◌, arith}
use Rattle.std.specs.Prelude.{replicate}
use Rattle.std.proofs.lemmas.List.{get_or-replicate}
use Rattle.wcode.specs.declared.value.ValueType.{ValueType}
use Rattle.wcode.specs.declared.value.ValueType.TheVariants.{I32, I64}
use Rattle.wcode.specs.declared.operator.CvtOp.{CvtOp}
use Rattle.wcode.specs.declared.operator.CvtOp.TheVariants.{WrapI64, ExtendI32S, ExtendI32U, Extend8S, Extend16S, Extend32S}
use Rattle.wcode.specs.declared.operator.LoadOp.{LoadOp}
use Rattle.wcode.specs.declared.operator.StoreOp.{StoreOp}
use Rattle.wcode.specs.declared.instruction.Plain.{Plain}
use Rattle.wcode.specs.declared.instruction.Plain.TheVariants as plains
use Rattle.wcode.specs.declared.opcode.Form.{Form}
use Rattle.wcode.specs.declared.opcode.Form.TheVariants as forms
use Rattle.wcode.specs.Opcodes.{form, form_in, rows}
use Rattle.wcode.proofs.Table.{from, map_from}
use Rattle.wcode.specs.declared.opcode.Indexed.{Indexed}
use Rattle.wcode.specs.declared.opcode.Indexed.TheVariants as indexed
use Rattle.wbody.specs.declared.kind.Kind.{Kind}
use Rattle.wbody.specs.declared.kind.Kind.TheVariants as kinds
use Rattle.wbody.specs.Context.{Context}
use Rattle.wbody.specs.Typing.{PlainType, takes_gives, drops, convert_type, plain_type}
use Rattle.wbody.specs.Branches.{Label, plain_branches}
use Rattle.wbody.specs.inside.Kinds.{convert_kind, plain_kind, indexed_kind, form_kind}

-- An instruction without others inside it and without anything behind its opcode, of this type.
pub record PlainForm (f : Form) (type : PlainType) : Type 0 where
  pub plain : Plain
  pub form_is : f ≡ forms.Plain plain
  pub no_branch : (labels : List Label) (place : ℕ) → plain_branches labels place plain ≡ []
  pub type_is : (c : Context) → plain_type c plain ≡ type

-- which kinds come of instructions without anything behind their opcodes, and of those with an
-- index
abbrev IsPlainKind : Kind → Type 0
IsPlainKind (kinds.One t g) = Unit {0}
IsPlainKind (kinds.Two t g) = Unit {0}
IsPlainKind kinds.Drop = Unit {0}
IsPlainKind kinds.Other = Unit {0}
IsPlainKind _ = ⊥

abbrev IsIndexedKind : Kind → Type 0
IsIndexedKind kinds.LocalGet = Unit {0}
IsIndexedKind kinds.LocalSet = Unit {0}
IsIndexedKind kinds.LocalTee = Unit {0}
IsIndexedKind kinds.Other = Unit {0}
IsIndexedKind _ = ⊥

convert_kinds : (op : CvtOp) → IsPlainKind (convert_kind op)
convert_kinds WrapI64 = tt
convert_kinds ExtendI32S = tt
convert_kinds ExtendI32U = tt
convert_kinds (Extend8S t) = tt
convert_kinds (Extend16S t) = tt
convert_kinds Extend32S = tt

plain_kinds : (p : Plain) → IsPlainKind (plain_kind p)
plain_kinds (plains.Convert op) = convert_kinds op
plain_kinds _ = tt

indexed_kinds : (i : Indexed) → IsIndexedKind (indexed_kind i)
indexed_kinds indexed.LocalGet = tt
indexed_kinds indexed.LocalSet = tt
indexed_kinds indexed.LocalTee = tt
indexed_kinds _ = tt

-- ---- those that take one operand and give one

convert_one : (op : CvtOp) (t g : ValueType) → kinds.One t g ≡ convert_kind op → convert_type op ≡ takes_gives (t ∷ []) (g ∷ [])
convert_one WrapI64 t g e = cc
convert_one ExtendI32S t g e = cc
convert_one ExtendI32U t g e = cc
convert_one (Extend8S u) t g e = cc
convert_one (Extend16S u) t g e = cc
convert_one Extend32S t g e = cc

plain_one : (p : Plain) (t g : ValueType) → kinds.One t g ≡ plain_kind p → PlainForm (forms.Plain p) (takes_gives (t ∷ []) (g ∷ []))
plain_one (plains.Unary u op) t g e = record { plain = plains.Unary u op; form_is = refl; no_branch = λ labels place. refl; type_is = λ c. cc }
plain_one (plains.Test u op) t g e = record { plain = plains.Test u op; form_is = refl; no_branch = λ labels place. refl; type_is = λ c. cc }
plain_one (plains.Convert op) t g e = record { plain = plains.Convert op; form_is = refl; no_branch = λ labels place. refl; type_is = λ c. convert_one op t g e }
plain_one _ t g e = absurd cc

pub form_one : (f : Form) (t g : ValueType) → kinds.One t g ≡ form_kind f → PlainForm f (takes_gives (t ∷ []) (g ∷ []))
form_one (forms.Plain p) t g e = plain_one p t g e
form_one (forms.Indexed i) t g e = absurd (subst IsIndexedKind (sym e) (indexed_kinds i))
form_one _ t g e = absurd cc

-- ---- those that take two operands of one type and give one

convert_two : (op : CvtOp) (t g : ValueType) → kinds.Two t g ≡ convert_kind op → ⊥
convert_two WrapI64 t g e = cc
convert_two ExtendI32S t g e = cc
convert_two ExtendI32U t g e = cc
convert_two (Extend8S u) t g e = cc
convert_two (Extend16S u) t g e = cc
convert_two Extend32S t g e = cc

plain_two : (p : Plain) (t g : ValueType) → kinds.Two t g ≡ plain_kind p → PlainForm (forms.Plain p) (takes_gives (t ∷ t ∷ []) (g ∷ []))
plain_two (plains.Binary u op) t g e = record { plain = plains.Binary u op; form_is = refl; no_branch = λ labels place. refl; type_is = λ c. cc }
plain_two (plains.Relation u op) t g e = record { plain = plains.Relation u op; form_is = refl; no_branch = λ labels place. refl; type_is = λ c. cc }
plain_two (plains.Convert op) t g e = absurd (convert_two op t g e)
plain_two _ t g e = absurd cc

pub form_two : (f : Form) (t g : ValueType) → kinds.Two t g ≡ form_kind f → PlainForm f (takes_gives (t ∷ t ∷ []) (g ∷ []))
form_two (forms.Plain p) t g e = plain_two p t g e
form_two (forms.Indexed i) t g e = absurd (subst IsIndexedKind (sym e) (indexed_kinds i))
form_two _ t g e = absurd cc

-- ---- drop

convert_drop : (op : CvtOp) → kinds.Drop ≡ convert_kind op → ⊥
convert_drop WrapI64 e = cc
convert_drop ExtendI32S e = cc
convert_drop ExtendI32U e = cc
convert_drop (Extend8S u) e = cc
convert_drop (Extend16S u) e = cc
convert_drop Extend32S e = cc

plain_drop : (p : Plain) → kinds.Drop ≡ plain_kind p → PlainForm (forms.Plain p) drops
plain_drop plains.Drop e = record { plain = plains.Drop; form_is = refl; no_branch = λ labels place. refl; type_is = λ c. refl }
plain_drop (plains.Convert op) e = absurd (convert_drop op e)
plain_drop _ e = absurd cc

pub form_drop : (f : Form) → kinds.Drop ≡ form_kind f → PlainForm f drops
form_drop (forms.Plain p) e = plain_drop p e
form_drop (forms.Indexed i) e = absurd (subst IsIndexedKind (sym e) (indexed_kinds i))
form_drop _ e = absurd cc

-- ---- those with something behind their opcodes

pub form_load : (f : Form) (op : LoadOp) → kinds.Load op ≡ form_kind f → f ≡ forms.Load op
form_load (forms.Plain p) op e = absurd (subst IsPlainKind (sym e) (plain_kinds p))
form_load (forms.Indexed i) op e = absurd (subst IsIndexedKind (sym e) (indexed_kinds i))
form_load (forms.Load o) op e = cc
form_load _ op e = absurd cc

pub form_store : (f : Form) (op : StoreOp) → kinds.Store op ≡ form_kind f → f ≡ forms.Store op
form_store (forms.Plain p) op e = absurd (subst IsPlainKind (sym e) (plain_kinds p))
form_store (forms.Indexed i) op e = absurd (subst IsIndexedKind (sym e) (indexed_kinds i))
form_store (forms.Store o) op e = cc
form_store _ op e = absurd cc

indexed_get : (i : Indexed) → kinds.LocalGet ≡ indexed_kind i → i ≡ indexed.LocalGet
indexed_get indexed.LocalGet e = refl
indexed_get _ e = absurd cc

indexed_set : (i : Indexed) → kinds.LocalSet ≡ indexed_kind i → i ≡ indexed.LocalSet
indexed_set indexed.LocalSet e = refl
indexed_set _ e = absurd cc

indexed_tee : (i : Indexed) → kinds.LocalTee ≡ indexed_kind i → i ≡ indexed.LocalTee
indexed_tee indexed.LocalTee e = refl
indexed_tee _ e = absurd cc

pub form_get : (f : Form) → kinds.LocalGet ≡ form_kind f → f ≡ forms.Indexed indexed.LocalGet
form_get (forms.Plain p) e = absurd (subst IsPlainKind (sym e) (plain_kinds p))
form_get (forms.Indexed i) e = cc (indexed_get i e)
form_get _ e = absurd cc

pub form_set : (f : Form) → kinds.LocalSet ≡ form_kind f → f ≡ forms.Indexed indexed.LocalSet
form_set (forms.Plain p) e = absurd (subst IsPlainKind (sym e) (plain_kinds p))
form_set (forms.Indexed i) e = cc (indexed_set i e)
form_set _ e = absurd cc

pub form_tee : (f : Form) → kinds.LocalTee ≡ form_kind f → f ≡ forms.Indexed indexed.LocalTee
form_tee (forms.Plain p) e = absurd (subst IsPlainKind (sym e) (plain_kinds p))
form_tee (forms.Indexed i) e = cc (indexed_tee i e)
form_tee _ e = absurd cc

-- ---- rows of opcodes of one kind

pub kinds_in : (first count : ℕ) (k : Kind) (n : ℕ) → map (λ i. form_kind (form_in rows i)) (from first count) ≡ replicate count k → first ≤ n → n < first + count → k ≡ form_kind (form n)
unfolding form
kinds_in first count k n e low high =
    let here : first + (n - first) ≡ n = omega arith in
    let within : n - first < count = omega arith in
    sym (get_or-replicate count (n - first) k k within) ∙ ap (λ l. get_or l (n - first) k) (sym e)
    ∙ map_from (λ i. form_kind (form_in rows i)) first count (n - first) k within ∙ ap (λ i. form_kind (form_in rows i)) here
