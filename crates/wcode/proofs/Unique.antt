-- Bytes begin with one word at most, which ends at one place.
use Rattle.std.proofs.Common.{◌≡◌, ℕ, List, [], ◌∷◌, length, refl, ap, sym, subst, ◌∙◌, arith}
use Rattle.std.specs.Int.{cast_unsigned, w32, w64}
use Rattle.leb.specs.Number.{signed}
use Rattle.leb.proofs.Grammar.{one_spelling}
use Rattle.wcode.specs.declared.value.ValueType.TheVariants.{I32, I64}
use Rattle.wcode.specs.declared.value.BlockType.{BlockType}
use Rattle.wcode.specs.declared.value.BlockType.TheVariants as blocks
use Rattle.wcode.specs.declared.value.Value.TheVariants as values
use Rattle.wcode.specs.declared.instruction.MemArg.{MemArg}
use Rattle.wcode.specs.declared.instruction.Plain.TheVariants as plains
use Rattle.wcode.specs.declared.opcode.Form.{Form}
use Rattle.wcode.specs.declared.opcode.Form.TheVariants as forms
use Rattle.wcode.specs.Opcodes.{form, indexed_plain}
use Rattle.wcode.specs.Grammar.{Word, one, opens, table, SpellsIndex, SpellsIndices, SpellsBlockType, SpellsMemArg, SpellsLabels, SpellsForm, SpellsWord}
use Rattle.wcode.proofs.Words.{index_once, indices_once}

-- a byte and what follows it
tail_once : {a b : ℕ} {xs ys : List ℕ} → a ∷ xs ≡ b ∷ ys → xs ≡ ys
tail_once e = cc

head_once : {a b : ℕ} {xs ys : List ℕ} → a ∷ xs ≡ b ∷ ys → a ≡ b
head_once e = cc

block_type_once : (bytes : List ℕ) (t u : BlockType) (rest more : List ℕ) → SpellsBlockType bytes t rest → SpellsBlockType bytes u more → (t ≡ u) × (rest ≡ more)
block_type_once bytes blocks.Empty blocks.Empty rest more h k = (refl, tail_once (sym h ∙ k))
block_type_once bytes blocks.Empty (blocks.Result I32) rest more h k = absurd (let e : 0x40 ≡ 0x7F = head_once (sym h ∙ k) in omega arith)
block_type_once bytes blocks.Empty (blocks.Result I64) rest more h k = absurd (let e : 0x40 ≡ 0x7E = head_once (sym h ∙ k) in omega arith)
block_type_once bytes (blocks.Result I32) blocks.Empty rest more h k = absurd (let e : 0x7F ≡ 0x40 = head_once (sym h ∙ k) in omega arith)
block_type_once bytes (blocks.Result I32) (blocks.Result I32) rest more h k = (refl, tail_once (sym h ∙ k))
block_type_once bytes (blocks.Result I32) (blocks.Result I64) rest more h k = absurd (let e : 0x7F ≡ 0x7E = head_once (sym h ∙ k) in omega arith)
block_type_once bytes (blocks.Result I64) blocks.Empty rest more h k = absurd (let e : 0x7E ≡ 0x40 = head_once (sym h ∙ k) in omega arith)
block_type_once bytes (blocks.Result I64) (blocks.Result I32) rest more h k = absurd (let e : 0x7E ≡ 0x7F = head_once (sym h ∙ k) in omega arith)
block_type_once bytes (blocks.Result I64) (blocks.Result I64) rest more h k = (refl, tail_once (sym h ∙ k))

mem_arg_once : (bytes : List ℕ) (a b : MemArg) (rest more : List ℕ) → SpellsMemArg bytes a rest → SpellsMemArg bytes b more → (a ≡ b) × (rest ≡ more)
mem_arg_once bytes a b rest more h k =
    let p = index_once bytes a.align b.align h.0 k.0 h.1 k.1 in
    let q = index_once h.0 a.offset b.offset rest more h.2 (subst (λ l. SpellsIndex l b.offset more) (sym p.1) k.2) in
    let e : a.align ≡ b.align = p.0 in
    let f : a.offset ≡ b.offset = q.0 in
    (ap (λ n. record { align = n; offset = a.offset }) e ∙ ap (λ n. record { align = b.align; offset = n }) f, q.1)

labels_once : (bytes ls ms : List ℕ) (d e : ℕ) (rest more : List ℕ) → SpellsLabels bytes ls d rest → SpellsLabels bytes ms e more → (ls ≡ ms) × (d ≡ e) × (rest ≡ more)
labels_once bytes ls ms d e rest more h k =
    let p = index_once bytes (length ls) (length ms) h.0 k.0 h.2 k.2 in
    let q = indices_once h.0 ls ms h.1 k.1 p.0 h.3 (subst (λ l. SpellsIndices l ms k.1) (sym p.1) k.3) in
    let r = index_once h.1 d e rest more h.4 (subst (λ l. SpellsIndex l e more) (sym q.1) k.4) in
    (q.0, r.0, r.1)

form_once : (f : Form) (bytes : List ℕ) (v w : Word) (rest more : List ℕ) → SpellsForm f bytes v rest → SpellsForm f bytes w more → (v ≡ w) × (rest ≡ more)
form_once (forms.Plain p) bytes v w rest more h k = (h.0 ∙ sym k.0, sym h.1 ∙ k.1)
form_once (forms.Opens o) bytes v w rest more h k =
    let p = block_type_once bytes h.0 k.0 rest more h.2 k.2 in (h.1 ∙ ap (opens o) p.0 ∙ sym k.1, p.1)
form_once forms.Else bytes v w rest more h k = (h.0 ∙ sym k.0, sym h.1 ∙ k.1)
form_once forms.End bytes v w rest more h k = (h.0 ∙ sym k.0, sym h.1 ∙ k.1)
form_once (forms.Indexed i) bytes v w rest more h k =
    let p = index_once bytes h.0 k.0 rest more h.2 k.2 in (h.1 ∙ ap (λ n. one (indexed_plain i n)) p.0 ∙ sym k.1, p.1)
form_once forms.BrTable bytes v w rest more h k =
    let p = labels_once bytes h.0 k.0 h.1 k.1 rest more h.3 k.3 in
    (h.2 ∙ ap (λ l. table l h.1) p.0 ∙ ap (table k.0) p.1 ∙ sym k.2, p.2)
form_once forms.CallIndirect bytes v w rest more h k =
    let p = index_once bytes h.0 k.0 (0 ∷ rest) (0 ∷ more) h.2 k.2 in
    (h.1 ∙ ap (λ n. one (plains.CallIndirect n)) p.0 ∙ sym k.1, tail_once p.1)
form_once (forms.Load o) bytes v w rest more h k =
    let p = mem_arg_once bytes h.0 k.0 rest more h.2 k.2 in (h.1 ∙ ap (λ a. one (plains.Load o a)) p.0 ∙ sym k.1, p.1)
form_once (forms.Store o) bytes v w rest more h k =
    let p = mem_arg_once bytes h.0 k.0 rest more h.2 k.2 in (h.1 ∙ ap (λ a. one (plains.Store o a)) p.0 ∙ sym k.1, p.1)
form_once (forms.ZeroByte p) bytes v w rest more h k = (h.0 ∙ sym k.0, tail_once (sym h.1 ∙ k.1))
form_once (forms.Const I32) bytes v w rest more h k =
    let p = one_spelling signed 32 bytes h.2.0 k.2.0 rest more h.2.2 k.2.2 in
    let e : h.0 ≡ k.0 = h.2.1 ∙ ap (λ z. cast_unsigned w32 z) p.0 ∙ sym k.2.1 in
    (h.1 ∙ ap (λ n. one (plains.Const (values.I32 n))) e ∙ sym k.1, p.1)
form_once (forms.Const I64) bytes v w rest more h k =
    let p = one_spelling signed 64 bytes h.2.0 k.2.0 rest more h.2.2 k.2.2 in
    let e : h.0 ≡ k.0 = h.2.1 ∙ ap (λ z. cast_unsigned w64 z) p.0 ∙ sym k.2.1 in
    (h.1 ∙ ap (λ n. one (plains.Const (values.I64 n))) e ∙ sym k.1, p.1)
form_once forms.Float bytes v w rest more h k = absurd h
form_once forms.Bad bytes v w rest more h k = absurd h

pub word_once : (bytes : List ℕ) (v w : Word) (rest more : List ℕ) → SpellsWord bytes v rest → SpellsWord bytes w more → (v ≡ w) × (rest ≡ more)
unfolding SpellsWord
word_once [] v w rest more h k = absurd h
word_once (b ∷ bytes) v w rest more h k = form_once (form b) bytes v w rest more h k
