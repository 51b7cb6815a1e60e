-- Bytes begin with one word at most.
use Rattle.std.proofs.Common.{◌≡◌, ◌≢◌, ℕ, ◌+◌, ◌<◌, ◌≤◌, List, [], ◌∷◌, ◌++◌, length, drop, get_or, Result, Ok, Err, pos, refl, ap, sym, subst, ◌∙◌, arith, length-append}
use Rattle.leb.specs.Number.{unsigned}
use Rattle.leb.proofs.Grammar.{one_spelling}
use Rattle.wcode.specs.declared.value.ValueType.TheVariants.{I32, I64}
use Rattle.wcode.specs.declared.value.BlockType.{BlockType}
use Rattle.wcode.specs.declared.value.BlockType.TheVariants as blocks
use Rattle.wcode.specs.declared.instruction.MemArg.{MemArg}
use Rattle.leb.proofs.Digits.{at_place}
use Rattle.std.proofs.Math.ListN.{drop_of_length-le}
use Rattle.std.specs.Prelude.{IfOk, OnErr}
use Rattle.wcode.specs.declared.instruction.Op.{Op}
use Rattle.wcode.specs.declared.fault.OpFault.{OpFault}
use Rattle.wcode.specs.declared.opcode.Form.TheVariants as forms
use Rattle.wcode.specs.declared.instruction.Plain.TheVariants as plains
use Rattle.wcode.specs.Opcodes.{form}
use Rattle.wcode.specs.Shown.{Shows}
use Rattle.wcode.specs.inside.Shown.{Reads}
use Rattle.wcode.specs.Grammar.{Word, one, SpellsIndex, SpellsIndices, SpellsBlockType, SpellsMemArg, SpellsLabels, SpellsForm, SpellsWord}

pub index_once : (bytes : List ℕ) (n m : ℕ) (rest more : List ℕ) → SpellsIndex bytes n rest → SpellsIndex bytes m more → (n ≡ m) × (rest ≡ more)
index_once bytes n m rest more h k =
    let p = one_spelling unsigned 32 bytes (pos n) (pos m) rest more h k in
    let e : n ≡ m = cc (p.0) in (e, p.1)

-- one index more
pub indices_push : (bytes ns more : List ℕ) (n : ℕ) (rest : List ℕ) → SpellsIndices bytes ns more → SpellsIndex more n rest → SpellsIndices bytes (ns ++ n ∷ []) rest
unfolding SpellsIndices
indices_push bytes [] more n rest h k = (rest, subst (λ l. SpellsIndex l n rest) (sym h) k, refl)
indices_push bytes (m ∷ ns) more n rest h k = (h.0, h.1, indices_push h.0 ns more n rest h.2 k)

pub indices_once : (bytes ns ms rest more : List ℕ) → length ns ≡ length ms → SpellsIndices bytes ns rest → SpellsIndices bytes ms more → (ns ≡ ms) × (rest ≡ more)
unfolding SpellsIndices
indices_once bytes [] [] rest more l h k = (refl, sym h ∙ k)
indices_once bytes [] (m ∷ ms) rest more l h k = absurd (omega arith)
indices_once bytes (n ∷ ns) [] rest more l h k = absurd (omega arith)
indices_once bytes (n ∷ ns) (m ∷ ms) rest more l h k =
    let p = index_once bytes n m h.0 k.0 h.1 k.1 in
    let q = indices_once h.0 ns ms rest more (omega arith) h.2 (subst (λ x. SpellsIndices x ms more) (sym p.1) k.2) in
    (ap (λ x. x ∷ ns) p.0 ∙ ap (λ x. m ∷ x) q.0, q.1)

-- where more indices stand, the next one stands
pub indices_next : (bytes ns ms more rest : List ℕ) → length ns < length ms → SpellsIndices bytes ns more → SpellsIndices bytes ms rest → (n : ℕ) × (after : List ℕ) × SpellsIndex more n after
unfolding SpellsIndices
indices_next bytes [] [] more rest l h k = absurd (omega arith)
indices_next bytes (n ∷ ns) [] more rest l h k = absurd (omega arith)
indices_next bytes [] (m ∷ ms) more rest l h k = (m, k.0, subst (λ x. SpellsIndex x m k.0) h k.1)
indices_next bytes (n ∷ ns) (m ∷ ms) more rest l h k =
    let p = index_once bytes n m h.0 k.0 h.1 k.1 in
    indices_next h.0 ns ms more rest (omega arith) h.2 (subst (λ x. SpellsIndices x ms rest) (sym p.1) k.2)

-- no type of a block at a byte that stands for none
pub no_block_type : (bytes : List ℕ) (at : ℕ) → at < length bytes → get_or bytes at 0 ≢ 0x40 → get_or bytes at 0 ≢ 0x7F → get_or bytes at 0 ≢ 0x7E
    → (t : BlockType) (rest : List ℕ) → SpellsBlockType (drop at bytes) t rest → ⊥
no_block_type bytes at within a b c blocks.Empty rest h = let e = sym (at_place bytes at within) ∙ h in a cc
no_block_type bytes at within a b c (blocks.Result I32) rest h = let e = sym (at_place bytes at within) ∙ h in b cc
no_block_type bytes at within a b c (blocks.Result I64) rest h = let e = sym (at_place bytes at within) ∙ h in c cc

-- no alignment and offset without an offset
pub mem_arg_none : (bytes : List ℕ) (align : ℕ) (more : List ℕ) → SpellsIndex bytes align more → ((n : ℕ) (rest : List ℕ) → SpellsIndex more n rest → ⊥)
    → (arg : MemArg) (rest : List ℕ) → SpellsMemArg bytes arg rest → ⊥
mem_arg_none bytes align more h none arg rest k =
    none arg.offset rest (subst (λ x. SpellsIndex x arg.offset rest) (sym (index_once bytes align arg.align more k.0 h k.1).1) k.2)

-- So many labels have been passed.
pub record HasSkipped (bytes : List ℕ) (at place count : ℕ) : Type 0 where
  pub within : place ≤ length bytes
  pub labels : List ℕ
  pub counted : count ≡ length labels
  pub spelled : SpellsIndices (drop at bytes) labels (drop place bytes)

pub skipped_none_yet : (bytes : List ℕ) (at : ℕ) → at ≤ length bytes → HasSkipped bytes at at 0
unfolding SpellsIndices
skipped_none_yet bytes at h = record { within = h; labels = []; counted = refl; spelled = refl }

pub skipped_more : {bytes : List ℕ} {at place count : ℕ} (next n : ℕ) → HasSkipped bytes at place count → next ≤ length bytes → SpellsIndex (drop place bytes) n (drop next bytes) → HasSkipped bytes at next (count + 1)
skipped_more {bytes} {at} {place} {count} next n h p k = record {
  within = p;
  labels = h.labels ++ n ∷ [];
  counted = omega (arith, h.counted, length-append h.labels (n ∷ []));
  spelled = indices_push (drop at bytes) h.labels (drop place bytes) n (drop next bytes) h.spelled k;
}

pub skipped_none : {bytes : List ℕ} {at place count : ℕ} (all : ℕ) → HasSkipped bytes at place count → count < all → ((n : ℕ) (rest : List ℕ) → SpellsIndex (drop place bytes) n rest → ⊥)
    → (labels rest : List ℕ) → all ≡ length labels → SpellsIndices (drop at bytes) labels rest → ⊥
skipped_none {bytes} {at} {place} {count} all h m none labels rest e k =
    let x = indices_next (drop at bytes) h.labels labels (drop place bytes) rest (omega (arith, h.counted)) h.spelled k in none x.0 x.1 x.2

-- no list of labels without the labels, and none without the default
pub labels_none : (bytes more : List ℕ) (count : ℕ) → SpellsIndex bytes count more → ((labels rest : List ℕ) → count ≡ length labels → SpellsIndices more labels rest → ⊥)
    → (labels : List ℕ) (default : ℕ) (rest : List ℕ) → SpellsLabels bytes labels default rest → ⊥
labels_none bytes more count h none labels default rest k =
    let p = index_once bytes count (length labels) more k.0 h k.2 in
    none labels k.1 p.0 (subst (λ x. SpellsIndices x labels k.1) (sym p.1) k.3)

pub default_none : (bytes more last labels : List ℕ) (count : ℕ) → SpellsIndex bytes count more → count ≡ length labels → SpellsIndices more labels last → ((n : ℕ) (rest : List ℕ) → SpellsIndex last n rest → ⊥)
    → (others : List ℕ) (default : ℕ) (rest : List ℕ) → SpellsLabels bytes others default rest → ⊥
default_none bytes more last labels count h e i none others default rest k =
    let p = index_once bytes count (length others) more k.0 h k.2 in
    let q = indices_once more labels others last k.1 (sym e ∙ p.0) i (subst (λ x. SpellsIndices x others k.1) (sym p.1) k.3) in
    none default rest (subst (λ x. SpellsIndex x default rest) (sym q.1) k.4)

-- what stands behind an opcode, and the word with its opcode
pub word_of : (bytes : List ℕ) (at : ℕ) (w : Word) (rest : List ℕ) → at < length bytes → SpellsForm (form (get_or bytes at 0)) (drop (at + 1) bytes) w rest → SpellsWord (drop at bytes) w rest
unfolding SpellsWord
word_of bytes at w rest h k = subst (λ x. SpellsWord x w rest) (sym (at_place bytes at h)) k

pub form_of_word : (bytes : List ℕ) (at : ℕ) (w : Word) (rest : List ℕ) → at < length bytes → SpellsWord (drop at bytes) w rest → SpellsForm (form (get_or bytes at 0)) (drop (at + 1) bytes) w rest
unfolding SpellsWord
form_of_word bytes at w rest h k = let f = subst (λ x. SpellsWord x w rest) (at_place bytes at h) k in f

pub no_word : (bytes : List ℕ) (at : ℕ) (w : Word) (rest : List ℕ) → length bytes ≤ at → SpellsWord (drop at bytes) w rest → ⊥
unfolding SpellsWord
no_word bytes at w rest h k = subst (λ x. SpellsWord x w rest) (drop_of_length-le bytes h) k

pub word_found : (bytes : List ℕ) (at : ℕ) (r : Result (Op × ℕ) OpFault) → at < length bytes → Reads bytes (form (get_or bytes at 0)) (at + 1) r
    → IfOk r (λ x. (w : Word) × Shows bytes x.0 w × SpellsWord (drop at bytes) w (drop x.1 bytes))
unfolding Reads
word_found bytes at (Ok x) h k = (k.1, k.2, word_of bytes at k.1 (drop x.1 bytes) h k.3)
word_found bytes at (Err e) h k = tt

pub word_none : (bytes : List ℕ) (at : ℕ) (r : Result (Op × ℕ) OpFault) → at < length bytes → Reads bytes (form (get_or bytes at 0)) (at + 1) r
    → OnErr r ((w : Word) (rest : List ℕ) → SpellsWord (drop at bytes) w rest → ⊥)
unfolding Reads
word_none bytes at (Ok x) h k = tt
word_none bytes at (Err e) h k = λ w rest s. k w rest (form_of_word bytes at w rest h s)

-- a call through the table: an index, and the byte 0
pub call_indirect_reads : (bytes : List ℕ) (at start n : ℕ) (r : Result (Op × ℕ) OpFault) → SpellsIndex (drop at bytes) n (drop start bytes)
    → Reads bytes (forms.ZeroByte (plains.CallIndirect n)) start r → Reads bytes forms.CallIndirect at r
unfolding Reads
call_indirect_reads bytes at start n (Ok x) h k =
    (k.0, k.1, k.2, (n, k.3.0, subst (λ l. SpellsIndex (drop at bytes) n l) k.3.1 h))
call_indirect_reads bytes at start n (Err e) h k = λ w rest s.
    (let p = index_once (drop at bytes) n s.0 (drop start bytes) (0 ∷ rest) h s.2 in k (one (plains.CallIndirect n)) rest (refl, p.1))
