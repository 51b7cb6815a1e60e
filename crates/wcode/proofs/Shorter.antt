-- What is spelled has a byte at least.
use Rattle.std.proofs.Common.{◌≡◌, ℕ, suc, ◌+◌, ◌-◌, ◌<◌, ◌≤◌, inl, inr, List, [], ◌∷◌, length, drop, get_or, Result, Ok, Err, pos, ap, arith, length-drop}
use Rattle.leb.specs.Number.{unsigned, signed}
use Rattle.leb.proofs.Grammar.{spelling_shorter}
use Rattle.wcode.specs.declared.value.ValueType.TheVariants.{I32, I64}
use Rattle.wcode.specs.declared.value.BlockType.{BlockType}
use Rattle.wcode.specs.declared.value.BlockType.TheVariants as blocks
use Rattle.wcode.specs.declared.opcode.Form.{Form}
use Rattle.wcode.specs.declared.opcode.Form.TheVariants as forms
use Rattle.wcode.specs.Opcodes.{form}
use Rattle.wcode.specs.Syntax.{Body, done, plain, block, loop, if_else, br_table}
use Rattle.wcode.specs.Grammar.{Word, end, SpellsIndex, SpellsIndices, SpellsBlockType, SpellsForm, SpellsWord, SpellsBody}
use Rattle.wcode.specs.inside.Ended.{SpellsArms}
use Rattle.wcode.specs.inside.Shown.{Reads}
use Rattle.std.specs.Prelude.{IfOk}
use Rattle.wcode.specs.declared.instruction.Op.{Op}
use Rattle.wcode.specs.declared.fault.OpFault.{OpFault}
use Rattle.wcode.proofs.Words.{word_of}

pub index_shorter : (bytes : List ℕ) (n : ℕ) (rest : List ℕ) → SpellsIndex bytes n rest → length rest < length bytes
index_shorter bytes n rest h = spelling_shorter unsigned 32 bytes (pos n) rest h

indices_shorter : (bytes ns rest : List ℕ) → SpellsIndices bytes ns rest → length rest ≤ length bytes
unfolding SpellsIndices
indices_shorter bytes [] rest h = let e : length bytes ≡ length rest = ap length h in omega arith
indices_shorter bytes (n ∷ ns) rest h = omega (arith, index_shorter bytes n h.0 h.1, indices_shorter h.0 ns rest h.2)

pub type_shorter : (bytes : List ℕ) (t : BlockType) (rest : List ℕ) → SpellsBlockType bytes t rest → length rest < length bytes
type_shorter bytes blocks.Empty rest h = let e : length bytes ≡ suc (length rest) = ap length h in omega arith
type_shorter bytes (blocks.Result I32) rest h = let e : length bytes ≡ suc (length rest) = ap length h in omega arith
type_shorter bytes (blocks.Result I64) rest h = let e : length bytes ≡ suc (length rest) = ap length h in omega arith

form_shorter : (f : Form) (bytes : List ℕ) (w : Word) (rest : List ℕ) → SpellsForm f bytes w rest → length rest ≤ length bytes
form_shorter (forms.Plain p) bytes w rest h = let e : length bytes ≡ length rest = ap length h.1 in omega arith
form_shorter (forms.Opens o) bytes w rest h = omega (arith, type_shorter bytes h.0 rest h.2)
form_shorter forms.Else bytes w rest h = let e : length bytes ≡ length rest = ap length h.1 in omega arith
form_shorter forms.End bytes w rest h = let e : length bytes ≡ length rest = ap length h.1 in omega arith
form_shorter (forms.Indexed i) bytes w rest h = omega (arith, index_shorter bytes h.0 rest h.2)
form_shorter forms.BrTable bytes w rest h =
    let k = h.3 in
    omega (arith, index_shorter bytes (length h.0) k.0 k.2, indices_shorter k.0 h.0 k.1 k.3, index_shorter k.1 h.1 rest k.4)
form_shorter forms.CallIndirect bytes w rest h = omega (arith, index_shorter bytes h.0 (0 ∷ rest) h.2)
form_shorter (forms.Load o) bytes w rest h = let k = h.2 in omega (arith, index_shorter bytes h.0.align k.0 k.1, index_shorter k.0 h.0.offset rest k.2)
form_shorter (forms.Store o) bytes w rest h = let k = h.2 in omega (arith, index_shorter bytes h.0.align k.0 k.1, index_shorter k.0 h.0.offset rest k.2)
form_shorter (forms.ZeroByte p) bytes w rest h = let e : length bytes ≡ suc (length rest) = ap length h.1 in omega arith
form_shorter (forms.Const I32) bytes w rest h = omega (arith, spelling_shorter signed 32 bytes h.2.0 rest h.2.2)
form_shorter (forms.Const I64) bytes w rest h = omega (arith, spelling_shorter signed 64 bytes h.2.0 rest h.2.2)
form_shorter forms.Float bytes w rest h = absurd h
form_shorter forms.Bad bytes w rest h = absurd h

pub word_shorter : (bytes : List ℕ) (w : Word) (rest : List ℕ) → SpellsWord bytes w rest → length rest < length bytes
unfolding SpellsWord
word_shorter [] w rest h = absurd h
word_shorter (b ∷ bytes) w rest h = omega (arith, form_shorter (form b) bytes w rest h)

pub body_shorter : (room : ℕ) (last : Word) (bytes : List ℕ) (body : Body) (rest : List ℕ) → SpellsBody room last bytes body rest → length rest < length bytes
unfolding SpellsBody
body_shorter room last bytes done rest h = word_shorter bytes last rest h
body_shorter room last bytes (plain p next) rest h = omega (arith, word_shorter bytes _ h.0 h.1, body_shorter room last h.0 next rest h.2)
body_shorter room last bytes (block t inner next) rest h =
    omega (arith, word_shorter bytes _ h.1 h.3, body_shorter (room - 1) end h.1 inner h.2 h.4, body_shorter room last h.2 next rest h.5)
body_shorter room last bytes (loop t inner next) rest h =
    omega (arith, word_shorter bytes _ h.1 h.3, body_shorter (room - 1) end h.1 inner h.2 h.4, body_shorter room last h.2 next rest h.5)
body_shorter room last bytes (if_else t a b next) rest h =
    let k : length h.2 < length h.1 = elim h.4 [
      | inl x ↦ body_shorter (room - 1) end h.1 a h.2 x.1
      | inr x ↦ omega (arith, body_shorter (room - 1) _ h.1 a x.0 x.1, body_shorter (room - 1) end x.0 b h.2 x.2)
    ] in
    omega (arith, word_shorter bytes _ h.1 h.3, k, body_shorter room last h.2 next rest h.5)
body_shorter room last bytes (br_table labels default next) rest h = omega (arith, word_shorter bytes _ h.0 h.1, body_shorter room last h.0 next rest h.2)

pub arms_shorter : (room : ℕ) (bytes : List ℕ) (a b : Body) (rest : List ℕ) → SpellsArms room bytes a b rest → length rest < length bytes
arms_shorter room bytes a b rest h = elim h [
  | inl x ↦ body_shorter room end bytes a rest x.1
  | inr x ↦ omega (arith, body_shorter room _ bytes a x.0 x.1, body_shorter room end x.0 b rest x.2)
]

-- so its end lies behind its place
pub place_after : (bytes : List ℕ) (at next : ℕ) → next ≤ length bytes → length (drop next bytes) < length (drop at bytes) → at < next
place_after bytes at next h k = omega (arith, length-drop at bytes, length-drop next bytes)

pub word_end : (bytes : List ℕ) (at : ℕ) (r : Result (Op × ℕ) OpFault) → at < length bytes → Reads bytes (form (get_or bytes at 0)) (at + 1) r
    → IfOk r (λ x. (at < x.1) × (x.1 ≤ length bytes))
unfolding Reads
word_end bytes at (Ok x) h k =
    let w = word_of bytes at k.1 (drop x.1 bytes) h k.3 in
    (place_after bytes at x.1 k.0 (word_shorter (drop at bytes) k.1 (drop x.1 bytes) w), k.0)
word_end bytes at (Err e) h k = tt
