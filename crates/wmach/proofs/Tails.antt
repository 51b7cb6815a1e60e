-- What follows something spelled are the last ones of the bytes.
use Rattle.std.proofs.Common.{◌≡◌, ℕ, ◌+◌, ◌-◌, inl, inr, List, [], ◌∷◌, ◌++◌, length, drop, pos, refl, sym, ap, ◌∙◌, arith, append_assoc}
use Rattle.std.specs.Prelude.{ℤ}
use Rattle.std.proofs.lemmas.List.{drop-drop, length-append}
use Rattle.std.proofs.Math.Seq.{drop-append_seam}
use Rattle.leb.specs.Number.{Sign, unsigned, signed, Spells}
use Rattle.wcode.specs.declared.value.ValueType.TheVariants.{I32, I64}
use Rattle.wcode.specs.declared.value.BlockType.{BlockType}
use Rattle.wcode.specs.declared.value.BlockType.TheVariants as blocks
use Rattle.wcode.specs.declared.opcode.Form.{Form}
use Rattle.wcode.specs.declared.opcode.Form.TheVariants as forms
use Rattle.wcode.specs.Opcodes.{form}
use Rattle.wcode.specs.Syntax.{Body, done, plain, block, loop, if_else, br_table}
use Rattle.wcode.specs.Grammar.{Word, end, otherwise, SpellsIndex, SpellsIndices, SpellsBlockType, SpellsForm, SpellsWord, SpellsBody}
use Rattle.wbody.specs.Branches.{position}
use Rattle.wmach.specs.inside.InPlace.{Whole, Ends}

-- the first ones, and then these
pub record Tail (bytes rest : List ℕ) : Type 0 where
  pub front : List ℕ
  pub is : bytes ≡ front ++ rest

pub tail_all : (bytes rest : List ℕ) → bytes ≡ rest → Tail bytes rest
tail_all bytes rest e = record { front = []; is = e }

pub tail_more : (b : ℕ) (bytes rest : List ℕ) → Tail bytes rest → Tail (b ∷ bytes) rest
tail_more b bytes rest t = record { front = b ∷ t.front; is = ap (λ l. b ∷ l) t.is }

pub tail_tail : (bytes middle rest : List ℕ) → Tail bytes middle → Tail middle rest → Tail bytes rest
tail_tail bytes middle rest t u = record { front = t.front ++ u.front; is = t.is ∙ ap (λ l. t.front ++ l) u.is ∙ sym (append_assoc t.front u.front rest) }

-- a byte, and then these
tail_byte : (b : ℕ) (bytes rest : List ℕ) → bytes ≡ b ∷ rest → Tail bytes rest
tail_byte b bytes rest e = record { front = b ∷ []; is = e }

number_tail : (s : Sign) (bits : ℕ) (bytes : List ℕ) (v : ℤ) (rest : List ℕ) → Spells s bits bytes v rest → Tail bytes rest
unfolding Spells
number_tail s bits [] v rest h = absurd h
number_tail s bits (b ∷ bytes) v rest (inl h) = tail_more b bytes rest (tail_all bytes rest h.1)
number_tail s bits (b ∷ bytes) v rest (inr h) = tail_more b bytes rest (number_tail s (bits - 7) bytes h.3 rest h.5)

index_tail : (bytes : List ℕ) (n : ℕ) (rest : List ℕ) → SpellsIndex bytes n rest → Tail bytes rest
index_tail bytes n rest h = number_tail unsigned 32 bytes (pos n) rest h

indices_tail : (bytes ns rest : List ℕ) → SpellsIndices bytes ns rest → Tail bytes rest
unfolding SpellsIndices
indices_tail bytes [] rest h = tail_all bytes rest h
indices_tail bytes (n ∷ ns) rest h = tail_tail bytes h.0 rest (index_tail bytes n h.0 h.1) (indices_tail h.0 ns rest h.2)

type_tail : (bytes : List ℕ) (t : BlockType) (rest : List ℕ) → SpellsBlockType bytes t rest → Tail bytes rest
type_tail bytes blocks.Empty rest h = tail_byte _ bytes rest h
type_tail bytes (blocks.Result I32) rest h = tail_byte _ bytes rest h
type_tail bytes (blocks.Result I64) rest h = tail_byte _ bytes rest h

form_tail : (f : Form) (bytes : List ℕ) (w : Word) (rest : List ℕ) → SpellsForm f bytes w rest → Tail bytes rest
form_tail (forms.Plain p) bytes w rest h = tail_all bytes rest h.1
form_tail (forms.Opens o) bytes w rest h = type_tail bytes h.0 rest h.2
form_tail forms.Else bytes w rest h = tail_all bytes rest h.1
form_tail forms.End bytes w rest h = tail_all bytes rest h.1
form_tail (forms.Indexed i) bytes w rest h = index_tail bytes h.0 rest h.2
form_tail forms.BrTable bytes w rest h =
    let k = h.3 in
    tail_tail bytes k.0 rest (index_tail bytes (length h.0) k.0 k.2) (tail_tail k.0 k.1 rest (indices_tail k.0 h.0 k.1 k.3) (index_tail k.1 h.1 rest k.4))
form_tail forms.CallIndirect bytes w rest h =
    tail_tail bytes (0 ∷ rest) rest (index_tail bytes h.0 (0 ∷ rest) h.2) (tail_byte 0 (0 ∷ rest) rest refl)
form_tail (forms.Load o) bytes w rest h = let k = h.2 in tail_tail bytes k.0 rest (index_tail bytes h.0.align k.0 k.1) (index_tail k.0 h.0.offset rest k.2)
form_tail (forms.Store o) bytes w rest h = let k = h.2 in tail_tail bytes k.0 rest (index_tail bytes h.0.align k.0 k.1) (index_tail k.0 h.0.offset rest k.2)
form_tail (forms.ZeroByte p) bytes w rest h = tail_byte 0 bytes rest h.1
form_tail (forms.Const I32) bytes w rest h = number_tail signed 32 bytes h.2.0 rest h.2.2
form_tail (forms.Const I64) bytes w rest h = number_tail signed 64 bytes h.2.0 rest h.2.2
form_tail forms.Float bytes w rest h = absurd h
form_tail forms.Bad bytes w rest h = absurd h

pub word_tail : (bytes : List ℕ) (w : Word) (rest : List ℕ) → SpellsWord bytes w rest → Tail bytes rest
unfolding SpellsWord
word_tail [] w rest h = absurd h
word_tail (b ∷ bytes) w rest h = tail_more b bytes rest (form_tail (form b) bytes w rest h)

pub body_tail : (room : ℕ) (last : Word) (bytes : List ℕ) (body : Body) (rest : List ℕ) → SpellsBody room last bytes body rest → Tail bytes rest
unfolding SpellsBody
body_tail room last bytes done rest h = word_tail bytes last rest h
body_tail room last bytes (plain p next) rest h = tail_tail bytes h.0 rest (word_tail bytes _ h.0 h.1) (body_tail room last h.0 next rest h.2)
body_tail room last bytes (block t inner next) rest h =
    tail_tail bytes h.1 rest (word_tail bytes _ h.1 h.3) (tail_tail h.1 h.2 rest (body_tail (room - 1) end h.1 inner h.2 h.4) (body_tail room last h.2 next rest h.5))
body_tail room last bytes (loop t inner next) rest h =
    tail_tail bytes h.1 rest (word_tail bytes _ h.1 h.3) (tail_tail h.1 h.2 rest (body_tail (room - 1) end h.1 inner h.2 h.4) (body_tail room last h.2 next rest h.5))
body_tail room last bytes (if_else t a b next) rest (some, more, after, word, inl x, others) =
    tail_tail bytes more rest (word_tail bytes _ more word) (tail_tail more after rest (body_tail (room - 1) end more a after x.1) (body_tail room last after next rest others))
body_tail room last bytes (if_else t a b next) rest (some, more, after, word, inr x, others) =
    tail_tail bytes more rest (word_tail bytes _ more word)
    (tail_tail more x.0 rest (body_tail (room - 1) otherwise more a x.0 x.1) (tail_tail x.0 after rest (body_tail (room - 1) end x.0 b after x.2) (body_tail room last after next rest others)))
body_tail room last bytes (br_table labels default next) rest h = tail_tail bytes h.0 rest (word_tail bytes _ h.0 h.1) (body_tail room last h.0 next rest h.2)

-- the last ones of last ones are so too
pub ends_tail : (w : Whole) (front rest : List ℕ) → Ends w front → Tail front rest → Ends w rest
ends_tail w front rest e t =
    let n = length w.bytes in
    let k = position n front in
    let counted : length front ≡ length t.front + length rest = ap length t.is ∙ length-append t.front rest in
    let behind : drop (length t.front) (drop k w.bytes) ≡ rest = ap (drop (length t.front)) (sym e.is ∙ t.is) ∙ drop-append_seam t.front rest in
    let place : k + length t.front ≡ position n rest = omega (arith, counted, e.within) in
    record {
      within = omega (arith, counted, e.within);
      is = sym (ap (λ j. drop j w.bytes) (sym place) ∙ sym (drop-drop (length t.front) k w.bytes) ∙ behind);
    }
