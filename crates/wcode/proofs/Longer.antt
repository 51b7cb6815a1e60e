-- What bytes spell, they spell where more bytes follow.
use Rattle.std.proofs.Common.{ℕ, ◌-◌, ◌≤◌, inl, inr, List, [], ◌∷◌, ◌++◌, length, drop, ℤ, pos, ap, sym, subst, ◌∙◌, arith, length-append}
use Rattle.std.proofs.lemmas.List.{drop-append-le}
use Rattle.leb.specs.Number.{Sign, Spells, unsigned, signed}
use Rattle.wcode.specs.declared.blocks.Block.{Block}
use Rattle.wcode.specs.declared.value.BlockType.{BlockType}
use Rattle.wcode.specs.declared.value.BlockType.TheVariants as blocks
use Rattle.wcode.specs.declared.value.ValueType.TheVariants.{I32, I64}
use Rattle.wcode.specs.declared.opcode.Form.{Form}
use Rattle.wcode.specs.declared.opcode.Form.TheVariants as forms
use Rattle.wcode.specs.Opcodes.{form}
use Rattle.wcode.specs.Syntax.{Body, done, plain, block, loop, if_else, br_table}
use Rattle.wcode.specs.Grammar.{Word, otherwise, end, SpellsIndex, SpellsIndices, SpellsBlockType, SpellsForm, SpellsWord}
use Rattle.wcode.specs.Blocks.{GoesOn, EndsAt, SpellsBlocks}

number_longer : (s : Sign) (bits : ℕ) (bytes : List ℕ) (v : ℤ) (rest more : List ℕ) → Spells s bits bytes v rest → Spells s bits (bytes ++ more) v (rest ++ more)
unfolding Spells
number_longer s bits [] v rest more h = absurd h
number_longer s bits (b ∷ bytes) v rest more (inl h) = inl (h.0, ap (λ l. l ++ more) h.1)
number_longer s bits (b ∷ bytes) v rest more (inr h) = inr (h.0, h.1, h.2, h.3, h.4, number_longer s (bits - 7) bytes h.3 rest more h.5)

index_longer : (bytes : List ℕ) (n : ℕ) (rest more : List ℕ) → SpellsIndex bytes n rest → SpellsIndex (bytes ++ more) n (rest ++ more)
index_longer bytes n rest more h = number_longer unsigned 32 bytes (pos n) rest more h

indices_longer : (bytes ns rest more : List ℕ) → SpellsIndices bytes ns rest → SpellsIndices (bytes ++ more) ns (rest ++ more)
unfolding SpellsIndices
indices_longer bytes [] rest more h = ap (λ l. l ++ more) h
indices_longer bytes (n ∷ ns) rest more h = (h.0 ++ more, index_longer bytes n h.0 more h.1, indices_longer h.0 ns rest more h.2)

type_longer : (bytes : List ℕ) (t : BlockType) (rest more : List ℕ) → SpellsBlockType bytes t rest → SpellsBlockType (bytes ++ more) t (rest ++ more)
type_longer bytes blocks.Empty rest more h = ap (λ l. l ++ more) h
type_longer bytes (blocks.Result I32) rest more h = ap (λ l. l ++ more) h
type_longer bytes (blocks.Result I64) rest more h = ap (λ l. l ++ more) h

form_longer : (f : Form) (bytes : List ℕ) (w : Word) (rest more : List ℕ) → SpellsForm f bytes w rest → SpellsForm f (bytes ++ more) w (rest ++ more)
form_longer (forms.Plain p) bytes w rest more h = (h.0, ap (λ l. l ++ more) h.1)
form_longer (forms.Opens o) bytes w rest more h = (h.0, h.1, type_longer bytes h.0 rest more h.2)
form_longer forms.Else bytes w rest more h = (h.0, ap (λ l. l ++ more) h.1)
form_longer forms.End bytes w rest more h = (h.0, ap (λ l. l ++ more) h.1)
form_longer (forms.Indexed i) bytes w rest more h = (h.0, h.1, index_longer bytes h.0 rest more h.2)
form_longer forms.BrTable bytes w rest more h =
    let k = h.3 in
    (h.0, h.1, h.2, (k.0 ++ more, k.1 ++ more, index_longer bytes (length h.0) k.0 more k.2, indices_longer k.0 h.0 k.1 more k.3, index_longer k.1 h.1 rest more k.4))
form_longer forms.CallIndirect bytes w rest more h = (h.0, h.1, index_longer bytes h.0 (0 ∷ rest) more h.2)
form_longer (forms.Load o) bytes w rest more h =
    let k = h.2 in (h.0, h.1, (k.0 ++ more, index_longer bytes h.0.align k.0 more k.1, index_longer k.0 h.0.offset rest more k.2))
form_longer (forms.Store o) bytes w rest more h =
    let k = h.2 in (h.0, h.1, (k.0 ++ more, index_longer bytes h.0.align k.0 more k.1, index_longer k.0 h.0.offset rest more k.2))
form_longer (forms.ZeroByte p) bytes w rest more h = (h.0, ap (λ l. l ++ more) h.1)
form_longer (forms.Const I32) bytes w rest more h = (h.0, h.1, (h.2.0, h.2.1, number_longer signed 32 bytes h.2.0 rest more h.2.2))
form_longer (forms.Const I64) bytes w rest more h = (h.0, h.1, (h.2.0, h.2.1, number_longer signed 64 bytes h.2.0 rest more h.2.2))
form_longer forms.Float bytes w rest more h = absurd h
form_longer forms.Bad bytes w rest more h = absurd h

word_longer : (bytes : List ℕ) (w : Word) (rest more : List ℕ) → SpellsWord bytes w rest → SpellsWord (bytes ++ more) w (rest ++ more)
unfolding SpellsWord
word_longer [] w rest more h = absurd h
word_longer (b ∷ bytes) w rest more h = form_longer (form b) bytes w rest more h

goes_longer : (bytes : List ℕ) (place : ℕ) (there more : List ℕ) → GoesOn bytes place there → GoesOn (bytes ++ more) place (there ++ more)
goes_longer bytes place there more h = (omega (arith, h.0, length-append bytes more), ap (λ l. l ++ more) h.1 ∙ sym (drop-append-le place bytes more h.0))

ends_longer : (bytes : List ℕ) (here : Block) (after more : List ℕ) → EndsAt bytes here after → EndsAt (bytes ++ more) here (after ++ more)
ends_longer bytes here after more h = (h.0, goes_longer bytes here.after after more h.1)

blocks_longer_at : (bytes : List ℕ) (room : ℕ) (last : Word) (front : List ℕ) (body : Body) (rest : List ℕ) (table : List Block) (more : List ℕ) → SpellsBlocks bytes room last front body rest table
    → SpellsBlocks (bytes ++ more) room last (front ++ more) body (rest ++ more) table
unfolding SpellsBlocks
blocks_longer_at bytes room last front done rest table more h = (word_longer front last rest more h.0, h.1)
blocks_longer_at bytes room last front (plain p next) rest table more h = (h.0 ++ more, word_longer front _ h.0 more h.1, blocks_longer_at bytes room last h.0 next rest table more h.2)
blocks_longer_at bytes room last front (block t inner next) rest table more h = (
  h.0,
  h.1 ++ more,
  h.2 ++ more,
  h.3,
  h.4,
  h.5,
  word_longer front _ h.1 more h.6,
  h.7,
  ends_longer bytes h.3 h.2 more h.8,
  blocks_longer_at bytes (room - 1) end h.1 inner h.2 h.4 more h.9,
  blocks_longer_at bytes room last h.2 next rest h.5 more h.10,
)
blocks_longer_at bytes room last front (loop t inner next) rest table more h = (
  h.0,
  h.1 ++ more,
  h.2 ++ more,
  h.3,
  h.4,
  h.5,
  word_longer front _ h.1 more h.6,
  h.7,
  ends_longer bytes h.3 h.2 more h.8,
  blocks_longer_at bytes (room - 1) end h.1 inner h.2 h.4 more h.9,
  blocks_longer_at bytes room last h.2 next rest h.5 more h.10,
)
blocks_longer_at bytes room last front (if_else t a b next) rest table more h = (
  h.0,
  h.1 ++ more,
  h.2 ++ more,
  h.3,
  h.4,
  h.5,
  word_longer front _ h.1 more h.6,
  h.7,
  elim h.8 [
    | inl x ↦ inl (x.0, ends_longer bytes h.3 h.2 more x.1, blocks_longer_at bytes (room - 1) end h.1 a h.2 h.4 more x.2)
    | inr x ↦ inr (
      x.0 ++ more,
      x.1,
      x.2,
      x.3,
      x.4,
      goes_longer bytes x.1 x.0 more x.5,
      goes_longer bytes h.3.after h.2 more x.6,
      x.7,
      blocks_longer_at bytes (room - 1) otherwise h.1 a x.0 x.2 more x.8,
      blocks_longer_at bytes (room - 1) end x.0 b h.2 x.3 more x.9,
    )
  ],
  blocks_longer_at bytes room last h.2 next rest h.5 more h.9,
)
blocks_longer_at bytes room last front (br_table labels default next) rest table more h = (h.0 ++ more, word_longer front _ h.0 more h.1, blocks_longer_at bytes room last h.0 next rest table more h.2)

-- the same, from places on
pub blocks_longer : (bytes : List ℕ) (at after : ℕ) (body : Body) (table : List Block) (more : List ℕ) → at ≤ length bytes → after ≤ length bytes
    → SpellsBlocks bytes 256 end (drop at bytes) body (drop after bytes) table → SpellsBlocks (bytes ++ more) 256 end (drop at (bytes ++ more)) body (drop after (bytes ++ more)) table
blocks_longer bytes at after body table more a b h =
    subst (λ l. SpellsBlocks (bytes ++ more) 256 end l body (drop after (bytes ++ more)) table) (sym (drop-append-le at bytes more a))
    (subst (λ l. SpellsBlocks (bytes ++ more) 256 end (drop at bytes ++ more) body l table) (sym (drop-append-le after bytes more b))
    (blocks_longer_at bytes 256 end (drop at bytes) body (drop after bytes) table more h))
