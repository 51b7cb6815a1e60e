-- Bodies with their blocks.
use Rattle.std.proofs.Common.{◌≡◌, ℕ, ◌-◌, ◌<◌, ◌≤◌, inl, inr, Bool, List, [], ◌∷◌, ◌++◌, length, drop, refl, ap, sym, subst, ◌∙◌, append_assoc}
use Rattle.std.proofs.lemmas.List.{append-nil}
use Rattle.std.proofs.Math.Seq.{set-append_seam}
use Rattle.std.proofs.Math.ListN.{set}
use Rattle.wcode.specs.declared.blocks.Block.{Block}
use Rattle.wcode.specs.declared.value.BlockType.{BlockType}
use Rattle.wcode.specs.declared.instruction.Plain.{Plain}
use Rattle.wcode.specs.declared.opcode.Opening.TheVariants as openings
use Rattle.wcode.specs.Syntax.{Body, done, plain, block, loop, if_else, br_table}
use Rattle.wcode.specs.Grammar.{Word, one, opens, otherwise, end, table, SpellsWord, SpellsBody}
use Rattle.wcode.specs.inside.Ended.{closing, SpellsArms}
use Rattle.wcode.specs.Blocks.{EndsAt, SpellsBlocks}
use Rattle.wcode.specs.inside.Skipped.{BlocksFirst, ArmsBlocks}
use Rattle.wcode.proofs.Items.{item_none, item_then, item_plain, item_table}
use Rattle.wcode.proofs.Bodies.{item_block, item_loop, item_if}

-- a body with its blocks is that body
pub blocks_spell : (bytes : List ℕ) (room : ℕ) (last : Word) (front : List ℕ) (body : Body) (rest : List ℕ) (blocks : List Block) → SpellsBlocks bytes room last front body rest blocks → SpellsBody room last front body rest
unfolding SpellsBlocks SpellsBody
blocks_spell bytes room last front done rest blocks h = h.0
blocks_spell bytes room last front (plain p next) rest blocks h = (h.0, h.1, blocks_spell bytes room last h.0 next rest blocks h.2)
blocks_spell bytes room last front (block t inner next) rest blocks h =
    (h.0, h.1, h.2, h.6, blocks_spell bytes (room - 1) end h.1 inner h.2 h.4 h.9, blocks_spell bytes room last h.2 next rest h.5 h.10)
blocks_spell bytes room last front (loop t inner next) rest blocks h =
    (h.0, h.1, h.2, h.6, blocks_spell bytes (room - 1) end h.1 inner h.2 h.4 h.9, blocks_spell bytes room last h.2 next rest h.5 h.10)
blocks_spell bytes room last front (if_else t a b next) rest blocks h = (
  h.0,
  h.1,
  h.2,
  h.6,
  elim h.8 [
    | inl x ↦ inl (x.0, blocks_spell bytes (room - 1) end h.1 a h.2 h.4 x.2)
    | inr x ↦ inr (x.0, blocks_spell bytes (room - 1) otherwise h.1 a x.0 x.2 x.8, blocks_spell bytes (room - 1) end x.0 b h.2 x.3 x.9)
  ],
  blocks_spell bytes room last h.2 next rest h.5 h.9,
)
blocks_spell bytes room last front (br_table labels default next) rest blocks h = (h.0, h.1, blocks_spell bytes room last h.0 next rest blocks h.2)

pub arms_spell : (bytes : List ℕ) (room : ℕ) (here : Block) (front : List ℕ) (a b : Body) (rest : List ℕ) (inside : List Block) → ArmsBlocks bytes room here front a b rest inside → SpellsArms room front a b rest
arms_spell bytes room here front a b rest inside h = elim h [
  | inl x ↦ inl (x.0, blocks_spell bytes room end front a rest inside x.2)
  | inr x ↦ inr (x.0, blocks_spell bytes room otherwise front a x.0 x.2 x.8, blocks_spell bytes room end x.0 b rest x.3 x.9)
]

pub first_none : (bytes : List ℕ) (room : ℕ) (front : List ℕ) → BlocksFirst bytes room front (λ b. b) front []
first_none bytes room front = record { stands = item_none room front; sound = λ last body after more h. h }

pub first_then : (bytes : List ℕ) (room : ℕ) (front more rest : List ℕ) (f g : Body → Body) (xs ys : List Block) → BlocksFirst bytes room front f more xs → BlocksFirst bytes room more g rest ys
    → BlocksFirst bytes room front (λ b. f (g b)) rest (xs ++ ys)
first_then bytes room front more rest f g xs ys h k = record {
  stands = item_then room front f g more rest h.stands k.stands;
  sound = λ last body after zs s.
      subst (SpellsBlocks bytes room last front (f (g body)) after) (sym (append_assoc xs ys zs)) (h.sound last (g body) after (ys ++ zs) (k.sound last body after zs s));
}

pub first_plain : (bytes : List ℕ) (room : ℕ) (front : List ℕ) (p : Plain) (rest : List ℕ) → SpellsWord front (one p) rest → BlocksFirst bytes room front (plain p) rest []
unfolding SpellsBlocks
first_plain bytes room front p rest w = record { stands = item_plain room front p rest w; sound = λ last body after more h. (rest, w, h) }

pub first_table : (bytes : List ℕ) (room : ℕ) (front : List ℕ) (labels : List ℕ) (default : ℕ) (rest : List ℕ) → SpellsWord front (table labels default) rest → BlocksFirst bytes room front (br_table labels default) rest []
unfolding SpellsBlocks
first_table bytes room front labels default rest w = record { stands = item_table room front labels default rest w; sound = λ last body after more h. (rest, w, h) }

pub first_block : (bytes : List ℕ) (room : ℕ) (front : List ℕ) (t : BlockType) (more : List ℕ) (inner : Body) (rest : List ℕ) (here : Block) (inside : List Block)
    → SpellsWord front (opens openings.Block t) more → 0 < room → EndsAt bytes here rest → SpellsBlocks bytes (room - 1) end more inner rest inside
    → BlocksFirst bytes room front (block t inner) rest (here ∷ inside)
unfolding SpellsBlocks
first_block bytes room front t more inner rest here inside w r e i = record {
  stands = item_block room front t more inner rest r w (blocks_spell bytes (room - 1) end more inner rest inside i);
  sound = λ last body after behind h. (r, more, rest, here, inside, behind, w, refl, e, i, h);
}

pub first_loop : (bytes : List ℕ) (room : ℕ) (front : List ℕ) (t : BlockType) (more : List ℕ) (inner : Body) (rest : List ℕ) (here : Block) (inside : List Block)
    → SpellsWord front (opens openings.Loop t) more → 0 < room → EndsAt bytes here rest → SpellsBlocks bytes (room - 1) end more inner rest inside
    → BlocksFirst bytes room front (loop t inner) rest (here ∷ inside)
unfolding SpellsBlocks
first_loop bytes room front t more inner rest here inside w r e i = record {
  stands = item_loop room front t more inner rest r w (blocks_spell bytes (room - 1) end more inner rest inside i);
  sound = λ last body after behind h. (r, more, rest, here, inside, behind, w, refl, e, i, h);
}

pub first_if : (bytes : List ℕ) (room : ℕ) (front : List ℕ) (t : BlockType) (more : List ℕ) (a b : Body) (rest : List ℕ) (here : Block) (inside : List Block)
    → SpellsWord front (opens openings.If t) more → 0 < room → ArmsBlocks bytes (room - 1) here more a b rest inside
    → BlocksFirst bytes room front (if_else t a b) rest (here ∷ inside)
unfolding SpellsBlocks
first_if bytes room front t more a b rest here inside w r i = record {
  stands = item_if room front t more a b rest r w (arms_spell bytes (room - 1) here more a b rest inside i);
  sound = λ last body after behind h. (r, more, rest, here, inside, behind, w, refl, i, h);
}

-- So much of a body has been passed.
pub record HasPassed (bytes : List ℕ) (room at : ℕ) (old : List Block) (place : ℕ) (new : List Block) : Type 0 where
  pub within : place ≤ length bytes
  pub made : Body → Body
  pub inside : List Block
  pub grown : new ≡ old ++ inside
  pub first : BlocksFirst bytes room (drop at bytes) made (drop place bytes) inside

pub passed_begins : (bytes : List ℕ) (room at : ℕ) (old : List Block) → at ≤ length bytes → HasPassed bytes room at old at old
passed_begins bytes room at old h = record { within = h; made = λ b. b; inside = []; grown = sym (append-nil old); first = first_none bytes room (drop at bytes) }

pub passed_more : (bytes : List ℕ) (room at : ℕ) (old : List Block) (place : ℕ) (new : List Block) (next : ℕ) (newer : List Block) (f : Body → Body) (inside : List Block) → HasPassed bytes room at old place new
    → next ≤ length bytes → newer ≡ new ++ inside → BlocksFirst bytes room (drop place bytes) f (drop next bytes) inside → HasPassed bytes room at old next newer
passed_more bytes room at old place new next newer f inside h l e k = record {
  within = l;
  made = λ b. h.made (f b);
  inside = h.inside ++ inside;
  grown = e ∙ ap (λ x. x ++ inside) h.grown ∙ append_assoc old h.inside inside;
  first = first_then bytes room (drop at bytes) (drop place bytes) (drop next bytes) h.made f h.inside inside h.first k;
}

pub passed_ends : (bytes : List ℕ) (room at : ℕ) (old : List Block) (place : ℕ) (new : List Block) (e : Bool) (next : ℕ) (h : HasPassed bytes room at old place new)
    → SpellsWord (drop place bytes) (closing e) (drop next bytes) → SpellsBlocks bytes room (closing e) (drop at bytes) (h.made done) (drop next bytes) h.inside
unfolding SpellsBlocks
passed_ends bytes room at old place new e next h w =
    subst (SpellsBlocks bytes room (closing e) (drop at bytes) (h.made done) (drop next bytes)) (append-nil h.inside) (h.first.sound (closing e) done (drop next bytes) [] (w, refl))

-- a block that was opened and is closed
pub closed : (old before inside new now : List Block) (unset here : Block) (index : ℕ) → index ≡ length old → before ≡ old ++ unset ∷ [] → new ≡ before ++ inside → now ≡ set new index here
    → now ≡ old ++ here ∷ inside
closed old before inside new now unset here index i b n e =
    let f : new ≡ old ++ unset ∷ inside = n ∙ ap (λ x. x ++ inside) b ∙ append_assoc old (unset ∷ []) inside in
    e ∙ ap (λ x. set x index here) f ∙ ap (λ x. set (old ++ unset ∷ inside) x here) i ∙ set-append_seam old unset inside here
