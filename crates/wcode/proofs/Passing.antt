-- What the functions that skip give, from what they are given.
use Rattle.std.proofs.Common.{◌≡◌, ℕ, ◌-◌, ◌<◌, Bool, true, false, not, List, [], ◌∷◌, drop, Some, None, refl, ap, sym, subst, ◌∙◌}
use Rattle.wcode.specs.declared.blocks.Block.{Block}
use Rattle.wcode.specs.declared.value.BlockType.{BlockType}
use Rattle.wcode.specs.declared.value.Value.{Value}
use Rattle.wcode.specs.declared.instruction.Plain.{Plain}
use Rattle.wcode.specs.declared.instruction.Plain.TheVariants.{Const}
use Rattle.wcode.specs.declared.instruction.Op.{Op}
use Rattle.wcode.specs.declared.instruction.Op.TheVariants as ops
use Rattle.wcode.specs.Syntax.{Body, done, plain, block, loop, if_else, br_table, constant_of}
use Rattle.wcode.specs.Grammar.{Word, one, end, SpellsWord, SpellsBody, SpellsExpr}
use Rattle.wcode.specs.Shown.{Shows}
use Rattle.wcode.specs.Blocks.{EndsAt, SpellsBlocks}
use Rattle.wcode.specs.inside.Skipped.{BlocksFirst, ArmsBlocks, op_constant, op_ends}
use Rattle.wcode.proofs.Items.{first_is, item_plain}
use Rattle.wcode.proofs.Bodies.{body_once}
use Rattle.wcode.proofs.Readers.{Found}
use Rattle.wcode.proofs.BlockLists.{first_plain, first_table, first_block, first_loop, first_if}

pub false_of : (e : Bool) → not e ≡ true → e ≡ false
false_of true t = cc t
false_of false t = refl

module _ (bytes : List ℕ) (room at next : ℕ) (op : Op) where
  pub plain_passes : (p : Plain) → op ≡ ops.Plain p → Found bytes at op next → BlocksFirst bytes room (drop at bytes) (plain p) (drop next bytes) []
  plain_passes p e h =
      let k = subst (λ o. Found bytes at o next) e h in
      first_plain bytes room (drop at bytes) p (drop next bytes) (subst (λ w. SpellsWord (drop at bytes) w (drop next bytes)) k.1 k.2)

  pub table_passes : (count labels_at : ℕ) → op ≡ ops.BrTable count labels_at → Found bytes at op next
      → (labels : List ℕ) × (default : ℕ) × BlocksFirst bytes room (drop at bytes) (br_table labels default) (drop next bytes) []
  table_passes count labels_at e h =
      let k = subst (λ o. Found bytes at o next) e h in
      let g = k.1 in
      (g.0, g.1, first_table bytes room (drop at bytes) g.0 g.1 (drop next bytes) (subst (λ x. SpellsWord (drop at bytes) x (drop next bytes)) g.4 k.2))

  pub block_passes : (t : BlockType) (inner : Body) (after : ℕ) (here : Block) (inside : List Block) → op ≡ ops.Block t → Found bytes at op next → 0 < room → EndsAt bytes here (drop after bytes)
      → SpellsBlocks bytes (room - 1) end (drop next bytes) inner (drop after bytes) inside → BlocksFirst bytes room (drop at bytes) (block t inner) (drop after bytes) (here ∷ inside)
  block_passes t inner after here inside e h r ends i =
      let k = subst (λ o. Found bytes at o next) e h in
      first_block bytes room (drop at bytes) t (drop next bytes) inner (drop after bytes) here inside (subst (λ w. SpellsWord (drop at bytes) w (drop next bytes)) k.1 k.2) r ends i

  pub loop_passes : (t : BlockType) (inner : Body) (after : ℕ) (here : Block) (inside : List Block) → op ≡ ops.Loop t → Found bytes at op next → 0 < room → EndsAt bytes here (drop after bytes)
      → SpellsBlocks bytes (room - 1) end (drop next bytes) inner (drop after bytes) inside → BlocksFirst bytes room (drop at bytes) (loop t inner) (drop after bytes) (here ∷ inside)
  loop_passes t inner after here inside e h r ends i =
      let k = subst (λ o. Found bytes at o next) e h in
      first_loop bytes room (drop at bytes) t (drop next bytes) inner (drop after bytes) here inside (subst (λ w. SpellsWord (drop at bytes) w (drop next bytes)) k.1 k.2) r ends i

  pub if_passes : (t : BlockType) (a b : Body) (after : ℕ) (here : Block) (inside : List Block) → op ≡ ops.If t → Found bytes at op next → 0 < room
      → ArmsBlocks bytes (room - 1) here (drop next bytes) a b (drop after bytes) inside → BlocksFirst bytes room (drop at bytes) (if_else t a b) (drop after bytes) (here ∷ inside)
  if_passes t a b after here inside e h r i =
      let k = subst (λ o. Found bytes at o next) e h in
      first_if bytes room (drop at bytes) t (drop next bytes) a b (drop after bytes) here inside (subst (λ w. SpellsWord (drop at bytes) w (drop next bytes)) k.1 k.2) r i

-- ---- expressions that are one constant

constant_shown : (bytes : List ℕ) (op : Op) (w : Word) (v : Value) → op_constant op ≡ Some v → Shows bytes op w → w ≡ one (Const v)
constant_shown bytes (ops.Plain (Const u)) w v e h = let f : u ≡ v = cc e in h ∙ ap (λ x. one (Const x)) f
constant_shown bytes _ w v e h = cc e

end_shown : (bytes : List ℕ) (op : Op) (w : Word) → op_ends op ≡ true → Shows bytes op w → w ≡ end
end_shown bytes ops.End w e h = h
end_shown bytes _ w e h = cc e

shown_constant : (bytes : List ℕ) (op : Op) (v : Value) → Shows bytes op (one (Const v)) → op_constant op ≡ Some v
shown_constant bytes (ops.Plain p) v h = let e : p ≡ Const v = cc h in ap (λ q. op_constant (ops.Plain q)) e
shown_constant bytes (ops.BrTable count at) v h = cc (h.4)
shown_constant bytes _ v h = cc h

shown_end : (bytes : List ℕ) (op : Op) → Shows bytes op end → op_ends op ≡ true
shown_end bytes ops.End h = refl
shown_end bytes (ops.BrTable count at) h = cc (h.4)
shown_end bytes _ h = cc h

pub is_constant : (bytes : List ℕ) (at next after : ℕ) (op last : Op) (v : Value) → Found bytes at op next → op_constant op ≡ Some v → Found bytes next last after → op_ends last ≡ true
    → (body : Body) (rest : List ℕ) → SpellsExpr (drop at bytes) body rest → Some v ≡ constant_of body
unfolding SpellsBody
is_constant bytes at next after op last v h e k f body rest s =
    let w = subst (λ x. SpellsWord (drop at bytes) x (drop next bytes)) (constant_shown bytes op h.0 v e h.1) h.2 in
    let z = subst (λ x. SpellsWord (drop next bytes) x (drop after bytes)) (end_shown bytes last k.0 f k.1) k.2 in
    let p = body_once 256 false (drop at bytes) (plain (Const v) done) (drop after bytes) (drop next bytes, w, z) false body rest s in
    ap constant_of p.1

first_constant : (body : Body) → ((v : Value) → body ≡ plain (Const v) done → ⊥) → None ≡ constant_of body
first_constant (plain (Const v) done) none = absurd (none v refl)
first_constant _ none = refl

pub no_word_constant : (bytes : List ℕ) (at : ℕ) → ((w : Word) (rest : List ℕ) → SpellsWord (drop at bytes) w rest → ⊥) → (body : Body) (rest : List ℕ) → SpellsExpr (drop at bytes) body rest → None ≡ constant_of body
unfolding SpellsBody
no_word_constant bytes at none body rest s =
    first_constant body (λ v e. (let t = subst (λ b. SpellsExpr (drop at bytes) b rest) e s in none (one (Const v)) t.0 t.1))

pub no_constant : (bytes : List ℕ) (at next : ℕ) (op : Op) → Found bytes at op next → op_constant op ≡ None → (body : Body) (rest : List ℕ) → SpellsExpr (drop at bytes) body rest → None ≡ constant_of body
no_constant bytes at next op h n body rest s =
    first_constant body (λ v e. (
    let w : h.0 ≡ one (Const v) = first_is 256 end (drop at bytes) (plain (Const v) done) rest h.0 (drop next bytes) h.2 (subst (λ b. SpellsExpr (drop at bytes) b rest) e s) in
    let f = sym n ∙ shown_constant bytes op v (subst (Shows bytes op) w h.1) in cc f))

-- what comes behind a constant in an expression that is no more
constant_ends : (bytes : List ℕ) (at next : ℕ) (op : Op) (v : Value) → Found bytes at op next → op_constant op ≡ Some v → (u : Value) (rest : List ℕ) → SpellsExpr (drop at bytes) (plain (Const u) done) rest
    → SpellsWord (drop next bytes) end rest
unfolding SpellsBody
constant_ends bytes at next op v h e u rest s =
    let w = subst (λ x. SpellsWord (drop at bytes) x (drop next bytes)) (constant_shown bytes op h.0 v e h.1) h.2 in
    let p = (item_plain 256 (drop at bytes) (Const v) (drop next bytes) w).only false (plain (Const u) done) rest s in
    let q : done ≡ p.0 = cc (p.1) in
    subst (λ b. SpellsBody 256 end (drop next bytes) b rest) (sym q) p.2

pub no_end_constant : (bytes : List ℕ) (at next : ℕ) (op : Op) (v : Value) → Found bytes at op next → op_constant op ≡ Some v → ((w : Word) (rest : List ℕ) → SpellsWord (drop next bytes) w rest → ⊥)
    → (body : Body) (rest : List ℕ) → SpellsExpr (drop at bytes) body rest → None ≡ constant_of body
no_end_constant bytes at next op v h e none body rest s =
    first_constant body (λ u f. none end rest (constant_ends bytes at next op v h e u rest (subst (λ b. SpellsExpr (drop at bytes) b rest) f s)))

pub other_end_constant : (bytes : List ℕ) (at next after : ℕ) (op last : Op) (v : Value) → Found bytes at op next → op_constant op ≡ Some v → Found bytes next last after → op_ends last ≡ false
    → (body : Body) (rest : List ℕ) → SpellsExpr (drop at bytes) body rest → None ≡ constant_of body
unfolding SpellsBody
other_end_constant bytes at next after op last v h e k n body rest s =
    first_constant body (λ u f. (
    let z = constant_ends bytes at next op v h e u rest (subst (λ b. SpellsExpr (drop at bytes) b rest) f s) in
    let w : k.0 ≡ end = first_is 256 end (drop next bytes) done rest k.0 (drop after bytes) k.2 z in
    let g = sym n ∙ shown_end bytes last (subst (Shows bytes last) w k.1) in cc g))
