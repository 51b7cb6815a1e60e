-- What the readers of bodies give, from what they are given.
use Rattle.std.proofs.Common.{◌≡◌, ℕ, ◌-◌, ◌<◌, ◌≤◌, inl, inr, Bool, true, false, not, List, length, drop, refl, ap, sym, subst, ◌∙◌, arith}
use Rattle.wcode.specs.declared.value.BlockType.{BlockType}
use Rattle.wcode.specs.declared.instruction.Plain.{Plain}
use Rattle.wcode.specs.declared.instruction.Op.{Op}
use Rattle.wcode.specs.declared.instruction.Op.TheVariants as ops
use Rattle.wcode.specs.Syntax.{Body, plain, block, loop, if_else, br_table}
use Rattle.wcode.specs.Grammar.{Word, end, table, SpellsIndex, SpellsIndices, SpellsWord, SpellsBody}
use Rattle.wcode.specs.Shown.{Shows}
use Rattle.wcode.specs.inside.Ended.{closing, SpellsArms, NoBody, StandsFirst}
use Rattle.wcode.proofs.Words.{index_once, indices_once}
use Rattle.wcode.proofs.Items.{item_plain, item_table, item_same}
use Rattle.wcode.proofs.Bodies.{body_once, item_block, item_loop, item_if, no_block, no_loop, no_if}
use Rattle.wcode.proofs.Shorter.{place_after, body_shorter, arms_shorter}

-- a word that is shown as this
abbrev pub Found : List ℕ → ℕ → Op → ℕ → Type 0
Found bytes at op next = (w : Word) × Shows bytes op w × SpellsWord (drop at bytes) w (drop next bytes)

module _ (bytes : List ℕ) (room at next : ℕ) (op : Op) (f : Body → Body) where
  pub plain_stands : (p : Plain) → op ≡ ops.Plain p → Found bytes at op next → ((b : Body) → plain p b ≡ f b) → StandsFirst room (drop at bytes) f (drop next bytes)
  plain_stands p e h s =
      let k = subst (λ o. Found bytes at o next) e h in
      item_same room (drop at bytes) (plain p) f (drop next bytes) s
      (item_plain room (drop at bytes) p (drop next bytes) (subst (λ w. SpellsWord (drop at bytes) w (drop next bytes)) k.1 k.2))

  pub block_stands : (t : BlockType) (inner : Body) (after : ℕ) → op ≡ ops.Block t → Found bytes at op next
      → (0 < room) × SpellsBody (room - 1) end (drop next bytes) inner (drop after bytes) → ((b : Body) → block t inner b ≡ f b) → StandsFirst room (drop at bytes) f (drop after bytes)
  block_stands t inner after e h i s =
      let k = subst (λ o. Found bytes at o next) e h in
      item_same room (drop at bytes) (block t inner) f (drop after bytes) s
      (item_block room (drop at bytes) t (drop next bytes) inner (drop after bytes) i.0 (subst (λ w. SpellsWord (drop at bytes) w (drop next bytes)) k.1 k.2) i.1)

  pub loop_stands : (t : BlockType) (inner : Body) (after : ℕ) → op ≡ ops.Loop t → Found bytes at op next
      → (0 < room) × SpellsBody (room - 1) end (drop next bytes) inner (drop after bytes) → ((b : Body) → loop t inner b ≡ f b) → StandsFirst room (drop at bytes) f (drop after bytes)
  loop_stands t inner after e h i s =
      let k = subst (λ o. Found bytes at o next) e h in
      item_same room (drop at bytes) (loop t inner) f (drop after bytes) s
      (item_loop room (drop at bytes) t (drop next bytes) inner (drop after bytes) i.0 (subst (λ w. SpellsWord (drop at bytes) w (drop next bytes)) k.1 k.2) i.1)

  pub if_stands : (t : BlockType) (a b : Body) (after : ℕ) → op ≡ ops.If t → Found bytes at op next
      → (0 < room) × SpellsArms (room - 1) (drop next bytes) a b (drop after bytes) → ((c : Body) → if_else t a b c ≡ f c) → StandsFirst room (drop at bytes) f (drop after bytes)
  if_stands t a b after e h i s =
      let k = subst (λ o. Found bytes at o next) e h in
      item_same room (drop at bytes) (if_else t a b) f (drop after bytes) s
      (item_if room (drop at bytes) t (drop next bytes) a b (drop after bytes) i.0 (subst (λ w. SpellsWord (drop at bytes) w (drop next bytes)) k.1 k.2) i.1)

  pub table_stands : (count labels_at : ℕ) (labels : List ℕ) (default : ℕ) → op ≡ ops.BrTable count labels_at → Found bytes at op next
      → (last rest : List ℕ) × (count ≡ length labels) × SpellsIndices (drop labels_at bytes) labels last × SpellsIndex last default rest
      → ((b : Body) → br_table labels default b ≡ f b) → StandsFirst room (drop at bytes) f (drop next bytes)
  table_stands count labels_at labels default e h i s =
      let k = subst (λ o. Found bytes at o next) e h in
      let g = k.1 in
      let p = indices_once (drop labels_at bytes) g.0 labels g.2 i.0 (sym g.5 ∙ i.2) g.7 i.3 in
      let q = index_once i.0 g.1 default g.3 i.1 (subst (λ l. SpellsIndex l g.1 g.3) p.1 g.8) i.4 in
      let w : k.0 ≡ table labels default = g.4 ∙ ap (λ l. table l g.1) p.0 ∙ ap (table labels) q.0 in
      item_same room (drop at bytes) (br_table labels default) f (drop next bytes) s
      (item_table room (drop at bytes) labels default (drop next bytes) (subst (λ x. SpellsWord (drop at bytes) x (drop next bytes)) w k.2))

  pub block_missing : (t : BlockType) → op ≡ ops.Block t → Found bytes at op next
      → (0 < room → (inner : Body) (rest : List ℕ) → SpellsBody (room - 1) end (drop next bytes) inner rest → ⊥) → NoBody room (drop at bytes)
  block_missing t e h none =
      let k = subst (λ o. Found bytes at o next) e h in
      no_block room (drop at bytes) t (drop next bytes) (subst (λ w. SpellsWord (drop at bytes) w (drop next bytes)) k.1 k.2) none

  pub loop_missing : (t : BlockType) → op ≡ ops.Loop t → Found bytes at op next
      → (0 < room → (inner : Body) (rest : List ℕ) → SpellsBody (room - 1) end (drop next bytes) inner rest → ⊥) → NoBody room (drop at bytes)
  loop_missing t e h none =
      let k = subst (λ o. Found bytes at o next) e h in
      no_loop room (drop at bytes) t (drop next bytes) (subst (λ w. SpellsWord (drop at bytes) w (drop next bytes)) k.1 k.2) none

  pub if_missing : (t : BlockType) → op ≡ ops.If t → Found bytes at op next
      → (0 < room → (a b : Body) (rest : List ℕ) → SpellsArms (room - 1) (drop next bytes) a b rest → ⊥) → NoBody room (drop at bytes)
  if_missing t e h none =
      let k = subst (λ o. Found bytes at o next) e h in
      no_if room (drop at bytes) t (drop next bytes) (subst (λ w. SpellsWord (drop at bytes) w (drop next bytes)) k.1 k.2) none

-- the end of what is inside lies behind its beginning
pub nested_after : (bytes : List ℕ) (room at next after : ℕ) (inner : Body) → at < next → after ≤ length bytes → SpellsBody room end (drop next bytes) inner (drop after bytes) → at < after
nested_after bytes room at next after inner h k s = omega (arith, place_after bytes next after k (body_shorter room end (drop next bytes) inner (drop after bytes) s))

pub arms_after : (bytes : List ℕ) (room at next after : ℕ) (a b : Body) → at < next → after ≤ length bytes → SpellsArms room (drop next bytes) a b (drop after bytes) → at < after
arms_after bytes room at next after a b h k s = omega (arith, place_after bytes next after k (arms_shorter room (drop next bytes) a b (drop after bytes) s))

-- a body that `else` ends is none that `end` ends
pub else_is_no_end : (room : ℕ) (bytes : List ℕ) (e : Bool) (body : Body) (rest : List ℕ) → e ≡ true → SpellsBody room (closing e) bytes body rest
    → (other : Body) (more : List ℕ) → SpellsBody room end bytes other more → ⊥
else_is_no_end room bytes e body rest t h other more s =
    let p = body_once room e bytes body rest h false other more s in
    let q : true ≡ false = sym t ∙ p.0 in cc q

pub no_end : (room : ℕ) (bytes : List ℕ) → NoBody room bytes → (body : Body) (rest : List ℕ) → SpellsBody room end bytes body rest → ⊥
no_end room bytes none body rest h = none false body rest h

-- no arms where the first isn't there
pub no_first_arm : (room : ℕ) (bytes : List ℕ) → NoBody room bytes → (a b : Body) (rest : List ℕ) → SpellsArms room bytes a b rest → ⊥
no_first_arm room bytes none a b rest h = elim h [ inl x ↦ none false a rest x.1 | inr x ↦ none true a x.0 x.1 ]

pub true_of : (e : Bool) → not e ≡ false → e ≡ true
true_of true t = refl
true_of false t = cc t

-- none where the second isn't there
pub no_second_arm : (room : ℕ) (bytes : List ℕ) (e : Bool) (body : Body) (middle : List ℕ) → not e ≡ false → SpellsBody room (closing e) bytes body middle
    → ((second : Body) (rest : List ℕ) → SpellsBody room end middle second rest → ⊥) → (a b : Body) (rest : List ℕ) → SpellsArms room bytes a b rest → ⊥
no_second_arm room bytes e body middle t h none a b rest s = elim s [
  | inl x ↦ else_is_no_end room bytes e body middle (true_of e t) h a rest x.1
  | inr x ↦ (let p = body_once room e bytes body middle h true a x.0 x.1 in none b rest (subst (λ l. SpellsBody room end l b rest) (sym p.2) x.2))
]
