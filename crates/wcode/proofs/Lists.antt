-- What a reader has so far.
use Rattle.std.proofs.Common.{◌≡◌, ℕ, ◌+◌, ◌<◌, ◌≤◌, Bool, List, [], ◌∷◌, ◌++◌, length, drop, refl, ap, sym, subst, ◌∙◌, arith, length-append}
use Rattle.wcode.specs.declared.instruction.Instr.{Instr}
use Rattle.wcode.specs.Syntax.{Body, done, with_instr, body_of}
use Rattle.wcode.specs.Grammar.{SpellsIndex, SpellsIndices, SpellsWord, SpellsBody}
use Rattle.wcode.specs.inside.Ended.{closing, StandsFirst}
use Rattle.wcode.proofs.Words.{indices_push, indices_once, indices_next}
use Rattle.wcode.proofs.Items.{item_none, item_then, item_same}

-- instructions before what comes after them
abbrev pub onto : List Instr → Body → Body
onto [] next = next
onto (i ∷ is) next = with_instr i (onto is next)

onto_done : (is : List Instr) → onto is done ≡ body_of is
onto_done [] = refl
onto_done (i ∷ is) = ap (with_instr i) (onto_done is)

onto_push : (is : List Instr) (i : Instr) (next : Body) → onto is (with_instr i next) ≡ onto (is ++ i ∷ []) next
onto_push [] i next = refl
onto_push (j ∷ is) i next = ap (with_instr j) (onto_push is i next)

-- These instructions have been read of a body.
pub record HasItems (bytes : List ℕ) (room at : ℕ) (is : List Instr) (place : ℕ) : Type 0 where
  pub within : place ≤ length bytes
  pub stands : StandsFirst room (drop at bytes) (onto is) (drop place bytes)

pub no_items : (bytes : List ℕ) (room at : ℕ) → at ≤ length bytes → HasItems bytes room at [] at
no_items bytes room at h = record { within = h; stands = item_none room (drop at bytes) }

pub more_items : (bytes : List ℕ) (room at : ℕ) (is : List Instr) (place : ℕ) (i : Instr) (next : ℕ) → HasItems bytes room at is place → next ≤ length bytes
    → StandsFirst room (drop place bytes) (with_instr i) (drop next bytes) → HasItems bytes room at (is ++ i ∷ []) next
more_items bytes room at is place i next h p k = record {
  within = p;
  stands = item_same room (drop at bytes) (λ b. onto is (with_instr i b)) (onto (is ++ i ∷ [])) (drop next bytes) (onto_push is i)
      (item_then room (drop at bytes) (onto is) (with_instr i) (drop place bytes) (drop next bytes) h.stands k);
}

pub items_end : (bytes : List ℕ) (room at : ℕ) (is : List Instr) (place : ℕ) (e : Bool) (next : ℕ) → HasItems bytes room at is place
    → SpellsWord (drop place bytes) (closing e) (drop next bytes) → SpellsBody room (closing e) (drop at bytes) (body_of is) (drop next bytes)
unfolding SpellsBody
items_end bytes room at is place e next h w =
    let s = h.stands.sound (closing e) done (drop next bytes) w in
    subst (λ b. SpellsBody room (closing e) (drop at bytes) b (drop next bytes)) (onto_done is) s

-- These labels have been read.
pub record HasLabels (bytes : List ℕ) (at : ℕ) (labels : List ℕ) (place count : ℕ) : Type 0 where
  pub within : place ≤ length bytes
  pub counted : count ≡ length labels
  pub spelled : SpellsIndices (drop at bytes) labels (drop place bytes)

-- So many labels and a default label stand there.
abbrev pub Stands : List ℕ → ℕ → ℕ → Type 0
Stands bytes at all = (labels : List ℕ) × (default : ℕ) × (last rest : List ℕ) × (all ≡ length labels) × SpellsIndices (drop at bytes) labels last × SpellsIndex last default rest

pub no_labels : (bytes : List ℕ) (at : ℕ) → at ≤ length bytes → HasLabels bytes at [] at 0
unfolding SpellsIndices
no_labels bytes at h = record { within = h; counted = refl; spelled = refl }

pub more_labels : (bytes : List ℕ) (at : ℕ) (labels : List ℕ) (place count n next : ℕ) → HasLabels bytes at labels place count → next ≤ length bytes → SpellsIndex (drop place bytes) n (drop next bytes)
    → HasLabels bytes at (labels ++ n ∷ []) next (count + 1)
more_labels bytes at labels place count n next h p k = record {
  within = p;
  counted = omega (arith, h.counted, length-append labels (n ∷ []));
  spelled = indices_push (drop at bytes) labels (drop place bytes) n (drop next bytes) h.spelled k;
}

pub label_stands : (bytes : List ℕ) (at : ℕ) (labels : List ℕ) (place count all : ℕ) → HasLabels bytes at labels place count → count < all → Stands bytes at all
    → (n : ℕ) × (rest : List ℕ) × SpellsIndex (drop place bytes) n rest
label_stands bytes at labels place count all h k s = indices_next (drop at bytes) labels s.0 (drop place bytes) s.2 (omega (arith, h.counted, s.4)) h.spelled s.5

pub default_stands : (bytes : List ℕ) (at : ℕ) (labels : List ℕ) (place count : ℕ) → HasLabels bytes at labels place count → Stands bytes at count
    → (n : ℕ) × (rest : List ℕ) × SpellsIndex (drop place bytes) n rest
default_stands bytes at labels place count h s =
    let e = indices_once (drop at bytes) labels s.0 (drop place bytes) s.2 (sym h.counted ∙ s.4) h.spelled s.5 in
    (s.1, s.3, subst (λ l. SpellsIndex l s.1 s.3) (sym e.1) s.6)
