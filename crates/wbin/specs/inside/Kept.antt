-- What has its places in bytes has them where more bytes follow.
use Rattle.std.proofs.Common.{◌≡◌, ℕ, suc, ◌≤◌, All, List, [], ◌∷◌, ◌++◌, map, length, drop, refl, ap, sym, subst, ◌∙◌, arith, length-append}
use Rattle.std.proofs.lemmas.List.{take-append-le}
use Rattle.wcode.specs.declared.blocks.Block.{Block}
use Rattle.wcode.specs.Grammar.{end}
use Rattle.wcode.specs.Blocks.{HasBlocks}
use Rattle.wcode.proofs.BlockLists.{blocks_spell}
use Rattle.wcode.proofs.BodyRead.{body_is}
use Rattle.wcode.proofs.Longer.{blocks_longer}
use Rattle.wmodule.specs.declared.module.Place.{Place}
use Rattle.wmodule.specs.Syntax.{GlobalSyntax, ElementSyntax, DataSyntax, Code, locals_of, expression_in, contents_in, code_in, global_in, element_in, data_in}
use Rattle.wmodule.specs.Placed.{StandsAt, IsExpression, IsStretch, IsCode, IsGlobal, IsElement, IsData}
use Rattle.wbin.specs.inside.Reading.{Keeps}

pub plain_kept : {A B : Type 0} (seen : A → B) → Keeps (λ bytes (x : A). Unit {0}) (λ bytes x. seen x)
plain_kept seen bytes more x h = (tt, refl)

pub all_kept : {A B : Type 0} (placed : List ℕ → A → Type 0) (seen : List ℕ → A → B) → Keeps placed seen → (bytes more : List ℕ) (xs : List A) → All (placed bytes) xs
    → All (placed (bytes ++ more)) xs × (map (seen (bytes ++ more)) xs ≡ map (seen bytes) xs)
all_kept placed seen keeps bytes more [] h = ((λ k d l. absurd (omega (arith, l))), refl)
all_kept {A} {B} placed seen keeps bytes more (x ∷ xs) h =
    let p = keeps bytes more x (h 0 x (omega arith)) in
    let q = all_kept placed seen keeps bytes more xs (λ k d l. h (suc k) d (omega arith)) in
    ((λ k d l. (keeps bytes more _ (h k d l)).0), ap (λ y. y ∷ map (seen (bytes ++ more)) xs) p.1 ∙ ap (λ ys. seen bytes x ∷ ys) q.1)

pub both_kept : {A B C D : Type 0} (placed : List ℕ → A → Type 0) (seen : List ℕ → A → C) → Keeps placed seen → (placed_too : List ℕ → B → Type 0) (seen_too : List ℕ → B → D) → Keeps placed_too seen_too
    → Keeps {A = A × B} {B = C × D} (λ bytes x. placed bytes x.0 × placed_too bytes x.1) (λ bytes x. (seen bytes x.0, seen_too bytes x.1))
both_kept {A} {B} {C} {D} placed seen keeps placed_too seen_too keeps_too bytes more x h =
    let p = keeps bytes more x.0 h.0 in
    let q = keeps_too bytes more x.1 h.1 in
    ((p.0, q.0), ap (λ (y : C). (y, seen_too (bytes ++ more) x.1)) p.1 ∙ ap (λ (y : D). (seen bytes x.0, y)) q.1)

pub stands_kept : (bytes more : List ℕ) (place : Place) (blocks : List Block) → StandsAt bytes place blocks
    → StandsAt (bytes ++ more) place blocks × (expression_in (bytes ++ more) place ≡ expression_in bytes place)
stands_kept bytes more place blocks h =
    let b = expression_in bytes place in
    let begun : place.begin ≤ length bytes = omega (arith, h.some, h.within) in
    let k = blocks_longer bytes place.begin place.end b blocks more begun h.within h.spelled in
    let e : expression_in (bytes ++ more) place ≡ b =
    body_is (drop place.begin (bytes ++ more)) b (drop place.end (bytes ++ more))
    (blocks_spell (bytes ++ more) 256 end (drop place.begin (bytes ++ more)) b (drop place.end (bytes ++ more)) blocks k) in (
      record {
        some = h.some;
        within = omega (arith, h.within, length-append bytes more);
        spelled = subst (λ x. HasBlocks (bytes ++ more) place.begin x place.end blocks) (sym e) k;
      },
      e,
    )

pub expression_kept : Keeps IsExpression expression_in
expression_kept bytes more place h = let p = stands_kept bytes more place h.0 h.1 in ((h.0, p.0), p.1)

pub stretch_kept : Keeps IsStretch contents_in
stretch_kept bytes more place h =
    ((h.0, omega (arith, h.1, length-append bytes more)), ap (drop place.begin) (take-append-le place.end bytes more h.1))

pub code_kept : Keeps IsCode code_in
code_kept bytes more c h =
    let p = stands_kept bytes more c.body c.blocks.items h in
    (p.0, ap (λ b. let x : Code = record { locals = locals_of c.locals.items; body = b } in x) p.1)

pub global_kept : Keeps IsGlobal global_in
global_kept bytes more g h =
    let p = expression_kept bytes more g.first h in
    (p.0, ap (λ b. let x : GlobalSyntax = record { kind = g.kind; first = b } in x) p.1)

pub element_kept : Keeps IsElement element_in
element_kept bytes more s h =
    let p = expression_kept bytes more s.offset h in
    (p.0, ap (λ b. let x : ElementSyntax = record { table = s.table; offset = b; functions = s.functions.items } in x) p.1)

pub data_kept : Keeps IsData data_in
data_kept bytes more s h =
    let p = expression_kept bytes more s.offset h.0 in
    let q = stretch_kept bytes more s.contents h.1 in (
      (p.0, q.0),
      ap (λ b. let x : DataSyntax = record { memory = s.memory; offset = b; bytes = contents_in (bytes ++ more) s.contents } in x) p.1
          ∙ ap (λ b. let x : DataSyntax = record { memory = s.memory; offset = expression_in bytes s.offset; bytes = b } in x) q.1,
    )
