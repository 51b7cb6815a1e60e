-- A body that ends in `end` or `else` is the only one that stands there.
use Rattle.std.proofs.Common.{◌≡◌, ℕ, ◌-◌, ◌<◌, inl, inr, Bool, true, false, List, refl, ap, sym, subst, ◌∙◌}
use Rattle.wcode.specs.declared.value.BlockType.{BlockType}
use Rattle.wcode.specs.declared.opcode.Opening.TheVariants as openings
use Rattle.wcode.specs.Syntax.{Body, done, plain, block, loop, if_else, br_table}
use Rattle.wcode.specs.Grammar.{opens, end, SpellsWord, SpellsBody}
use Rattle.wcode.specs.inside.Ended.{closing, SpellsArms, NoBody, StandsFirst}
use Rattle.wcode.proofs.Unique.{word_once}
use Rattle.wcode.proofs.Items.{first, first_is, OnlyBody, item_plain, item_table, block_parts, loop_parts, if_parts}

-- only an empty body begins with the word that ends it
done_is : (d e : Bool) (body : Body) → closing d ≡ first (closing e) body → (d ≡ e) × (done ≡ body)
done_is true true done f = (refl, refl)
done_is true false done f = cc f
done_is true e (plain p next) f = cc f
done_is true e (block t inner next) f = cc f
done_is true e (loop t inner next) f = cc f
done_is true e (if_else t yes_arm no_arm next) f = cc f
done_is true e (br_table labels default next) f = cc f
done_is false true done f = cc f
done_is false false done f = (refl, refl)
done_is false e (plain p next) f = cc f
done_is false e (block t inner next) f = cc f
done_is false e (loop t inner next) f = cc f
done_is false e (if_else t yes_arm no_arm next) f = cc f
done_is false e (br_table labels default next) f = cc f

done_once : (room : ℕ) (d : Bool) (bytes rest : List ℕ) → SpellsWord bytes (closing d) rest → (e : Bool) (body : Body) (more : List ℕ)
    → (d ≡ e) × (done ≡ body) → SpellsBody room (closing e) bytes body more → rest ≡ more
unfolding SpellsBody
done_once room d bytes rest w e body more p h =
    let k = subst (λ b. SpellsBody room (closing e) bytes b more) (sym p.1) h in (word_once bytes (closing d) (closing e) rest more w k).1

pub body_once : (room : ℕ) (d : Bool) (bytes : List ℕ) (body : Body) (rest : List ℕ) → SpellsBody room (closing d) bytes body rest → OnlyBody room d bytes body rest
unfolding SpellsBody
body_once room d bytes done rest h e other more s =
    let p = done_is d e other (first_is room (closing e) bytes other more (closing d) rest h s) in
    (p.0, p.1, done_once room d bytes rest h e other more p s)
body_once room d bytes (plain q next) rest h e other more s =
    let p = (item_plain room bytes q h.0 h.1).only e other more s in
    let r = body_once room d h.0 next rest h.2 e p.0 more p.2 in
    (r.0, ap (plain q) r.1 ∙ sym p.1, r.2)
body_once room d bytes (block t inner next) rest h e other more s =
    let p = block_parts room bytes t h.1 h.3 e other more s (first_is room (closing e) bytes other more (opens openings.Block t) h.1 h.3 s) in
    let i = body_once (room - 1) false h.1 inner h.2 h.4 false p.1 p.3 p.5 in
    let r = body_once room d h.2 next rest h.5 e p.2 more (subst (λ l. SpellsBody room (closing e) l p.2 more) (sym i.2) p.6) in
    (r.0, ap (λ x. block t x next) i.1 ∙ ap (block t p.1) r.1 ∙ sym p.4, r.2)
body_once room d bytes (loop t inner next) rest h e other more s =
    let p = loop_parts room bytes t h.1 h.3 e other more s (first_is room (closing e) bytes other more (opens openings.Loop t) h.1 h.3 s) in
    let i = body_once (room - 1) false h.1 inner h.2 h.4 false p.1 p.3 p.5 in
    let r = body_once room d h.2 next rest h.5 e p.2 more (subst (λ l. SpellsBody room (closing e) l p.2 more) (sym i.2) p.6) in
    (r.0, ap (λ x. loop t x next) i.1 ∙ ap (loop t p.1) r.1 ∙ sym p.4, r.2)
body_once room d bytes (if_else t yes_arm no_arm next) rest h e other more s =
    let p = if_parts room bytes t h.1 h.3 e other more s (first_is room (closing e) bytes other more (opens openings.If t) h.1 h.3 s) in
    let i : (yes_arm ≡ p.1) × (no_arm ≡ p.2) × (h.2 ≡ p.4) = elim h.4 [
      | inl a ↦ elim p.6 [
        | inl b ↦ (let x = body_once (room - 1) false h.1 yes_arm h.2 a.1 false p.1 p.4 b.1 in (x.1, a.0 ∙ sym b.0, x.2))
        | inr b ↦ (let x = body_once (room - 1) false h.1 yes_arm h.2 a.1 true p.1 b.0 b.1 in cc (x.0))
      ]
      | inr a ↦ elim p.6 [
        | inl b ↦ (let x = body_once (room - 1) true h.1 yes_arm a.0 a.1 false p.1 p.4 b.1 in cc (x.0))
        | inr b ↦ (
            let x = body_once (room - 1) true h.1 yes_arm a.0 a.1 true p.1 b.0 b.1 in
            let y = body_once (room - 1) false a.0 no_arm h.2 a.2 false p.2 p.4 (subst (λ l. SpellsBody (room - 1) end l p.2 p.4) (sym x.2) b.2) in
            (x.1, y.1, y.2))
      ]
    ] in
    let r = body_once room d h.2 next rest h.5 e p.3 more (subst (λ l. SpellsBody room (closing e) l p.3 more) (sym i.2) p.7) in
    (r.0, ap (λ x. if_else t x no_arm next) i.0 ∙ ap (λ x. if_else t p.1 x next) i.1 ∙ ap (if_else t p.1 p.2) r.1 ∙ sym p.5, r.2)
body_once room d bytes (br_table labels default next) rest h e other more s =
    let p = (item_table room bytes labels default h.0 h.1).only e other more s in
    let r = body_once room d h.0 next rest h.2 e p.0 more p.2 in
    (r.0, ap (br_table labels default) r.1 ∙ sym p.1, r.2)

-- a block at the front
pub item_block : (room : ℕ) (bytes : List ℕ) (t : BlockType) (more : List ℕ) (inner : Body) (rest : List ℕ) → 0 < room → SpellsWord bytes (opens openings.Block t) more
    → SpellsBody (room - 1) end more inner rest → StandsFirst room bytes (block t inner) rest
unfolding SpellsBody
item_block room bytes t more inner rest r w i = record {
  sound = λ last body after h. (r, more, rest, w, i, h);
  only = λ e body after h. (
      let p = block_parts room bytes t more w e body after h (first_is room (closing e) bytes body after (opens openings.Block t) more w h) in
      let q = body_once (room - 1) false more inner rest i false p.1 p.3 p.5 in
      (p.2, p.4 ∙ ap (λ x. block t x p.2) (sym q.1), subst (λ l. SpellsBody room (closing e) l p.2 after) (sym q.2) p.6));
}

-- a loop at the front
pub item_loop : (room : ℕ) (bytes : List ℕ) (t : BlockType) (more : List ℕ) (inner : Body) (rest : List ℕ) → 0 < room → SpellsWord bytes (opens openings.Loop t) more
    → SpellsBody (room - 1) end more inner rest → StandsFirst room bytes (loop t inner) rest
unfolding SpellsBody
item_loop room bytes t more inner rest r w i = record {
  sound = λ last body after h. (r, more, rest, w, i, h);
  only = λ e body after h. (
      let p = loop_parts room bytes t more w e body after h (first_is room (closing e) bytes body after (opens openings.Loop t) more w h) in
      let q = body_once (room - 1) false more inner rest i false p.1 p.3 p.5 in
      (p.2, p.4 ∙ ap (λ x. loop t x p.2) (sym q.1), subst (λ l. SpellsBody room (closing e) l p.2 after) (sym q.2) p.6));
}

-- the bodies of an `if` are the only ones there
pub arms_once : (room : ℕ) (bytes : List ℕ) (a b c d : Body) (rest more : List ℕ) → SpellsArms room bytes a b rest → SpellsArms room bytes c d more → (a ≡ c) × (b ≡ d) × (rest ≡ more)
arms_once room bytes a b c d rest more h k = elim h [
  | inl x ↦ elim k [
    | inl y ↦ (let p = body_once room false bytes a rest x.1 false c more y.1 in (p.1, x.0 ∙ sym y.0, p.2))
    | inr y ↦ (let p = body_once room false bytes a rest x.1 true c y.0 y.1 in cc (p.0))
  ]
  | inr x ↦ elim k [
    | inl y ↦ (let p = body_once room true bytes a x.0 x.1 false c more y.1 in cc (p.0))
    | inr y ↦ (
        let p = body_once room true bytes a x.0 x.1 true c y.0 y.1 in
        let q = body_once room false x.0 b rest x.2 false d more (subst (λ l. SpellsBody room end l d more) (sym p.2) y.2) in
        (p.1, q.1, q.2))
  ]
]

-- an `if` at the front
pub item_if : (room : ℕ) (bytes : List ℕ) (t : BlockType) (more : List ℕ) (a b : Body) (rest : List ℕ) → 0 < room → SpellsWord bytes (opens openings.If t) more
    → SpellsArms (room - 1) more a b rest → StandsFirst room bytes (if_else t a b) rest
unfolding SpellsBody
item_if room bytes t more a b rest r w i = record {
  sound = λ last body after h. (r, more, rest, w, i, h);
  only = λ e body after h. (
      let p = if_parts room bytes t more w e body after h (first_is room (closing e) bytes body after (opens openings.If t) more w h) in
      let q = arms_once (room - 1) more a b p.1 p.2 rest p.4 i p.6 in
      (p.3, p.5 ∙ ap (λ x. if_else t x p.2 p.3) (sym q.0) ∙ ap (λ x. if_else t a x p.3) (sym q.1), subst (λ l. SpellsBody room (closing e) l p.3 after) (sym q.2) p.7));
}

-- nothing stands where what is inside a block doesn't
pub no_block : (room : ℕ) (bytes : List ℕ) (t : BlockType) (more : List ℕ) → SpellsWord bytes (opens openings.Block t) more
    → (0 < room → (inner : Body) (rest : List ℕ) → SpellsBody (room - 1) end more inner rest → ⊥) → NoBody room bytes
no_block room bytes t more w none e body after h =
    let p = block_parts room bytes t more w e body after h (first_is room (closing e) bytes body after (opens openings.Block t) more w h) in none p.0 p.1 p.3 p.5

pub no_loop : (room : ℕ) (bytes : List ℕ) (t : BlockType) (more : List ℕ) → SpellsWord bytes (opens openings.Loop t) more
    → (0 < room → (inner : Body) (rest : List ℕ) → SpellsBody (room - 1) end more inner rest → ⊥) → NoBody room bytes
no_loop room bytes t more w none e body after h =
    let p = loop_parts room bytes t more w e body after h (first_is room (closing e) bytes body after (opens openings.Loop t) more w h) in none p.0 p.1 p.3 p.5

pub no_if : (room : ℕ) (bytes : List ℕ) (t : BlockType) (more : List ℕ) → SpellsWord bytes (opens openings.If t) more
    → (0 < room → (a b : Body) (rest : List ℕ) → SpellsArms (room - 1) more a b rest → ⊥) → NoBody room bytes
no_if room bytes t more w none e body after h =
    let p = if_parts room bytes t more w e body after h (first_is room (closing e) bytes body after (opens openings.If t) more w h) in none p.0 p.1 p.2 p.4 p.6
