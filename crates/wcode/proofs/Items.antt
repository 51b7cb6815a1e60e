-- Instructions at the front of a body.
use Rattle.std.proofs.Common.{◌≡◌, ℕ, ◌-◌, ◌<◌, Bool, true, false, List, refl, ap, sym, subst, ◌∙◌}
use Rattle.wcode.specs.declared.value.BlockType.{BlockType}
use Rattle.wcode.specs.declared.instruction.Plain.{Plain}
use Rattle.wcode.specs.declared.opcode.Opening.TheVariants as openings
use Rattle.wcode.specs.Syntax.{Body, done, plain, block, loop, if_else, br_table}
use Rattle.wcode.specs.Grammar.{Word, one, opens, end, table, SpellsWord, SpellsBody}
use Rattle.wcode.specs.inside.Ended.{closing, SpellsArms, NoBody, StandsFirst}
use Rattle.wcode.proofs.Unique.{word_once}

-- the word that a body begins with, where it is ended by this one
abbrev pub first : Word → Body → Word
first last done = last
first last (plain p next) = one p
first last (block t inner next) = opens openings.Block t
first last (loop t inner next) = opens openings.Loop t
first last (if_else t yes_arm no_arm next) = opens openings.If t
first last (br_table labels default next) = table labels default

-- a body begins with its word
pub first_spelled : (room : ℕ) (last : Word) (bytes : List ℕ) (body : Body) (rest : List ℕ) → SpellsBody room last bytes body rest → (more : List ℕ) × SpellsWord bytes (first last body) more
unfolding SpellsBody
first_spelled room last bytes done rest h = (rest, h)
first_spelled room last bytes (plain p next) rest h = (h.0, h.1)
first_spelled room last bytes (block t inner next) rest h = (h.1, h.3)
first_spelled room last bytes (loop t inner next) rest h = (h.1, h.3)
first_spelled room last bytes (if_else t yes_arm no_arm next) rest h = (h.1, h.3)
first_spelled room last bytes (br_table labels default next) rest h = (h.0, h.1)

-- the word at the front is the body's first
pub first_is : (room : ℕ) (last : Word) (bytes : List ℕ) (body : Body) (rest : List ℕ) (w : Word) (more : List ℕ) → SpellsWord bytes w more → SpellsBody room last bytes body rest → w ≡ first last body
first_is room last bytes body rest w more h k =
    let p = first_spelled room last bytes body rest k in (word_once bytes w (first last body) more p.0 h p.1).0

pub no_body : (room : ℕ) (bytes : List ℕ) → ((w : Word) (rest : List ℕ) → SpellsWord bytes w rest → ⊥) → NoBody room bytes
no_body room bytes none e body rest h = let p = first_spelled room (closing e) bytes body rest h in none (first (closing e) body) p.0 p.1

pub item_none : (room : ℕ) (bytes : List ℕ) → StandsFirst room bytes (λ b. b) bytes
item_none room bytes = record { sound = λ last body after h. h; only = λ e body after h. (body, refl, h) }

pub item_then : (room : ℕ) (bytes : List ℕ) (f g : Body → Body) (more rest : List ℕ) → StandsFirst room bytes f more → StandsFirst room more g rest → StandsFirst room bytes (λ b. f (g b)) rest
item_then room bytes f g more rest h k = record {
  sound = λ last body after s. h.sound last (g body) after (k.sound last body after s);
  only = λ e body after s. (
      let p = h.only e body after s in
      let q = k.only e p.0 after p.2 in
      (q.0, p.1 ∙ ap f q.1, q.2));
}

-- the same for an equal function
pub item_same : (room : ℕ) (bytes : List ℕ) (f g : Body → Body) (rest : List ℕ) → ((b : Body) → f b ≡ g b) → StandsFirst room bytes f rest → StandsFirst room bytes g rest
item_same room bytes f g rest e h = record {
  sound = λ last body after s. subst (λ x. SpellsBody room last bytes x after) (e body) (h.sound last body after s);
  only = λ d body after s. (let p = h.only d body after s in (p.0, p.1 ∙ e p.0, p.2));
}

-- a body that ends is the only one there
abbrev pub OnlyBody : ℕ → Bool → List ℕ → Body → List ℕ → Type 0
OnlyBody room d bytes body rest = (e : Bool) (other : Body) (more : List ℕ) → SpellsBody room (closing e) bytes other more → (d ≡ e) × (body ≡ other) × (rest ≡ more)

plain_only : (room : ℕ) (bytes : List ℕ) (p : Plain) (rest : List ℕ) → SpellsWord bytes (one p) rest → (e : Bool) (body : Body) (after : List ℕ)
    → SpellsBody room (closing e) bytes body after → one p ≡ first (closing e) body → (next : Body) × (body ≡ plain p next) × SpellsBody room (closing e) rest next after
unfolding SpellsBody
plain_only room bytes p rest w true done after h f = cc f
plain_only room bytes p rest w false done after h f = cc f
plain_only room bytes p rest w e (plain q next) after h f =
    let g : q ≡ p = cc f in
    let r = (word_once bytes (one p) (one q) rest h.0 w h.1).1 in
    (next, ap (λ x. plain x next) g, subst (λ l. SpellsBody room (closing e) l next after) (sym r) h.2)
plain_only room bytes p rest w e (block t inner next) after h f = cc f
plain_only room bytes p rest w e (loop t inner next) after h f = cc f
plain_only room bytes p rest w e (if_else t yes_arm no_arm next) after h f = cc f
plain_only room bytes p rest w e (br_table labels default next) after h f = cc f

pub item_plain : (room : ℕ) (bytes : List ℕ) (p : Plain) (rest : List ℕ) → SpellsWord bytes (one p) rest → StandsFirst room bytes (plain p) rest
unfolding SpellsBody
item_plain room bytes p rest w = record {
  sound = λ last body after h. (rest, w, h);
  only = λ e body after h. plain_only room bytes p rest w e body after h (first_is room (closing e) bytes body after (one p) rest w h);
}

table_only : (room : ℕ) (bytes labels : List ℕ) (default : ℕ) (rest : List ℕ) → SpellsWord bytes (table labels default) rest → (e : Bool) (body : Body) (after : List ℕ)
    → SpellsBody room (closing e) bytes body after → table labels default ≡ first (closing e) body → (next : Body) × (body ≡ br_table labels default next) × SpellsBody room (closing e) rest next after
unfolding SpellsBody
table_only room bytes labels default rest w true done after h f = cc f
table_only room bytes labels default rest w false done after h f = cc f
table_only room bytes labels default rest w e (plain q next) after h f = cc f
table_only room bytes labels default rest w e (block t inner next) after h f = cc f
table_only room bytes labels default rest w e (loop t inner next) after h f = cc f
table_only room bytes labels default rest w e (if_else t yes_arm no_arm next) after h f = cc f
table_only room bytes labels default rest w e (br_table others other next) after h f =
    let g : others ≡ labels = cc f in
    let k : other ≡ default = cc f in
    let r = (word_once bytes (table labels default) (table others other) rest h.0 w h.1).1 in
    (next, ap (λ x. br_table x other next) g ∙ ap (λ x. br_table labels x next) k, subst (λ l. SpellsBody room (closing e) l next after) (sym r) h.2)

pub item_table : (room : ℕ) (bytes labels : List ℕ) (default : ℕ) (rest : List ℕ) → SpellsWord bytes (table labels default) rest → StandsFirst room bytes (br_table labels default) rest
unfolding SpellsBody
item_table room bytes labels default rest w = record {
  sound = λ last body after h. (rest, w, h);
  only = λ e body after h. table_only room bytes labels default rest w e body after h (first_is room (closing e) bytes body after (table labels default) rest w h);
}

-- what a block must be, where one is opened
pub block_parts : (room : ℕ) (bytes : List ℕ) (t : BlockType) (more : List ℕ) → SpellsWord bytes (opens openings.Block t) more → (e : Bool) (body : Body) (after : List ℕ)
    → SpellsBody room (closing e) bytes body after → opens openings.Block t ≡ first (closing e) body
    → (0 < room) × (inner next : Body) × (middle : List ℕ) × (body ≡ block t inner next) × SpellsBody (room - 1) end more inner middle × SpellsBody room (closing e) middle next after
unfolding SpellsBody
block_parts room bytes t more w true done after h f = cc f
block_parts room bytes t more w false done after h f = cc f
block_parts room bytes t more w e (plain q next) after h f = cc f
block_parts room bytes t more w e (block u inner next) after h f =
    let g : u ≡ t = cc f in
    let r = (word_once bytes (opens openings.Block t) (opens openings.Block u) more h.1 w h.3).1 in
    (h.0, inner, next, h.2, ap (λ x. block x inner next) g, subst (λ l. SpellsBody (room - 1) end l inner h.2) (sym r) h.4, h.5)
block_parts room bytes t more w e (loop u inner next) after h f = cc f
block_parts room bytes t more w e (if_else u yes_arm no_arm next) after h f = cc f
block_parts room bytes t more w e (br_table labels default next) after h f = cc f

pub loop_parts : (room : ℕ) (bytes : List ℕ) (t : BlockType) (more : List ℕ) → SpellsWord bytes (opens openings.Loop t) more → (e : Bool) (body : Body) (after : List ℕ)
    → SpellsBody room (closing e) bytes body after → opens openings.Loop t ≡ first (closing e) body
    → (0 < room) × (inner next : Body) × (middle : List ℕ) × (body ≡ loop t inner next) × SpellsBody (room - 1) end more inner middle × SpellsBody room (closing e) middle next after
unfolding SpellsBody
loop_parts room bytes t more w true done after h f = cc f
loop_parts room bytes t more w false done after h f = cc f
loop_parts room bytes t more w e (plain q next) after h f = cc f
loop_parts room bytes t more w e (loop u inner next) after h f =
    let g : u ≡ t = cc f in
    let r = (word_once bytes (opens openings.Loop t) (opens openings.Loop u) more h.1 w h.3).1 in
    (h.0, inner, next, h.2, ap (λ x. loop x inner next) g, subst (λ l. SpellsBody (room - 1) end l inner h.2) (sym r) h.4, h.5)
loop_parts room bytes t more w e (block u inner next) after h f = cc f
loop_parts room bytes t more w e (if_else u yes_arm no_arm next) after h f = cc f
loop_parts room bytes t more w e (br_table labels default next) after h f = cc f

pub if_parts : (room : ℕ) (bytes : List ℕ) (t : BlockType) (more : List ℕ) → SpellsWord bytes (opens openings.If t) more → (e : Bool) (body : Body) (after : List ℕ)
    → SpellsBody room (closing e) bytes body after → opens openings.If t ≡ first (closing e) body
    → (0 < room) × (yes_arm no_arm next : Body) × (middle : List ℕ) × (body ≡ if_else t yes_arm no_arm next) × SpellsArms (room - 1) more yes_arm no_arm middle × SpellsBody room (closing e) middle next after
unfolding SpellsBody
if_parts room bytes t more w true done after h f = cc f
if_parts room bytes t more w false done after h f = cc f
if_parts room bytes t more w e (plain q next) after h f = cc f
if_parts room bytes t more w e (if_else u yes_arm no_arm next) after h f =
    let g : u ≡ t = cc f in
    let r = (word_once bytes (opens openings.If t) (opens openings.If u) more h.1 w h.3).1 in
    (h.0, yes_arm, no_arm, next, h.2, ap (λ x. if_else x yes_arm no_arm next) g, subst (λ l. SpellsArms (room - 1) l yes_arm no_arm h.2) (sym r) h.4, h.5)
if_parts room bytes t more w e (block u inner next) after h f = cc f
if_parts room bytes t more w e (loop u inner next) after h f = cc f
if_parts room bytes t more w e (br_table labels default next) after h f = cc f
