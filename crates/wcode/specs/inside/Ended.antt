-- What the code gives for a body and for what is inside it.
use Rattle.std.specs.Prelude.{◌≡◌, ◌≢◌, ℕ, ◌<◌, ◌≤◌, ◌⊎◌, Bool, true, false, List, length, drop, Result, Ok, Err}
use Rattle.wcode.specs.declared.fault.BinFault.{BinFault}
use Rattle.wcode.specs.declared.fault.BinFault.TheVariants.{NoMemory}
use Rattle.wcode.specs.declared.expression.Item.TheVariants as items
use Rattle.wcode.specs.declared.expression.Item.{Item}
use Rattle.wcode.specs.declared.expression.Ended.{Ended}
use Rattle.wcode.specs.Syntax.{Body, done, with_instr, body_of}
use Rattle.wcode.specs.Grammar.{Word, otherwise, end, SpellsWord, SpellsBody}

-- the word that ends a body: `else` or `end`
abbrev pub closing : Bool → Word
closing true = otherwise
closing false = end

-- The bodies of an `if`: one that ends it, or one up to its `else` and one that ends it. An absent
-- one is empty.
abbrev pub SpellsArms : ℕ → List ℕ → Body → Body → List ℕ → Type 0
SpellsArms room bytes yes_arm no_arm rest =
    ((no_arm ≡ done) × SpellsBody room end bytes yes_arm rest)
    ⊎ ((middle : List ℕ) × SpellsBody room otherwise bytes yes_arm middle × SpellsBody room end middle no_arm rest)

-- No body that ends in `end` or `else` stands there.
abbrev pub NoBody : ℕ → List ℕ → Type 0
NoBody room bytes = (e : Bool) (body : Body) (rest : List ℕ) → SpellsBody room (closing e) bytes body rest → ⊥

-- These instructions stand at the front of each body that stands there, and whatever comes after
-- them can follow.
pub record StandsFirst (room : ℕ) (bytes : List ℕ) (f : Body → Body) (rest : List ℕ) : Type 0 where
  pub sound : (last : Word) (body : Body) (after : List ℕ) → SpellsBody room last rest body after → SpellsBody room last bytes (f body) after
  pub only : (e : Bool) (body : Body) (after : List ℕ) → SpellsBody room (closing e) bytes body after
      → (next : Body) × (body ≡ f next) × SpellsBody room (closing e) rest next after

-- what is read for a body from the place on
unfoldable pub GivesBody : List ℕ → ℕ → ℕ → Result Ended BinFault → Type 0
GivesBody bytes room at (Ok x) = (x.next ≤ length bytes) × SpellsBody room (closing x.by_else) (drop at bytes) (body_of x.body.items) (drop x.next bytes)
GivesBody bytes room at (Err e) = e ≢ NoMemory → NoBody room (drop at bytes)

-- what is read for an instruction, or for what ends a body
unfoldable pub GivesItem : List ℕ → ℕ → ℕ → Result Item BinFault → Type 0
GivesItem bytes room at (Ok (items.One i next)) = (next ≤ length bytes) × (at < next) × StandsFirst room (drop at bytes) (with_instr i) (drop next bytes)
GivesItem bytes room at (Ok (items.Ends by_else next)) = (next ≤ length bytes) × SpellsWord (drop at bytes) (closing by_else) (drop next bytes)
GivesItem bytes room at (Err e) = e ≢ NoMemory → NoBody room (drop at bytes)
