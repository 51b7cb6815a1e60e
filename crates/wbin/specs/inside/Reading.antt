-- What the readers of a module's parts give.
use Rattle.std.specs.Prelude.{◌≡◌, ◌≢◌, ℕ, ◌≤◌, List, ◌++◌, length, drop, Result, Ok, Err}
use Rattle.wcode.specs.declared.fault.BinFault.{BinFault}
use Rattle.wcode.specs.declared.fault.BinFault.TheVariants.{NoMemory}
use Rattle.wmodule.specs.Grammar.{Spelling, SpellsEach}

-- nothing of the kind is spelled by the bytes
abbrev pub Nothing : {A : Type 0} → Spelling A → List ℕ → Type 0
Nothing {A} S bytes = (x : A) (rest : List ℕ) → S bytes x rest → ⊥

-- of each bytes at most one thing is spelled, and it ends at one place
abbrev pub Once : {A : Type 0} → Spelling A → Type 0
Once {A} S = (bytes : List ℕ) (x y : A) (rest more : List ℕ) → S bytes x rest → S bytes y more → (x ≡ y) × (rest ≡ more)

-- What is read from the place on: what the bytes spell there and where it ends, or, but for want of
-- memory, that they spell nothing.
unfoldable pub Reads : {A B : Type 0} → Spelling B → (A → B) → List ℕ → ℕ → Result (A × ℕ) BinFault → Type 0
Reads S seen bytes at (Ok x) = (x.1 ≤ length bytes) × S (drop at bytes) (seen x.0) (drop x.1 bytes)
Reads S seen bytes at (Err e) = e ≢ NoMemory → Nothing S (drop at bytes)

-- so many things, one after the other
abbrev pub SpellsMany : {A : Type 0} → ℕ → Spelling A → Spelling (List A)
SpellsMany count S bytes xs rest = (length xs ≡ count) × SpellsEach S bytes xs rest

-- one thing, and then another
abbrev pub SpellsBoth : {A B : Type 0} → Spelling A → Spelling B → Spelling (A × B)
SpellsBoth S T bytes x rest = (more : List ℕ) × S bytes x.0 more × T more x.1 rest

-- What has its places in bytes has them where more bytes follow, and is seen as the same there.
abbrev pub Keeps : {A B : Type 0} → (List ℕ → A → Type 0) → (List ℕ → A → B) → Type 0
Keeps {A} {B} placed seen = (bytes more : List ℕ) (x : A) → placed bytes x → placed (bytes ++ more) x × (seen (bytes ++ more) x ≡ seen bytes x)
