-- What the code gives for whole sections and for all of them.
use Rattle.std.specs.Prelude.{◌≡◌, ◌≢◌, ℕ, List, Option, None, Result, Ok, Err}
use Rattle.wcode.specs.declared.fault.BinFault.{BinFault}
use Rattle.wcode.specs.declared.fault.BinFault.TheVariants.{NoMemory}
use Rattle.wmodule.specs.declared.module.Tables.{Tables}
use Rattle.wmodule.specs.Syntax.{ModuleSyntax, syntax_in}
use Rattle.wmodule.specs.Placed.{Places}
use Rattle.wmodule.specs.Grammar.{Section, Assembles}

-- what is read is the case, or, but for want of memory, nothing is
unfoldable pub ReadsWhole : {A B : Type 0} → (B → Type 0) → (A → B) → Result A BinFault → Type 0
ReadsWhole Is seen (Ok x) = Is (seen x)
ReadsWhole {A} {B} Is seen (Err e) = e ≢ NoMemory → (x : B) → Is x → ⊥

-- what is read for the sections of an outline in these bytes: tables where it has no fault
unfoldable pub AssemblesTo : List ℕ → List Section → Option BinFault → Result Tables BinFault → Type 0
AssemblesTo bytes sections fault (Ok t) = (fault ≡ None) × Assembles sections (syntax_in bytes t) × Places bytes t
AssemblesTo bytes sections fault (Err e) = e ≢ NoMemory → fault ≡ None → (m : ModuleSyntax) → Assembles sections m → ⊥
