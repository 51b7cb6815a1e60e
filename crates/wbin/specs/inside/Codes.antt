-- What the code gives for the body of a function.
use Rattle.std.specs.Prelude.{◌≡◌, ◌≢◌, ℕ, List, [], drop, Result, Ok, Err}
use Rattle.wcode.specs.declared.value.ValueType.{ValueType}
use Rattle.wcode.specs.declared.fault.BinFault.{BinFault}
use Rattle.wcode.specs.declared.fault.BinFault.TheVariants.{NoMemory}
use Rattle.wcode.specs.Grammar.{SpellsExpr}
use Rattle.wmodule.specs.declared.module.FunctionCode.{FunctionCode}
use Rattle.wmodule.specs.Syntax.{Code, code_in}
use Rattle.wmodule.specs.Grammar.{SpellsVector, SpellsRun, run_locals}
use Rattle.wmodule.specs.Placed.{IsCode}

-- the contents of a body, which fill the bytes: locals in runs, and an expression
pub record Fills (contents : List ℕ) (code : Code) : Type 0 where
  pub body : List ℕ
  pub runs : List (ℕ × ValueType)
  pub runs_spelled : SpellsVector SpellsRun contents runs body
  pub locals_are : code.locals ≡ run_locals runs
  pub spelled : SpellsExpr body code.body []

-- what is read for contents from the place on
unfoldable pub ReadsCode : List ℕ → ℕ → Result FunctionCode BinFault → Type 0
ReadsCode bytes at (Ok c) = Fills (drop at bytes) (code_in bytes c) × IsCode bytes c
ReadsCode bytes at (Err e) = e ≢ NoMemory → (code : Code) → Fills (drop at bytes) code → ⊥
