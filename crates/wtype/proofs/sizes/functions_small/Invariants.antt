use Rattle.std.proofs.Common.{◌≡◌, ℕ, ◌<◌, Some}
use Rattle.std.specs.Prelude.{slice_get}
use Rattle.wmodule.specs.Syntax.{FunctionSyntax, module_of}
use Rattle.wtype.specs.Accepted.{FunctionSmall}
use Rattle.wtype.proofs.sizes.functions_small.Given as goal

-- each function so far is small enough
abbrev pub invariant-functions : goal.invariant-functions
invariant-functions l =
    (k : ℕ) (f : FunctionSyntax) → k < l.place → slice_get (module_of l.decoded).functions k ≡ Some f → FunctionSmall (module_of l.decoded) f
