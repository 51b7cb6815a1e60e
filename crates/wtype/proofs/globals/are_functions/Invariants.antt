use Rattle.std.proofs.Common.{ℕ, ◌<◌, length, take}
use Rattle.std.specs.List.{AllByRecursion}
use Rattle.wmodule.specs.Syntax.{module_of}
use Rattle.wbody.specs.Context.{function_types}
use Rattle.wtype.proofs.globals.are_functions.Given as goal

-- those so far are
abbrev pub invariant-loop-index : goal.invariant-loop-index
invariant-loop-index l = AllByRecursion (λ (x : ℕ). x < length (function_types (module_of l.decoded))) (take l.index-index l.functions)
