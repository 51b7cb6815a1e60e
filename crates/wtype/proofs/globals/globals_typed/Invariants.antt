use Rattle.std.proofs.Common.{take}
use Rattle.std.specs.List.{AllByRecursion}
use Rattle.wmodule.specs.declared.module.GlobalVariable.{GlobalVariable}
use Rattle.wmodule.specs.Syntax.{global_in}
use Rattle.wtype.specs.Accepted.{GlobalTyped}
use Rattle.wtype.proofs.globals.globals_typed.Given as goal

-- those so far are typed
abbrev pub invariant-loop-global : goal.invariant-loop-global
invariant-loop-global l = AllByRecursion (λ (x : GlobalVariable). GlobalTyped (global_in l.decoded.bytes x)) (take l.global-index l.globals)
