use Rattle.std.proofs.Common.{take}
use Rattle.std.specs.List.{AllByRecursion}
use Rattle.wmodule.specs.declared.module.ElementSegment.{ElementSegment}
use Rattle.wmodule.specs.Syntax.{module_of, element_in}
use Rattle.wtype.specs.Accepted.{ElementTyped}
use Rattle.wtype.proofs.globals.elements_typed.Given as goal

-- those so far are typed
abbrev pub invariant-loop-segment : goal.invariant-loop-segment
invariant-loop-segment l = AllByRecursion (λ (x : ElementSegment). ElementTyped (module_of l.decoded) (element_in l.decoded.bytes x)) (take l.segment-index l.segments)
