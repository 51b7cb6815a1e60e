use Rattle.std.proofs.Common.{take}
use Rattle.std.specs.List.{AllByRecursion}
use Rattle.wmodule.specs.declared.module.DataSegment.{DataSegment}
use Rattle.wmodule.specs.Syntax.{module_of, data_in}
use Rattle.wtype.specs.Accepted.{DataTyped}
use Rattle.wtype.proofs.globals.datas_typed.Given as goal

-- those so far are typed
abbrev pub invariant-loop-segment : goal.invariant-loop-segment
invariant-loop-segment l = AllByRecursion (λ (x : DataSegment). DataTyped (module_of l.decoded) (data_in l.decoded.bytes x)) (take l.segment-index l.segments)
