use Rattle.std.proofs.Common.{take}
use Rattle.std.specs.List.{AllByRecursion}
use Rattle.wmodule.specs.declared.module.Export.{Export}
use Rattle.wmodule.specs.Syntax.{module_of}
use Rattle.wtype.specs.Accepted.{NamesSomething}
use Rattle.wtype.proofs.exports.are_there.Given as goal

-- those so far name something
abbrev pub invariant-loop-export : goal.invariant-loop-export
invariant-loop-export l =
    AllByRecursion (λ (e : Export). NamesSomething (module_of l.decoded) e.kind e.index) (take l.export-index l.exports)
