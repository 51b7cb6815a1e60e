use Rattle.std.proofs.Common.{take}
use Rattle.std.specs.List.{AllByRecursion}
use Rattle.wmodule.specs.declared.module.Import.{Import}
use Rattle.wmodule.specs.Syntax.{module_of, import_of}
use Rattle.wtype.specs.Accepted.{ImportAllowed}
use Rattle.wtype.proofs.imports.are_allowed.Given as goal

-- those so far are allowed
abbrev pub invariant-loop-import : goal.invariant-loop-import
invariant-loop-import l =
    AllByRecursion (λ (i : Import). ImportAllowed (module_of l.decoded) (import_of i)) (take l.import-index l.imports)
