use Rattle.std.proofs.Common.{◌≡◌, map, drop}
use Rattle.wmodule.specs.Syntax.{export_of}
use Rattle.wtype.specs.Accepted.{export_named}
use Rattle.wtype.proofs.exports.find_export.Given as goal

-- it is looked for among those to come
abbrev pub invariant-loop-export : goal.invariant-loop-export
invariant-loop-export l =
    export_named l.name (map export_of l.exports) ≡ export_named l.name (map export_of (drop l.export-index l.exports))
