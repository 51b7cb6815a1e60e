use Rattle.std.proofs.Common.{map, take}
use Rattle.wmodule.specs.Syntax.{export_of}
use Rattle.wtype.specs.Accepted.{DistinctNames}
use Rattle.wtype.proofs.Names.{HasNames, OnlyNames}
use Rattle.wtype.proofs.exports.have_distinct_names.Given as goal

-- those so far have distinct names, and the set has each of them and no more
abbrev pub invariant-loop-export : goal.invariant-loop-export
invariant-loop-export l =
    DistinctNames (map export_of (take l.export-index l.exports))
    × HasNames l.names (map export_of (take l.export-index l.exports))
    × OnlyNames l.names (map export_of (take l.export-index l.exports))
