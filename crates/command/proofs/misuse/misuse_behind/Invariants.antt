use Rattle.std.proofs.Common.{◌≡◌, ◌+◌, map, drop}
use Rattle.command.specs.declared.misuse.ReadAs.TheVariants.{Anything}
use Rattle.command.specs.Misuse.{misuse_in}
use Rattle.command.proofs.misuse.misuse_behind.Given as goal

-- no word so far is wrong
abbrev pub invariant-loop-at : goal.invariant-loop-at
invariant-loop-at g l =
    misuse_in l.verb 2 Anything (map g.S.AsStr.text (drop 1 l.args)) ≡ misuse_in l.verb (l.at + 1) l.read_as (map g.S.AsStr.text (drop l.at l.args))
