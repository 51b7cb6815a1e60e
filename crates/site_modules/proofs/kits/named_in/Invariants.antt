use Rattle.std.proofs.Common.{◌≡◌, map, take}
use Rattle.command.specs.Words.{syntax_of}
use Rattle.site_modules.specs.Modules.{named_of}
use Rattle.site_modules.proofs.kits.named_in.Given as goal

-- the rules so far are those of the first plugins
abbrev pub invariant-loop-place : goal.invariant-loop-place
invariant-loop-place l = l.named.items ≡ named_of (take l.place (map syntax_of l.specs))
