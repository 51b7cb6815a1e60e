use Rattle.std.proofs.Common.{map, take}
use Rattle.command.specs.Words.{syntax_of}
use Rattle.plugin.specs.Entries.{configurations_of}
use Rattle.site_modules.specs.Modules.{ArePlugins}
use Rattle.site_modules.proofs.kits.configured.Given as goal

-- the plugins so far are the first ones
abbrev pub invariant-loop-place : goal.invariant-loop-place
invariant-loop-place l = ArePlugins (take l.place (map syntax_of l.specs)) (take l.place (map (λ m. m.items) l.modules)) (configurations_of l.site.items)
