use Rattle.std.proofs.Common.{◌≡◌, map, take}
use Rattle.command.specs.Words.{syntax_of}
use Rattle.site_modules.specs.Modules.{AreFromFiles}
use Rattle.site_modules.proofs.kits.modules_in.Given as goal

-- the modules so far are those of the first plugins, and no file has failed
abbrev pub invariant-loop-place : goal.invariant-loop-place
invariant-loop-place g l =
    AreFromFiles (g.F.Files.contents l.initial.files) (take l.place (map syntax_of l.specs)) (map (λ m. m.items) l.modules.items)
    × (g.F.Files.contents l.files ≡ g.F.Files.contents l.initial.files)
    × (g.F.Files.failure_count l.files ≡ g.F.Files.failure_count l.initial.files)
