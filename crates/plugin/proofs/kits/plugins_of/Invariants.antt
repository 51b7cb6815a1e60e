use Rattle.std.proofs.Common.{◌≡◌, take}
use Rattle.plugin.specs.Entries.{configurations_of}
use Rattle.plugin.proofs.kits.plugins_of.Given as goal

-- the plugins so far are the first ones
abbrev pub invariant-loop-place : goal.invariant-loop-place
invariant-loop-place l = l.plugins ≡ take l.place (configurations_of l.site)
