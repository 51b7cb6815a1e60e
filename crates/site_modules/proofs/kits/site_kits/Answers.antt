use Rattle.std.proofs.Common.{map}
use Rattle.plugin.specs.Entries.{configurations_of}
use Rattle.site_modules.proofs.Sites.{within}
use Rattle.site_modules.proofs.kits.site_kits.Goals as goal

pub kits_of-requires : goal.kits_of-requires
kits_of-requires c =
    rw c.as_slice.ensures.value (within c.args.specs.now (map (λ m. m.items) c.args.modules.now) (configurations_of c.in-Ok.site.items) c.requires.specs c.in-Ok.ensures.made)
