use Rattle.std.proofs.Common.{refl}
use Rattle.site_modules.proofs.kits.configured_by.Goals as goal

pub returns-clause-made : goal.returns-clause-made
returns-clause-made c = record {
  name = c.copied.ensures;
  weight = refl;
  fuel = refl;
  spells = rw (← c.in-Ok-new.ensures.ok) at c.in-Ok.ensures.spells;
  accepted = rw (← c.in-Ok-new.ensures.ok) at c.in-Ok.ensures.accepted;
}
