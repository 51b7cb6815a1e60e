use Rattle.std.proofs.lemmas.List.Elements.{All-nil}
use Rattle.plugin.specs.Refused.{HasImage}
use Rattle.plugin.specs.inside.Entries.{configured}
use Rattle.plugin.proofs.plugins.Plugins.room_to_tell.Goals as goal

pub returns-clause-refused : goal.returns-clause-refused
returns-clause-refused c = record {
  place = 0;
  plugin = configured (c.entry.result.0.now, c.entry.result.1.now);
  there = c.entry.ensures.is;
  fails = record { named = c.copied.ensures; why = tt };
  before = All-nil HasImage;
}
