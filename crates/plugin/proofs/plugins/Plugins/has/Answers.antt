use Rattle.std.proofs.Common.{sym}
use Rattle.plugin.proofs.EntryLemmas.{found_is_taken}
use Rattle.plugin.proofs.plugins.Plugins.has.Goals as goal

pub returns : goal.returns
returns c = rw (sym c.self.view_is) (found_is_taken c.self.inside.entries.entries c.args.name.now c.contains_key.result c.contains_key.ensures)
