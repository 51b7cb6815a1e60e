-- As many slots as there are links after one another.
use Rattle.name_table.proofs.WrittenLemmas.{next_many}
use Rattle.name_table.proofs.links.Links.room.Goals as goal

pub returns : goal.returns
returns c = next_many c.self.inside.free c.self.inside.written.items c.self.inside.room c.args.self.now c.self.view_is
