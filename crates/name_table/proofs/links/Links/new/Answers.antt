-- None is written.
use Rattle.std.proofs.Common.{ap, ◌∙◌}
use Rattle.name_table.specs.inside.Written.{hung}
use Rattle.name_table.proofs.WrittenLemmas.{hung_new}
use Rattle.name_table.proofs.links.Links.new.Goals as goal

pub returns : goal.returns
returns c = ap (λ w. hung w c.args.room c.args.free) c.in-Ok.ensures.items ∙ hung_new c.args.free c.args.room
