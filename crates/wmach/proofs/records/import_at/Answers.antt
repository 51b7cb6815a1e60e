use Rattle.std.proofs.Common.{ap}
use Rattle.wmodule.specs.declared.module.Tables.{Tables}
use Rattle.wmach.proofs.Shapes.{found_at}
use Rattle.wmach.proofs.records.import_at.Goals as goal

pub returns : goal.returns
returns c = found_at c.tables.result.now.imports.items c.args.decoded.now.tables.imports.items c.args.place c.index.result.now (ap (λ (t : Tables). t.imports.items) c.tables.ensures.tables) c.requires c.index.ensures
