use Rattle.std.proofs.Common.{ap, ◌∙◌}
use Rattle.wmodule.specs.declared.module.Tables.{Tables}
use Rattle.wmodule.specs.Syntax.{module_of, import_of}
use Rattle.wtype.specs.Accepted.{ImportAllowed}
use Rattle.wtype.proofs.Kept.{mapped_test}
use Rattle.wtype.proofs.imports.imports_right.Goals as goal

pub returns : goal.returns
returns c =
    let p = c.args.decoded.now in
    mapped_test (ImportAllowed (module_of p)) import_of p.tables.imports.items c.as_slice.result.now c.are_allowed.result (c.as_slice.ensures.value ∙ ap (λ (t : Tables). t.imports.items) c.tables.ensures.tables) c.are_allowed.ensures
