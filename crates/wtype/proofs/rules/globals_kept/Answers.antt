use Rattle.std.proofs.Common.{ap, ◌∙◌}
use Rattle.wmodule.specs.declared.module.Tables.{Tables}
use Rattle.wmodule.specs.Syntax.{global_in}
use Rattle.wtype.specs.Accepted.{GlobalTyped}
use Rattle.wtype.proofs.Kept.{mapped_test}
use Rattle.wtype.proofs.rules.globals_kept.Goals as goal

pub returns : goal.returns
returns c =
    let p = c.args.decoded.now in
    mapped_test GlobalTyped (global_in p.bytes) p.tables.globals.items c.as_slice.result.now c.globals_typed.result (c.as_slice.ensures.value ∙ ap (λ (t : Tables). t.globals.items) c.tables.ensures.tables) c.globals_typed.ensures
