use Rattle.std.proofs.Common.{ap, ◌∙◌}
use Rattle.wmodule.specs.declared.module.Tables.{Tables}
use Rattle.wmodule.specs.Syntax.{module_of, data_in}
use Rattle.wtype.specs.Accepted.{DataTyped}
use Rattle.wtype.proofs.Kept.{mapped_test}
use Rattle.wtype.proofs.rules.datas_kept.Goals as goal

pub returns : goal.returns
returns c =
    let p = c.args.decoded.now in
    mapped_test (DataTyped (module_of c.args.decoded.now)) (data_in p.bytes) p.tables.data_segments.items c.as_slice.result.now c.datas_typed.result (c.as_slice.ensures.value ∙ ap (λ (t : Tables). t.data_segments.items) c.tables.ensures.tables) c.datas_typed.ensures
