use Rattle.std.proofs.Common.{ap, ◌∙◌}
use Rattle.wmodule.specs.declared.module.Tables.{Tables}
use Rattle.wmodule.specs.Syntax.{module_of, element_in}
use Rattle.wtype.specs.Accepted.{ElementTyped}
use Rattle.wtype.proofs.Kept.{mapped_test}
use Rattle.wtype.proofs.rules.elements_kept.Goals as goal

pub returns : goal.returns
returns c =
    let p = c.args.decoded.now in
    mapped_test (ElementTyped (module_of c.args.decoded.now)) (element_in p.bytes) p.tables.element_segments.items c.as_slice.result.now c.elements_typed.result (c.as_slice.ensures.value ∙ ap (λ (t : Tables). t.element_segments.items) c.tables.ensures.tables) c.elements_typed.ensures
