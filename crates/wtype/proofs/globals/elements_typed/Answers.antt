use Rattle.std.proofs.Common.{sym, subst}
use Rattle.wmodule.specs.Placed.{IsElement}
use Rattle.wtype.proofs.globals.elements_typed.Goals as goal

pub element_typed-requires-clause-stands : goal.element_typed-requires-clause-stands
element_typed-requires-clause-stands c =
    subst (IsElement c.args.decoded.now.bytes) (sym c.segment-item.is) (c.requires.stand c.loop-segment.segment-index c.segment-item.result c.loop-segment-test.true)
