use Rattle.std.proofs.Common.{◌<◌, length, arith}
use Rattle.wmodule.specs.Syntax.{ElementSyntax, module_of}
use Rattle.wstore.specs.Segments.{ElementsFit}
use Rattle.whost.proofs.SegmentLemmas.{one_fails, one_more}
use Rattle.whost.proofs.instantiation.elements_fit.Goals as goal

pub returns-then-not-fits_elements : goal.returns-then-not-fits_elements
returns-then-not-fits_elements c =
    let m = c.args.machine.now in
    let less : c.loop-segment.segment < length (module_of m.content).element_segments = omega (arith, c.element_segment_count-segment-end.ensures, c.loop-segment-test.true) in
    one_fails (λ (s : ElementSyntax). ElementsFit s m.store) (module_of m.content).element_segments c.loop-segment.segment c.fits_elements.result less c.fits_elements.ensures c.if-not-fits_elements.true

pub loop-segment-preserved : goal.loop-segment-preserved
loop-segment-preserved c =
    let m = c.args.machine.now in
    let less : c.loop-segment.segment < length (module_of m.content).element_segments = omega (arith, c.element_segment_count-segment-end.ensures, c.loop-segment-test.true) in
    one_more (λ (s : ElementSyntax). ElementsFit s m.store) (module_of m.content).element_segments c.loop-segment.segment c.fits_elements.result less c.fits_elements.ensures c.if-not-fits_elements.false c.loop-segment.invariant
