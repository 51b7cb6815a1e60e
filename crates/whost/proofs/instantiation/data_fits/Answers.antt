use Rattle.std.proofs.Common.{◌<◌, length, arith}
use Rattle.wmodule.specs.Syntax.{DataSyntax, module_of}
use Rattle.wstore.specs.Segments.{DataFits}
use Rattle.whost.proofs.SegmentLemmas.{one_fails, one_more}
use Rattle.whost.proofs.instantiation.data_fits.Goals as goal

pub returns-then-not-fits_data : goal.returns-then-not-fits_data
returns-then-not-fits_data c =
    let m = c.args.machine.now in
    let less : c.loop-segment.segment < length (module_of m.content).data_segments = omega (arith, c.data_segment_count-segment-end.ensures, c.loop-segment-test.true) in
    one_fails (λ (s : DataSyntax). DataFits s m.store) (module_of m.content).data_segments c.loop-segment.segment c.fits_data.result less c.fits_data.ensures c.if-not-fits_data.true

pub loop-segment-preserved : goal.loop-segment-preserved
loop-segment-preserved c =
    let m = c.args.machine.now in
    let less : c.loop-segment.segment < length (module_of m.content).data_segments = omega (arith, c.data_segment_count-segment-end.ensures, c.loop-segment-test.true) in
    one_more (λ (s : DataSyntax). DataFits s m.store) (module_of m.content).data_segments c.loop-segment.segment c.fits_data.result less c.fits_data.ensures c.if-not-fits_data.false c.loop-segment.invariant
