use Rattle.std.proofs.Common.{◌<◌, length, arith}
use Rattle.wmodule.specs.Syntax.{module_of}
use Rattle.whost.proofs.SegmentLemmas.{data_step}
use Rattle.whost.proofs.instantiation.write_data.Goals as goal

pub loop-segment-preserved : goal.loop-segment-preserved
loop-segment-preserved c =
    let before = c.args.machine.now in
    let less : c.loop-segment.segment < length (module_of before.content).data_segments = omega (arith, c.data_segment_count-segment-end.ensures, c.loop-segment-test.true) in
    data_step before c.loop-segment.machine c.put_data.new.self c.loop-segment.segment less c.loop-segment.invariant c.put_data.ensures
