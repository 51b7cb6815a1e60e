use Rattle.wbin.proofs.Sections.{outline_begins, outline_more, outline_ends, outline_fails}
use Rattle.wbin.proofs.section.find_sections.Goals as goal

pub loop-place-init : goal.loop-place-init
loop-place-init c = outline_begins c.args.bytes.now c.args.at _ c.new-sections.ensures.items c.requires

pub loop-place-preserved : goal.loop-place-preserved
loop-place-preserved c =
    outline_more c.args.bytes.now c.args.at c.loop-place.sections.items c.loop-place.place c.loop-place.above c.in-Ok.section _ _ c.in_ok-push-in-Ok.ensures.items c.max-above.ensures c.loop-place.invariant c.in-Ok.ensures

pub returns-in-Err : goal.returns-in-Err
returns-in-Err c =
    (c.loop-place.invariant.each, outline_fails c.args.bytes.now c.args.at c.loop-place.sections.items c.loop-place.place c.loop-place.above c.in-Err.fault c.loop-place-test.true c.loop-place.invariant c.in-Err.ensures)

pub returns : goal.returns
returns c =
    (c.loop-place.invariant.each, outline_ends c.args.bytes.now c.args.at c.loop-place.sections.items c.loop-place.place c.loop-place.above c.loop-place-test.false c.loop-place.invariant)
