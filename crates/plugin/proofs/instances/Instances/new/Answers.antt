use Rattle.std.proofs.Common.{◌<◌, length, arith}
use Rattle.plugin.specs.Kit.{ready_parts}
use Rattle.plugin.proofs.MakingLemmas.{ready_more, weights_more, images_more, no_kit, all_instances, some_plugin, whole_kit}
use Rattle.plugin.proofs.instances.Instances.new.Goals as goal

pub loop-place-preserved : goal.loop-place-preserved
loop-place-preserved c =
    let below : c.loop-place.place < length c.args.plugins.now = omega (arith, c.count-place-end.ensures.value, c.loop-place-test.true) in
    record {
      made = ready_more c.args.plugins.now c.loop-place.members.items c.make_ready.new.members.items c.loop-place.place below c.loop-place.invariant.made c.in-Ok.ensures.joined;
      weights = weights_more c.args.plugins.now c.loop-place.members.items c.make_ready.new.members.items c.loop-place.place below c.loop-place.invariant.weights c.in-Ok.ensures.joined;
      images = images_more c.args.plugins.now c.loop-place.members.items c.make_ready.new.members.items c.loop-place.place below c.loop-place.invariant.images c.in-Ok.ensures.joined;
    }

pub returns-in-Err-clause-refused : goal.returns-in-Err-clause-refused
returns-in-Err-clause-refused c =
    let below : c.loop-place.place < length c.args.plugins.now = omega (arith, c.count-place-end.ensures.value, c.loop-place-test.true) in
    no_kit c.args.plugins.now (ready_parts c.loop-place.members.items) c.loop-place.place c.in-Err.fault below c.loop-place.invariant.made c.in-Err.ensures.refused

pub invariant_of-result : goal.invariant_of-result
invariant_of-result c = (
  all_instances c.args.plugins.now c.loop-place.members.items c.loop-place.place (omega (arith, c.count-place-end.ensures)) c.loop-place.invariant.made c.loop-place.invariant.weights,
  λ some. c.in-Ok-room_to_tell.ensures.room (some_plugin c.args.plugins.now c.loop-place.members.items c.loop-place.place c.loop-place.invariant.made some),
)

pub returns-in-Ok-room_to_tell-clause-made : goal.returns-in-Ok-room_to_tell-clause-made
returns-in-Ok-room_to_tell-clause-made c =
    whole_kit c.args.plugins.now (ready_parts c.loop-place.members.items) c.loop-place.place (omega (arith, c.count-place-end.ensures.value, c.loop-place-test.false)) c.loop-place.invariant.made
