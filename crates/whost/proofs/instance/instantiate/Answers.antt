use Rattle.whost.proofs.InstanceLemmas.{image_at_end, refused_at_bounds, refused_at_start}
use Rattle.whost.proofs.instance.instantiate.Goals as goal

pub returns-in-Err-clause-refused : goal.returns-in-Err-clause-refused
returns-in-Err-clause-refused c =
    refused_at_bounds c.args.machine.now.content c.args.machine.now c.args.fuel c.in-Err.fault c.requires c.in-Err.ensures

pub returns-in-Err-start-clause-refused : goal.returns-in-Err-start-clause-refused
returns-in-Err-start-clause-refused c =
    refused_at_start c.args.machine.now.content c.args.machine.now c.write_segments.new.machine c.args.fuel c.in-Err-start.fault c.requires c.in-Ok.ensures c.write_segments.ensures c.in-Err-start.ensures.ends

pub returns-in-Ok-start-clause-image : goal.returns-in-Ok-start-clause-image
returns-in-Ok-start-clause-image c =
    image_at_end c.args.machine.now.content c.args.machine.now c.write_segments.new.machine c.start.new.machine c.args.fuel _ c.requires c.in-Ok.ensures c.write_segments.ensures c.in-Ok-start.ensures.ends (cc)

pub returns-in-Ok-start-clause-store : goal.returns-in-Ok-start-clause-store
returns-in-Ok-start-clause-store c = cc
