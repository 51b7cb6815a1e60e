use Rattle.std.proofs.Common.{◌∙◌, option_map}
use Rattle.serde_json.specs.View.{view}
use Rattle.objects.specs.Reading.{has}
use Rattle.objects.proofs.Named.{resource_more}
use Rattle.objects.proofs.Puts.{step}
use Rattle.objects.proofs.demands.put_other_resources.Goals as goal

pub loop-key-preserved : goal.loop-key-preserved
loop-key-preserved c =
    step c.loop-key.invariant c.put_resource.ensures (λ so_far more.
    so_far
    ∙ resource_more (has (option_map (λ v. view v.now) c.args.others)) c.loop-key.key-iterator c.next.new.self (c.in-Some.key.now, c.in-Some.value.now)
    c.loop-key.out.bytes.items c.put_resource.new.out.bytes.items
    c.in-Some.ensures.steps (rw (← c.as_str.ensures.value) more))
