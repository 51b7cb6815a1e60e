use Rattle.std.proofs.Common.{◌∙◌}
use Rattle.objects.proofs.Named.{field_more}
use Rattle.objects.proofs.Puts.{step}
use Rattle.objects.proofs.demands.put_fields.Goals as goal

pub loop-key-preserved : goal.loop-key-preserved
loop-key-preserved c =
    step c.loop-key.invariant c.put_other_field.ensures (λ so_far more.
    so_far
    ∙ field_more c.loop-key.key-iterator c.next.new.self (c.in-Some-2.key.now, c.in-Some-2.value.now) c.loop-key.out.bytes.items c.put_other_field.new.out.bytes.items
    c.in-Some-2.ensures.steps (rw (← c.as_str.ensures.value) more))
