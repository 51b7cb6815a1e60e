use Rattle.std.proofs.Common.{refl}
use Rattle.objects.proofs.Added.{with_last}
use Rattle.objects.proofs.line_field.put_cpu.Goals as goal

pub returns : goal.returns
returns c = with_last c.string.result _ _ c.string.ensures.ok (λ told. (rw (told, c.as_str.ensures.value, c.in_ok-text.ensures.ok) refl, c.string.ensures.room.0))
