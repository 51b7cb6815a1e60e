use Rattle.std.proofs.Common.{not, nat_eq, sym, ap, ◌∙◌}
use Rattle.objects.proofs.Items.{object_is_something}
use Rattle.objects.proofs.reading.is_something.Goals as goal

pub returns-in-Object : goal.returns-in-Object
returns-in-Object c =
    ap (λ n. not (nat_eq n 0)) c.len.ensures.len ∙ sym (object_is_something c.args.value.now c.in-Object.members c.in-Object.is)
