use Rattle.std.proofs.Common.{sym, ◌∙◌}
use Rattle.wbody.proofs.Alignment.{not_at_most, too_wide}
use Rattle.wbody.proofs.scope.is_aligned_to.Goals as goal

pub returns-else-arg-le3 : goal.returns-else-arg-le3
returns-else-arg-le3 c =
    not_at_most c.args.arg.align 3 c.if-arg-le3.false ∙ sym (too_wide c.args.arg.align c.args.bytes c.if-arg-le3.false c.requires)
