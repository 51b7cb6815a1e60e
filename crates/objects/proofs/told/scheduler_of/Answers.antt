use Rattle.std.proofs.Common.{◌∙◌, is_some, refl, sym, ap}
use Rattle.objects.proofs.Items.{some_of_map}
use Rattle.objects.proofs.told.scheduler_of.Goals as goal

pub returns-then-is_some : goal.returns-then-is_some
returns-then-is_some c =
    let there = sym c.if-is_some.true ∙ c.is_some.ensures ∙ sym (some_of_map _ c.field.result) ∙ ap is_some c.field.ensures in
    rw (← there, c.spelled.ensures) refl

pub returns-else-is_some : goal.returns-else-is_some
returns-else-is_some c =
    let there = sym c.if-is_some.false ∙ c.is_some.ensures ∙ sym (some_of_map _ c.field.result) ∙ ap is_some c.field.ensures in
    rw (← there) refl
