use Rattle.std.proofs.Common.{◌+◌, Some, ap, sym, ◌∙◌}
use Rattle.desk.specs.Shown.{shown}
use Rattle.choose.proofs.OnePass.{plus_hundred, plain_worth}
use Rattle.choose.proofs.alone.plain_total.Goals as goal

-- a hundred more than the score, which is enough where the score is within a hundred of it
pub returns-in-Some-clause-total : goal.returns-in-Some-clause-total
returns-in-Some-clause-total c =
    let told = rw (c.saturating_sub-least.ensures, c.allocatable.ensures) at c.score_from.ensures.value in λ most.
    ap (λ n. Some (n + 100)) c.from.ensures ∙ ap plus_hundred (sym c.in-Some.is ∙ told) ∙ sym (plain_worth c.args.pod.now (shown c.args.row.now) most c.args.least c.requires)

pub returns-in-None-clause-total : goal.returns-in-None-clause-total
returns-in-None-clause-total c =
    let told = rw (c.saturating_sub-least.ensures, c.allocatable.ensures) at c.score_from.ensures.value in λ most.
    ap plus_hundred (sym c.in-None.is ∙ told) ∙ sym (plain_worth c.args.pod.now (shown c.args.row.now) most c.args.least c.requires)
