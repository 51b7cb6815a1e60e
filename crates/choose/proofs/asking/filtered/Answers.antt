use Rattle.std.proofs.Common.{◌∙◌}
use Rattle.choose.proofs.asking.filtered.Goals as goal

-- no filter changes the rules

pub returns-in-Rejects-clause-stays : goal.returns-in-Rejects-clause-stays
returns-in-Rejects-clause-stays g c = c.filter.ensures.stays ∙ c.loop-place.invariant.stays

pub returns-in-Errs-clause-stays : goal.returns-in-Errs-clause-stays
returns-in-Errs-clause-stays g c = c.filter.ensures.stays ∙ c.loop-place.invariant.stays
