use Rattle.std.proofs.Common.{refl}
use Rattle.translator.proofs.Translated.{done_at_end, told_at_end, untold_at_end}
use Rattle.translator.proofs.translate_run.serve_translation.Goals as goal

pub returns-in-Ok : goal.returns-in-Ok
returns-in-Ok g c = done_at_end _ _ _ _ _ _ c.in-Ok.ensures refl

pub returns-in-Err-By : goal.returns-in-Err-By
returns-in-Err-By g c = told_at_end _ _ _ _ _ _ _ _ _ _ _ _ c.in-Err-By.fault (rw c.in-Err-By.field-0-is at c.in-Err-By.ensures) c.report.ensures.status c.report.ensures.told

pub returns-in-Err-Untold : goal.returns-in-Err-Untold
returns-in-Err-Untold g c = untold_at_end _ _ _ _ _ (rw c.in-Err-Untold.field-0-is at c.in-Err-Untold.ensures) c.status.ensures
