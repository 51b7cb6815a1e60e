use Rattle.std.proofs.Common.{rules}
use Rattle.choose.proofs.best.Worth.of.Goals as goal

-- `search rules` is found without this file too: with it, a wrong body that is tried here is
-- refused without a second run
pub returns-in-Error-Errs : goal.returns-in-Error-Errs
returns-in-Error-Errs c = search rules
