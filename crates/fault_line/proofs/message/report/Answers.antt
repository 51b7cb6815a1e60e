use Rattle.std.proofs.Common.{rules}
use Rattle.fault_line.proofs.message.report.Goals as goal

-- `search rules` is found without this file too: with it, a wrong body that is tried here is
-- refused without a second run
pub returns-clause-status : goal.returns-clause-status
returns-clause-status g c = search rules
