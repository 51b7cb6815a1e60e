use Rattle.std.proofs.Common.{rules}
use Rattle.row_record.proofs.record.effect_code.Goals as goal

-- `search rules` is found without this file too: with it, a wrong body that is tried here is
-- refused without a second run
pub returns-in-None : goal.returns-in-None
returns-in-None c = search rules
