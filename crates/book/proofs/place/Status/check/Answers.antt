use Rattle.std.proofs.Common.{rules}
use Rattle.book.proofs.place.Status.check.Goals as goal

-- `search rules` is found without this file too: with it, a wrong body that is tried here is
-- refused without a second run
pub returns-in-Assumed-default-Some : goal.returns-in-Assumed-default-Some
returns-in-Assumed-default-Some c = search rules

pub returns-in-Assumed-2 : goal.returns-in-Assumed-2
returns-in-Assumed-2 c = search rules
