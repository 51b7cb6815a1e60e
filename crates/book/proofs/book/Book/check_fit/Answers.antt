use Rattle.std.proofs.Common.{rules}
use Rattle.book.proofs.book.Book.check_fit.Goals as goal

-- `search rules` is found without this file too: with it, a wrong body that is tried here is
-- refused without a second run
pub returns-then-is_err : goal.returns-then-is_err
returns-then-is_err c = search rules

pub returns : goal.returns
returns c = search rules
