use Rattle.leb.proofs.Clauses.{still_no_fault, same_fault}
use Rattle.leb.proofs.read_i64.Goals as goal

pub returns-in-Ok-clause-truncated : goal.returns-in-Ok-clause-truncated
returns-in-Ok-clause-truncated c = still_no_fault _ c.in-Ok.ensures.truncated

pub returns-in-Ok-clause-too_long : goal.returns-in-Ok-clause-too_long
returns-in-Ok-clause-too_long c = still_no_fault _ c.in-Ok.ensures.too_long

pub returns-in-Ok-clause-bad_last_byte : goal.returns-in-Ok-clause-bad_last_byte
returns-in-Ok-clause-bad_last_byte c = still_no_fault _ c.in-Ok.ensures.bad_last_byte

pub returns-in-Err-clause-none : goal.returns-in-Err-clause-none
returns-in-Err-clause-none c = c.in-Err.ensures.none

pub returns-in-Err-clause-truncated : goal.returns-in-Err-clause-truncated
returns-in-Err-clause-truncated c = same_fault c.in-Err.ensures.truncated

pub returns-in-Err-clause-too_long : goal.returns-in-Err-clause-too_long
returns-in-Err-clause-too_long c = same_fault c.in-Err.ensures.too_long

pub returns-in-Err-clause-bad_last_byte : goal.returns-in-Err-clause-bad_last_byte
returns-in-Err-clause-bad_last_byte c = same_fault c.in-Err.ensures.bad_last_byte
