use Rattle.std.proofs.lemmas.Result.{err_from_is_err_and}
use Rattle.wcode.proofs.Words.{mem_arg_none}
use Rattle.wcode.proofs.reading.read_mem_arg.Goals as goal

pub returns-in_err-offset-clause-none : goal.returns-in_err-offset-clause-none
returns-in_err-offset-clause-none c =
    let p = err_from_is_err_and c.from_residual-in_err-offset.result c.from_residual-in_err-offset.ensures.1 in
    rw (p.1) (mem_arg_none _ _ _ c.in_ok-align.ensures.found c.in_err-offset.ensures.none)
