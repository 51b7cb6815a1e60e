use Rattle.std.proofs.Common.{drop}
use Rattle.std.proofs.lemmas.Result.{err_from_is_err_and}
use Rattle.wcode.specs.Syntax.{body_of}
use Rattle.wcode.specs.inside.Ended.{GivesBody}
use Rattle.wcode.proofs.Readers.{else_is_no_end, no_end}
use Rattle.wcode.proofs.expression.read_expr.Goals as goal

pub returns-then-ended-clause-none : goal.returns-then-ended-clause-none
unfolding GivesBody
returns-then-ended-clause-none c =
    let a = c.in_ok-ended in
    λ m. else_is_no_end 256 (drop c.args.at c.args.bytes.now) a.ended.by_else (body_of a.ended.body.items) (drop a.ended.next c.args.bytes.now) c.if-ended.true a.ensures.1

pub returns-in_err-ended-clause-none : goal.returns-in_err-ended-clause-none
unfolding GivesBody
returns-in_err-ended-clause-none c =
    let p = err_from_is_err_and c.from_residual.result c.from_residual.ensures.1 in
    rw (p.1, p.2) (λ m. no_end 256 (drop c.args.at c.args.bytes.now) (c.in_err-ended.ensures m))
