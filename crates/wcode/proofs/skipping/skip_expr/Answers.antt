use Rattle.std.proofs.Common.{drop}
use Rattle.std.proofs.lemmas.Result.{err_from_is_err_and}
use Rattle.wcode.specs.inside.Ended.{closing}
use Rattle.wcode.specs.inside.Skipped.{SkipsBody}
use Rattle.wcode.proofs.Readers.{else_is_no_end, no_end}
use Rattle.wcode.proofs.BlockLists.{blocks_spell}
use Rattle.wcode.proofs.Shorter.{place_after, body_shorter}
use Rattle.wcode.proofs.skipping.skip_expr.Goals as goal

pub returns-in_err-skipped-clause-none : goal.returns-in_err-skipped-clause-none
unfolding SkipsBody
returns-in_err-skipped-clause-none c =
    let p = err_from_is_err_and c.from_residual.result c.from_residual.ensures.1 in
    rw (p.1, p.2) (λ m. no_end 256 (drop c.args.at c.args.bytes.now) (c.in_err-skipped.ensures m))

pub returns-then-skipped-clause-none : goal.returns-then-skipped-clause-none
unfolding SkipsBody
returns-then-skipped-clause-none c =
    let a = c.in_ok-skipped in
    λ m. else_is_no_end 256 (drop c.args.at c.args.bytes.now) a.skipped.by_else a.ensures.1 (drop a.skipped.next c.args.bytes.now) c.if-skipped.true
    (blocks_spell c.args.bytes.now 256 (closing a.skipped.by_else) (drop c.args.at c.args.bytes.now) a.ensures.1 (drop a.skipped.next c.args.bytes.now) a.ensures.2 a.ensures.4)

pub returns-clause-end : goal.returns-clause-end
unfolding SkipsBody
returns-clause-end c =
    let a = c.in_ok-skipped in
    let b = c.args.bytes.now in (
      place_after b c.args.at a.skipped.next a.ensures.0 (body_shorter 256 (closing a.skipped.by_else) (drop c.args.at b) a.ensures.1 (drop a.skipped.next b)
          (blocks_spell b 256 (closing a.skipped.by_else) (drop c.args.at b) a.ensures.1 (drop a.skipped.next b) a.ensures.2 a.ensures.4)),
      a.ensures.0,
    )
