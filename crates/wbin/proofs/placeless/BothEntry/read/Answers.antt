use Rattle.std.proofs.Common.{drop}
use Rattle.std.proofs.lemmas.Result.{err_from_is_err_and}
use Rattle.wbin.specs.inside.Reading.{Reads}
use Rattle.wbin.proofs.Vectors.{first_missing, second_missing}
use Rattle.wbin.proofs.placeless.BothEntry.read.Goals as goal

pub returns-in_err-first : goal.returns-in_err-first
unfolding Reads
returns-in_err-first g c =
    let p = err_from_is_err_and c.from_residual.result c.from_residual.ensures.1 in
    rw (p.1, p.2) (λ m. first_missing g.A.Entry.spells g.B.Entry.spells (drop c.args.at c.args.bytes.now) (c.in_err-first.ensures m))

pub returns-in_err-second : goal.returns-in_err-second
unfolding Reads
returns-in_err-second g c =
    let a = c.in_ok-first in
    let p = err_from_is_err_and c.from_residual-in_err-second.result c.from_residual-in_err-second.ensures.1 in
    rw (p.1, p.2)
    (λ m. second_missing g.A.Entry.spells g.B.Entry.spells g.met.A.Entry.once (drop c.args.at c.args.bytes.now) _ _ a.ensures.1 (c.in_err-second.ensures m))

pub returns : goal.returns
unfolding Reads
returns g c =
    let a = c.in_ok-first in
    let b = c.in_ok-second in
    (b.ensures.0, (drop a.next c.args.bytes.now, a.ensures.1, b.ensures.1))
