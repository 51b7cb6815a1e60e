use Rattle.std.proofs.Common.{drop}
use Rattle.std.proofs.lemmas.Result.{err_from_is_err_and}
use Rattle.wbin.specs.inside.Reading.{Reads}
use Rattle.wbin.proofs.Vectors.{first_missing, second_missing}
use Rattle.wbin.proofs.placed.ThenPart.read.Goals as goal

pub returns-in_err-first-clause-read : goal.returns-in_err-first-clause-read
unfolding Reads
returns-in_err-first-clause-read g c =
    let p = err_from_is_err_and c.from_residual.result c.from_residual.ensures.1 in
    rw (p.1, p.2) (λ m. first_missing g.A.Part.spells g.B.Part.spells (drop c.args.at c.args.bytes.now) (c.in_err-first.ensures.read m))

pub returns-in_err-second-clause-read : goal.returns-in_err-second-clause-read
unfolding Reads
returns-in_err-second-clause-read g c =
    let a = c.in_ok-first in
    let p = err_from_is_err_and c.from_residual-in_err-second.result c.from_residual-in_err-second.ensures.1 in
    rw (p.1, p.2)
    (λ m. second_missing g.A.Part.spells g.B.Part.spells g.met.A.Part.once (drop c.args.at c.args.bytes.now) _ _ a.ensures.read.1 (c.in_err-second.ensures.read m))

pub returns-clause-read : goal.returns-clause-read
unfolding Reads
returns-clause-read g c =
    let a = c.in_ok-first in
    let b = c.in_ok-second in
    (b.ensures.read.0, (drop a.next c.args.bytes.now, a.ensures.read.1, b.ensures.read.1))
