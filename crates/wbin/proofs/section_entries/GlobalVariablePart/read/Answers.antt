use Rattle.std.proofs.lemmas.Result.{err_from_is_err_and}
use Rattle.wbin.specs.inside.Reading.{Reads}
use Rattle.wbin.proofs.section_entries.GlobalVariablePart.read.Goals as goal

pub returns-in_err-kind-clause-read : goal.returns-in_err-kind-clause-read
unfolding Reads
returns-in_err-kind-clause-read c =
    let p = err_from_is_err_and c.from_residual.result c.from_residual.ensures.1 in
    rw (p.1, p.2) (λ m x rest h. c.in_err-kind.ensures.read m (x.kind, x.first) rest (h.0, h.1, h.2))
